use Rattle.std.proofs.Common.{rules, ℕ, ◌≡◌, ◌∷◌, Some, sym, ap, ◌∙◌, subst}
use Rattle.hist_lock.specs.declared.view.Home.{Home}
use Rattle.hist_lock.specs.Rule.{past_of, Sat, HasRole, turned, IsTurn}
use Rattle.hist_lock.proofs.Keeps.{takes_turn, none_long, none_there}
use Rattle.hist_lock.proofs.table.HistLock.take_turn.Goals as goal

pub compare_exchange-requires : goal.compare_exchange-requires
compare_exchange-requires g c =
    let inv = c.loop.invariant.1 in
    let q = c.requires.role in
    let has = subst (λ (m : Sat g.row.M.Denot g.row.M-Note.Denot g.row.M-Fixed.Denot). HasRole m.0 q.0 q.1) (sym inv) q.2 in
    let free = ap (λ (m : Sat g.row.M.Denot g.row.M-Note.Denot g.row.M-Fixed.Denot). m.0.whole) inv ∙ none_there _ c.requires.idle.1 in
    (c.loop.invariant.0.0 ∙ c.requires.lock.0, search rules, takes_turn _ _ _ _ _ _ _ _ _ q.0 q.1 has free)

pub returns-then-compare_exchange-eq0-clause-turn :
    goal.returns-then-compare_exchange-eq0-clause-turn
returns-then-compare_exchange-eq0-clause-turn g c =
    let inv = c.loop.invariant.1 in
    let a : g.row.M-Fixed.Denot × ℕ = (g.M.Machine.fixed c.args.self.now.table.shared.key.machine.value, c.args.self.now.table.shared.key.roles) in
    let M = Sat g.row.M.Denot g.row.M-Note.Denot g.row.M-Fixed.Denot in
    let about = ap (λ (m : M). m.0.about) inv ∙ c.requires.lock.1 in
    let P : M → Type 0 = λ m. (h : Home g.row.M.Denot g.row.M-Note.Denot) × (c.compare_exchange.new.seat.me ≡ (turned m.0 (past_of h), (0, Some h) ∷ m.1)) × IsTurn g.M.Machine.fixed g.M.Machine.stands g.M.Machine.may g.M.Machine.answers a m.0 h in
    let t : P c.args.seat.now.me = subst P inv ((c.compare_exchange.ensures.2 a about).0 c.if-compare_exchange-eq0.true) in
    (t.0, t.1 ∙ (λ i. (turned c.args.seat.now.me.0 (past_of t.0), (0, Some t.0) ∷ none_long c.args.seat.now.me.1 c.requires.idle.0 i)), t.2)
