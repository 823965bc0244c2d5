use Rattle.std.proofs.Common.{rules, ◌≡◌, ◌<◌, ℕ, List, ◌∷◌, Option, Some, arith, ap, subst, ◌∙◌}
use Rattle.std.specs.List.{All}
use Rattle.std.proofs.lemmas.List.Elements.{All-weaker}
use Rattle.suri_base.specs.declared.entry.Entry.{Entry}
use Rattle.suri_base.specs.History.{entries_of, Begins}
use Rattle.hist_lock.specs.declared.view.Home.{Home}
use Rattle.hist_lock.specs.declared.pass.Pass.{Pass}
use Rattle.hist_lock.specs.Rule.{past_of, Sat, HasRole, HasAll, IsTurn}
use Rattle.hist_lock.specs.Locks.{IsTakenIn, seen_by, made_of}
use Rattle.hist_lock.proofs.Keeps.{takes_turn, none_there, none_long}
use Rattle.hist_lock.proofs.Seats.{as_many, covers, heard_begins, same_home}
use Rattle.hist_lock.proofs.table.HistLock.finish.Goals as goal

pub gather-seat-requires-clause-some : goal.gather-seat-requires-clause-some
gather-seat-requires-clause-some g c =
    omega (arith, as_many (λ (p : Pass g.row.M.Denot g.row.M-Call.Denot g.row.M-Reply.Denot g.row.M-Note.Denot g.row.M-Fixed.Denot g.M.Machine). p.role) 0 c.args.self.table.shared.key.roles c.args.passes.items c.requires.roles)

pub compare_exchange-requires : goal.compare_exchange-requires
compare_exchange-requires g c =
    let P = Pass g.row.M.Denot g.row.M-Call.Denot g.row.M-Reply.Denot g.row.M-Note.Denot g.row.M-Fixed.Denot g.M.Machine in
    let seat = c.gather-seat.result in
    let t = covers (λ (p : P). p.role) (λ (p : P). IsTakenIn seat p) 0 c.args.self.table.shared.key.roles c.args.passes.items c.requires.roles c.gather-seat.ensures.all 0 (omega arith) (omega arith) in
    (c.gather-seat.ensures.lock.0, search rules, takes_turn _ _ _ _ _ _ _ _ _ t.0.role (made_of t.0) t.2.0 (none_there _ c.gather-seat.ensures.idle.1))

pub unreachable-requires : goal.unreachable-requires
unreachable-requires g c =
    let P = Pass g.row.M.Denot g.row.M-Call.Denot g.row.M-Reply.Denot g.row.M-Note.Denot g.row.M-Fixed.Denot g.M.Machine in
    let seat = c.gather-seat.result in
    let a : g.row.M-Fixed.Denot × ℕ = (g.M.Machine.fixed c.args.self.table.shared.key.machine.value, c.args.self.table.shared.key.roles) in
    let all : HasAll seat.me.0 c.args.self.table.shared.key.roles = λ q below.
    let t = covers (λ (p : P). p.role) (λ (p : P). IsTakenIn seat p) 0 c.args.self.table.shared.key.roles c.args.passes.items c.requires.roles c.gather-seat.ensures.all q (omega arith) (omega arith) in
    (made_of t.0, subst (λ (n : ℕ). HasRole seat.me.0 n (made_of t.0)) t.1 t.2.0) in
    ((c.compare_exchange.ensures.2 a c.gather-seat.ensures.lock.1).1 c.if-compare_exchange-ne0.true).1 all

pub lift-machine-requires-clause-slot : goal.lift-machine-requires-clause-slot
lift-machine-requires-clause-slot g c =
    let a : g.row.M-Fixed.Denot × ℕ = (g.M.Machine.fixed c.args.self.table.shared.key.machine.value, c.args.self.table.shared.key.roles) in
    let t = (c.compare_exchange.ensures.2 a c.gather-seat.ensures.lock.1).0 c.if-compare_exchange-ne0.false in
    let M = Sat g.row.M.Denot g.row.M-Note.Denot g.row.M-Fixed.Denot in
    (t.0, ap (λ (m : M). m.1) t.1 ∙ ap (λ (l : List (ℕ × Option (Home g.row.M.Denot g.row.M-Note.Denot))). (0, Some t.0) ∷ l) (none_long c.gather-seat.result.me.1 c.gather-seat.ensures.idle.0))

pub returns-clause-begins : goal.returns-clause-begins
returns-clause-begins g c =
    let a : g.row.M-Fixed.Denot × ℕ = (g.M.Machine.fixed c.args.self.table.shared.key.machine.value, c.args.self.table.shared.key.roles) in
    let t = (c.compare_exchange.ensures.2 a c.gather-seat.ensures.lock.1).0 c.if-compare_exchange-ne0.false in
    let home = c.lift-machine.result in
    let M = Sat g.row.M.Denot g.row.M-Note.Denot g.row.M-Fixed.Denot in
    let same = same_home c.compare_exchange.new.seat.me.1 _ _ t.0 home (ap (λ (m : M). m.1) t.1) c.lift-machine.ensures.home in
    let turn : IsTurn g.M.Machine.fixed g.M.Machine.stands g.M.Machine.may g.M.Machine.answers a c.gather-seat.result.me.0 home = subst (λ (h : Home g.row.M.Denot g.row.M-Note.Denot). IsTurn g.M.Machine.fixed g.M.Machine.stands g.M.Machine.may g.M.Machine.answers a c.gather-seat.result.me.0 h) same t.2 in
    All-weaker (λ p. IsTakenIn c.gather-seat.result p) (λ p. Begins (seen_by p) (past_of home)) (λ p h. heard_begins g.M.Machine.fixed g.M.Machine.stands g.M.Machine.may g.M.Machine.answers a c.gather-seat.result.me.0 home (seen_by p) turn h.1) c.args.passes.items c.gather-seat.ensures.all

pub returns-clause-own : goal.returns-clause-own
returns-clause-own g c =
    let a : g.row.M-Fixed.Denot × ℕ = (g.M.Machine.fixed c.args.self.table.shared.key.machine.value, c.args.self.table.shared.key.roles) in
    let t = (c.compare_exchange.ensures.2 a c.gather-seat.ensures.lock.1).0 c.if-compare_exchange-ne0.false in
    let home = c.lift-machine.result in
    let M = Sat g.row.M.Denot g.row.M-Note.Denot g.row.M-Fixed.Denot in
    let same = same_home c.compare_exchange.new.seat.me.1 _ _ t.0 home (ap (λ (m : M). m.1) t.1) c.lift-machine.ensures.home in
    let turn : IsTurn g.M.Machine.fixed g.M.Machine.stands g.M.Machine.may g.M.Machine.answers a c.gather-seat.result.me.0 home = subst (λ (h : Home g.row.M.Denot g.row.M-Note.Denot). IsTurn g.M.Machine.fixed g.M.Machine.stands g.M.Machine.may g.M.Machine.answers a c.gather-seat.result.me.0 h) same t.2 in
    All-weaker (λ p. IsTakenIn c.gather-seat.result p) (λ p. entries_of p.role (past_of home) ≡ made_of p) (λ p h. (turn.mine p.role (made_of p) h.0).1) c.args.passes.items c.gather-seat.ensures.all

pub returns-clause-known : goal.returns-clause-known
returns-clause-known g c =
    let a : g.row.M-Fixed.Denot × ℕ = (g.M.Machine.fixed c.args.self.table.shared.key.machine.value, c.args.self.table.shared.key.roles) in
    let t = (c.compare_exchange.ensures.2 a c.gather-seat.ensures.lock.1).0 c.if-compare_exchange-ne0.false in
    let home = c.lift-machine.result in
    let M = Sat g.row.M.Denot g.row.M-Note.Denot g.row.M-Fixed.Denot in
    let same = same_home c.compare_exchange.new.seat.me.1 _ _ t.0 home (ap (λ (m : M). m.1) t.1) c.lift-machine.ensures.home in
    subst (λ (h : Home g.row.M.Denot g.row.M-Note.Denot). All (λ (e : Entry g.row.M-Note.Denot). e.role < c.args.self.table.shared.key.roles) (past_of h)) same t.2.known
