use Rattle.std.proofs.Common.{List, [], ◌∷◌, refl, ap, sym, subst, ◌∙◌, arith, length}
use Rattle.std.proofs.lemmas.List.{length-reverse}
use Rattle.suri_base.specs.declared.entry.Entry.{Entry}
use Rattle.suri_base.specs.History.{entry, entries_of, Rises, Legal}
use Rattle.suri_base.proofs.Histories.{entries_own, entries_since}
use Rattle.hist_lock.specs.Rule.{past_of, Sat, HasRole, idle, entered, made_in}
use Rattle.hist_lock.proofs.Keeps.{known_more, may_now, plain_role, made_again}
use Rattle.hist_lock.proofs.table.HistLock.apply.Goals as goal

pub enter-home-requires-clause-role : goal.enter-home-requires-clause-role
enter-home-requires-clause-role g c = (c.args.pass.now.role, made_in c.args.pass.now.seat.me.0.roles, plain_role c.args.pass.now.seat.me _ _ c.args.pass.now.plain)

pub turn-requires-clause-may : goal.turn-requires-clause-may
turn-requires-clause-may g c =
    let turn = c.enter-home.ensures.turn in
    let f = g.M.Machine.fixed c.args.self.now.table.shared.key.machine.value in
    subst (λ (x : g.row.M-Fixed.Denot). g.M.Machine.may x c.args.pass.now.role (past_of c.enter-home.result) c.args.call) (sym turn.rests.0)
    (may_now _ _ _ _ _ _ (g.met.M.Machine.may_stays f) _ _ _ _ _ turn (plain_role c.args.pass.now.seat.me _ _ c.args.pass.now.plain) c.requires.may)

pub leave_entered-requires-clause-entry : goal.leave_entered-requires-clause-entry
leave_entered-requires-clause-entry g c =
    let M = Sat g.row.M.Denot g.row.M-Note.Denot g.row.M-Fixed.Denot in
    let turn = c.enter-home.ensures.turn in
    let f = g.M.Machine.fixed c.args.self.now.table.shared.key.machine.value in
    let role = c.args.pass.now.role in
    let made = made_in c.args.pass.now.seat.me.0.roles in
    let items = past_of c.enter-home.result in
    let ok = c.in-Ok.ensures.ok in
    let has = plain_role c.args.pass.now.seat.me _ _ c.args.pass.now.plain in record {
      log = items;
      next = entry role c.args.step ok.0;
      whole = ap (λ (m : M). m.0.whole) c.enter-home.ensures.after;
      more = ok.1;
      made = made;
      mine = subst (λ (m : M). HasRole m.0 role made) (sym c.enter-home.ensures.after) has;
      follows = (
        c.args.call,
        c.in-Ok.reply,
        may_now _ _ _ _ _ _ (g.met.M.Machine.may_stays f) _ _ _ _ _ turn has c.requires.may,
        subst (λ (x : g.row.M-Fixed.Denot). g.M.Machine.answers x items role c.args.call c.in-Ok.reply ok.0) turn.rests.0 ok.2,
      );
      fits = omega (arith, ap length ok.1, length-reverse c.turn.new.home.entries.items, c.turn.new.home.entries.ok.0);
    }

pub returns-in-Ok-clause-ok : goal.returns-in-Ok-clause-ok
returns-in-Ok-clause-ok g c =
    let M = Sat g.row.M.Denot g.row.M-Note.Denot g.row.M-Fixed.Denot in
    let turn = c.enter-home.ensures.turn in
    let f = g.M.Machine.fixed c.args.self.now.table.shared.key.machine.value in
    let role = c.args.pass.now.role in
    let made = made_in c.args.pass.now.seat.me.0.roles in
    let items = past_of c.enter-home.result in
    let ok = c.in-Ok.ensures.ok in
    let e = entry role c.args.step ok.0 in
    let has = plain_role c.args.pass.now.seat.me _ _ c.args.pass.now.plain in
    let new = past_of c.turn.new.home in
    let may = may_now _ _ _ _ _ _ (g.met.M.Machine.may_stays f) _ _ _ _ _ turn has c.requires.may in
    let answer = subst (λ (x : g.row.M-Fixed.Denot). g.M.Machine.answers x items role c.args.call c.in-Ok.reply ok.0) turn.rests.0 ok.2 in
    let all = c.leave_entered.ensures.after ∙ ap (λ (m : M). (idle (entered m.0 new), [])) c.enter-home.ensures.after in
    let seen = ap (λ (m : M). m.0.seen) all in
    let mine = ap (λ (m : M). made_in m.0.roles) all ∙ made_again c.args.pass.now.seat.me _ _ new c.args.pass.now.plain in record {
      before = items;
      note = ok.0;
      begins = turn.seen;
      was = (turn.mine role made has).2;
      between = entries_since role turn.seen.0 c.args.pass.now.seat.me.0.seen (ap (entries_of role) (sym turn.seen.1) ∙ ((turn.mine role made has).1 ∙ sym (turn.mine role made has).2));
      known = known_more c.args.self.now.table.shared.key.roles e items _ (seen ∙ ok.1) (turn.mine role made has).0 turn.known;
      ends = seen ∙ ok.1;
      legal = subst (Legal (g.M.Machine.may f) (g.M.Machine.answers f)) (sym (seen ∙ ok.1)) ((c.args.call, c.in-Ok.reply, may, answer), turn.legal);
      answer = answer;
      one_more = mine ∙ (ap (entries_of role) ok.1 ∙ (entries_own role items e refl ∙ ap (λ (l : List (Entry g.row.M-Note.Denot)). e ∷ l) (turn.mine role made has).1));
      own = ap (entries_of role) seen ∙ sym mine;
    }

pub returns-in-Ok-clause-lock : goal.returns-in-Ok-clause-lock
returns-in-Ok-clause-lock g c =
    let M = Sat g.row.M.Denot g.row.M-Note.Denot g.row.M-Fixed.Denot in
    let turn = c.enter-home.ensures.turn in
    let role = c.args.pass.now.role in
    let made = made_in c.args.pass.now.seat.me.0.roles in
    let items = past_of c.enter-home.result in
    let ok = c.in-Ok.ensures.ok in
    let e = entry role c.args.step ok.0 in
    let has = plain_role c.args.pass.now.seat.me _ _ c.args.pass.now.plain in
    let new = past_of c.turn.new.home in
    let all = c.leave_entered.ensures.after ∙ ap (λ (m : M). (idle (entered m.0 new), [])) c.enter-home.ensures.after in
    let mine = ap (λ (m : M). made_in m.0.roles) all ∙ made_again c.args.pass.now.seat.me _ _ new c.args.pass.now.plain in
    let more = mine ∙ (ap (entries_of role) ok.1 ∙ (entries_own role items e refl ∙ ap (λ (l : List (Entry g.row.M-Note.Denot)). e ∷ l) (turn.mine role made has).1)) in record {
      seated = (c.leave_entered.ensures.same.0 ∙ (c.enter-home.ensures.same.0 ∙ c.requires.lock.seated.0), ap (λ (m : M). m.0.about) all ∙ c.requires.lock.seated.1);
      own = ap (entries_of role) (ap (λ (m : M). m.0.seen) all) ∙ sym mine;
      rises = subst Rises (sym more) (c.requires.step, c.requires.lock.rises);
      known = known_more c.args.self.now.table.shared.key.roles e items _ (ap (λ (m : M). m.0.seen) all ∙ ok.1) (turn.mine role made has).0 turn.known;
    }
