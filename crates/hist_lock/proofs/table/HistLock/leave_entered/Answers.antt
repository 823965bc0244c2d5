use Rattle.std.proofs.Common.{[], ap, sym, subst, ◌∙◌}
use Rattle.hist_lock.specs.Rule.{past_of, Sat, HasRole, idle, entered}
use Rattle.hist_lock.specs.declared.view.View.{View}
use Rattle.hist_lock.proofs.table.HistLock.leave_entered.Goals as goal

pub count_entry-requires-clause-entry : goal.count_entry-requires-clause-entry
count_entry-requires-clause-entry g c =
    let M = Sat g.row.M.Denot g.row.M-Note.Denot g.row.M-Fixed.Denot in
    let after = c.lay.ensures.after in
    let q = c.requires.entry in (
      c.args.home,
      ap (λ (m : M). m.1) after,
      record {
        log = q.log;
        next = q.next;
        whole = ap (λ (m : M). m.0.whole) after ∙ q.whole;
        more = q.more;
        made = q.made;
        mine = subst (λ (m : M). HasRole m.0 q.next.role q.made) (sym after) q.mine;
        follows = q.follows;
        fits = q.fits;
      },
    )

pub give_turn-requires-clause-turn : goal.give_turn-requires-clause-turn
give_turn-requires-clause-turn g c =
    let M = Sat g.row.M.Denot g.row.M-Note.Denot g.row.M-Fixed.Denot in
    let after = c.count_entry.ensures.after c.args.home (ap (λ (m : M). m.1) c.lay.ensures.after) in (
      c.args.home,
      ap (λ (m : M). m.1) after,
      ap (λ (m : M). m.0.whole) after,
      c.requires.home.0,
      c.requires.home.1,
    )

pub returns-clause-after : goal.returns-clause-after
returns-clause-after g c =
    let M = Sat g.row.M.Denot g.row.M-Note.Denot g.row.M-Fixed.Denot in
    let items = past_of c.args.home in
    let after = c.count_entry.ensures.after c.args.home (ap (λ (m : M). m.1) c.lay.ensures.after) in
    c.give_turn.ensures.after ∙ ap (λ (v : View g.row.M-Note.Denot g.row.M-Fixed.Denot). (idle v, [])) (ap (λ (m : M). m.0) after ∙ ap (λ (m : M). entered m.0 items) c.lay.ensures.after)
