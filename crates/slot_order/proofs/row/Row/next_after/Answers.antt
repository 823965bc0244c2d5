use Rattle.std.proofs.Common.{subst, ◌≡◌, true, None}
use Rattle.std.specs.Option.{MatchOption}
use Rattle.std.specs.Ordering.{is_gt}
use Rattle.slot_order.specs.Order.{slot_of}
use Rattle.slot_order.specs.Next.{IsNext}
use Rattle.slot_order.proofs.Next.{stepped_in}
use Rattle.slot_order.proofs.row.Row.next_after.Goals as goal

pub returns : goal.returns
returns g c = subst (λ s. MatchOption c.pair_from.result ((q : g.row.K.Denot) → is_gt (g.K.Ord.cmp q c.args.key) ≡ true → slot_of g.K.Ord.cmp s.pairs q ≡ None) (IsNext g.K.Ord.cmp s.pairs c.args.key)) c.self.view_is
    (stepped_in g.met.K.Ord.total c.deref.result.now c.deref-2.result.now c.self.inside.chunks.items c.args.key c.locate_after-home.result.0 c.locate_after-home.result.1 c.pair_from.result
    c.deref.ensures.value c.deref-2.ensures.value c.self.invariant.0 c.locate_after-home.ensures.cut c.pair_from.ensures)
