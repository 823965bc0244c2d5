use Rattle.std.proofs.Common.{◌++◌, List, Option, filter, map, ◌∙◌, sym, ap, subst, arith}
use Rattle.std.proofs.lemmas.List.Sorted.{IsPermutation-refl}
use Rattle.std.specs.List.Sorted.{IsPermutation}
use Rattle.flow_object.specs.Ending.{EndedFlow}
use Rattle.bucket_flow.specs.Held.{Held}
use Rattle.bucket_flow.specs.Flows.{drained_held, stays}
use Rattle.flow_table.specs.Slots.{Table, filled, left_by}
use Rattle.flow_table.proofs.Slots.{filled_parted}
use Rattle.flow_table.proofs.table.FlowTable.drain.Goals as goal

pub returns-clause-flows : goal.returns-clause-flows
returns-clause-flows c =
    ap (λ (l : List (Option Held)). filled l) c.drain_slots.ensures.slots
    ∙ filled_parted (drained_held c.args.clock) stays c.self.inside.slots.items
    ∙ ap (λ (t : Table). filter stays (map (drained_held c.args.clock) (filled t.slots))) c.self.view_is

pub returns-clause-gone : goal.returns-clause-gone
returns-clause-gone c =
    let all = c.args.gone.now.items ++ left_by (drained_held c.args.clock) c.self.inside.slots.items in
    subst (λ (t : Table). IsPermutation (c.args.gone.now.items ++ left_by (drained_held c.args.clock) t.slots) c.drain_slots.new.gone.items) c.self.view_is
    (subst (λ (l : List EndedFlow). IsPermutation all l) (sym c.drain_slots.ensures.gone) (IsPermutation-refl all))

pub invariant_of-self : goal.invariant_of-self
invariant_of-self c = record { small = omega (arith, c.drain_slots.ensures.len, c.self.invariant.small); sound = c.drain_slots.ensures.sound; orders = c.drain_slots.ensures.orders }
