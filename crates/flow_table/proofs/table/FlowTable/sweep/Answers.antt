use Rattle.std.proofs.Common.{◌++◌, List, Option, filter, map, ◌∙◌, sym, ap, subst, arith}
use Rattle.std.specs.List.Sorted.{IsPermutation}
use Rattle.bucket_flow.specs.Held.{Held}
use Rattle.bucket_flow.specs.Flows.{swept_held, stays}
use Rattle.flow_table.specs.Slots.{NoneLeaves, Table, filled, left_by}
use Rattle.flow_table.proofs.Slots.{filled_parted}
use Rattle.flow_table.proofs.table.FlowTable.sweep.Goals as goal

pub sweep_slots-requires-clause-stay : goal.sweep_slots-requires-clause-stay
sweep_slots-requires-clause-stay c = subst (λ (t : Table). NoneLeaves t.slots) (sym c.self.view_is) c.requires.stay

pub returns-clause-flows : goal.returns-clause-flows
returns-clause-flows c =
    ap (λ (l : List (Option Held)). filled l) c.sweep_slots.ensures.slots
    ∙ filled_parted (swept_held c.args.capture.now c.args.start c.args.clock c.args.emergency) stays c.self.inside.slots.items
    ∙ ap (λ (t : Table). filter stays (map (swept_held c.args.capture.now c.args.start c.args.clock c.args.emergency) (filled t.slots))) c.self.view_is

pub returns-clause-gone : goal.returns-clause-gone
returns-clause-gone c =
    subst (λ (t : Table). IsPermutation (c.args.gone.now.items ++ left_by (swept_held c.args.capture.now c.args.start c.args.clock c.args.emergency) t.slots) c.sweep_slots.new.gone.items) c.self.view_is c.sweep_slots.ensures.gone

pub invariant_of-self : goal.invariant_of-self
invariant_of-self c = record { small = omega (arith, c.sweep_slots.ensures.len, c.self.invariant.small); sound = c.sweep_slots.ensures.sound; orders = c.sweep_slots.ensures.orders }
