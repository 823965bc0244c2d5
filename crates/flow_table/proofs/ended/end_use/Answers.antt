use Rattle.std.proofs.Common.{◌≡◌, ◌<◌, ℕ, List, Option, Some, None, length, slice_set, sym, ◌∙◌, ap, subst, arith}
use Rattle.std.proofs.lemmas.Option.{none-some, same_Some}
use Rattle.std.specs.Prelude.{IfSome}
use Rattle.key_order.specs.declared.ages.Age.{Age}
use Rattle.slot_order.specs.Index.{IsFound}
use Rattle.bucket_rules.specs.Row.{is_linked}
use Rattle.bucket_flow.specs.Held.{Held}
use Rattle.flow_sum.specs.declared.sums.Sums.{Sums}
use Rattle.flow_orders.specs.Keys.{bears_use}
use Rattle.flow_orders.specs.Orders.{FlowOrders}
use Rattle.flow_orders.specs.Orders as orders
use Rattle.flow_table.specs.Slots.{IsUseEnded}
use Rattle.flow_table.proofs.Marked.{kin_alike}
use Rattle.flow_table.proofs.Ordered.{is_used, kept_orders, may_mend_unused, moved, not_used, own_kept, uses_moved, uses_same}
use Rattle.flow_table.proofs.ended.end_use.Goals as goal

own : (slots : List (Option Held)) (o : FlowOrders) (i frame : ℕ) (f g : Held) (a b : Option Age) → IsUseEnded slots o i frame f g a b → orders.IsOwn slots i (Some g)
own slots o i frame f g a b h = own_kept slots i f g h.here.sound h.here.there h.kin.run (ap (λ (s : Sums). s.key) h.kin.sums) (λ e. ap is_linked (sym h.kin.place) ∙ e)

-- where the orders lead to no slot, or to another, the frame was no use of the flow
pub returns-in_default : goal.returns-in_default
returns-in_default c = λ slots f g h. kept_orders slots c.args.orders.now c.args.slot f g h.here.orders h.here.there h.kin
    (uses_same f g c.args.no (not_used slots c.args.orders.now c.args.slot c.args.no f None h.here.sound h.here.there (c.in_default.ensures slots h.here.orders.uses) (λ e. none-some c.args.slot e)) h.uses)

pub returns-then-at-slot : goal.returns-then-at-slot
returns-then-at-slot c = λ slots f g h. kept_orders slots c.args.orders.now c.args.slot f g h.here.orders h.here.there h.kin
    (uses_same f g c.args.no (not_used slots c.args.orders.now c.args.slot c.args.no f (Some c.in-Some.at) h.here.sound h.here.there (c.in-Some.ensures slots h.here.orders.uses)
    (λ e. let s = same_Some c.in-Some.at c.args.slot e in omega (arith, s, c.if-at-slot.true))) h.uses)

pub mend_unused-requires : goal.mend_unused-requires
mend_unused-requires c =
    let slots = c.requires.0 in
    let f = c.requires.1 in
    let g = c.requires.2 in
    let h = c.requires.3 in
    let at : c.in-Some.at ≡ c.args.slot = omega (arith, c.if-at-slot.false) in
    let used = is_used slots c.args.orders.now.by_use.pairs c.args.slot c.args.no h.here.orders.uses (subst (λ (n : ℕ). IsFound bears_use slots c.args.no (Some n)) at (c.in-Some.ensures slots h.here.orders.uses)) in
    let room = subst (λ (r : Option ℕ). IfSome r (λ s. length c.end_use.new.self.by_use.pairs < c.end_use.new.self.unused.room)) (c.end_use.ensures.was ∙ used) c.end_use.ensures.room in
    may_mend_unused slots c.end_use.new.self c.args.slot (Some f) (Some g) c.args.old c.args.new (moved slots c.args.orders.now c.end_use.new.self c.end_use.ensures.marks h.here.orders.marks) h.here.there h.was h.now (own slots c.args.orders.now c.args.slot c.args.no f g c.args.old c.args.new h) room

pub returns : goal.returns
returns c = λ slots f g h.
    let at : c.in-Some.at ≡ c.args.slot = omega (arith, c.if-at-slot.false) in
    let used = is_used slots c.args.orders.now.by_use.pairs c.args.slot c.args.no h.here.orders.uses (subst (λ (n : ℕ). IsFound bears_use slots c.args.no (Some n)) at (c.in-Some.ensures slots h.here.orders.uses)) in
    record {
      marks = c.mend_unused.ensures.marks slots (Some f) (Some g) (moved slots c.args.orders.now c.end_use.new.self c.end_use.ensures.marks h.here.orders.marks) h.here.there (kin_alike f g h.kin) h.was h.now (own slots c.args.orders.now c.args.slot c.args.no f g c.args.old c.args.new h);
      uses = uses_moved (slice_set slots c.args.slot (Some g)) c.end_use.new.self.by_use c.mend_unused.new.self.by_use c.mend_unused.ensures.uses
          (c.end_use.ensures.uses slots c.args.slot (Some f) (Some g) h.here.orders.uses h.here.there (c.end_use.ensures.was ∙ used) h.uses);
    }
