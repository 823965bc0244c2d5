-- After a drain no flow is linked.
use Rattle.std.proofs.Common.{◌≡◌, ℕ, zero, suc, Bool, true, false, cond, ◌&&◌, List, [], ◌∷◌, map, Option, Some, None, refl, sym, ap, ◌∙◌}
use Rattle.bucket_rules.specs.Row.{detached, is_linked}
use Rattle.bucket_flow.specs.Held.{Held}
use Rattle.bucket_flow.specs.Flows.{drained_held, end_off_held, stays}
use Rattle.flow_orders.specs.Orders.{NoneLinked}
use Rattle.flow_table.specs.Slots.{parted}

drained_off : (clock : ℕ) (f : Held) → is_linked (drained_held clock f).place ≡ false
drained_off clock f = by (is_linked f.place) refl
  where
    by : (b : Bool) → is_linked f.place ≡ b → is_linked (cond (b && true) (record f { place = detached (end_off_held clock f) }) f).place ≡ false
    by true e = refl
    by false e = e

pub none_linked_drained : (clock : ℕ) (slots : List (Option Held)) → NoneLinked (map (parted (drained_held clock) stays) slots)
none_linked_drained clock [] i f e = cc
none_linked_drained clock (None ∷ os) zero f e = cc
none_linked_drained clock (Some g ∷ os) zero f e = by (stays (drained_held clock g)) e
  where
    by : (b : Bool) → ◌≡◌ {A = Option (Option Held)} (Some (cond b (Some (drained_held clock g)) None)) (Some (Some f)) → is_linked f.place ≡ false
    by true e = let m : drained_held clock g ≡ f = cc in ap (λ (h : Held). is_linked h.place) (sym m) ∙ drained_off clock g
    by false e = cc
none_linked_drained clock (o ∷ os) (suc i) f e = none_linked_drained clock os i f e
