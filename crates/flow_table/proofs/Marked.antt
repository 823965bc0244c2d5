-- The marks of a flow, and the room that a change of them takes.
use Rattle.std.proofs.Common.{◌≡◌, ℕ, ◌+◌, ◌<◌, ◌≤◌, ◌==◌, ◌&&◌, ◌||◌, min, Bool, true, false, cond, List, [], ◌∷◌, length, Option, Some, None, refl, sym, ap, subst, ◌∙◌, arith}
use Rattle.std.proofs.lemmas.Bool.Decides.{nat_tests}
use Rattle.std.specs.Ordering.{is_eq}
use Rattle.std.specs.declared.cmp.Ordering.{Ordering}
use Rattle.suri_base.specs.Protocols.{is_tcp}
use Rattle.suri_base.specs.declared.key.Key.{Key}
use Rattle.tcp_session.specs.Session.{class_of}
use Rattle.tcp_session.specs.declared.classes.Class.{Class}
use Rattle.tcp_session.specs.declared.classes.Class.TheVariants as class
use Rattle.tcp_session.specs.declared.state.State.{State}
use Rattle.timeout_table.specs.Table.{timeout_of}
use Rattle.flow_sum.specs.declared.sums.Sums.{Sums}
use Rattle.bucket_rules.specs.Row.{Place, has, is_linked, is_none_of}
use Rattle.key_order.proofs.Aging.{ages}
use Rattle.key_order.proofs.Telling.{places}
use Rattle.key_order.specs.Ages.{age_cmp, age_of}
use Rattle.key_order.specs.declared.ages.Age.{Age}
use Rattle.key_order.specs.KeyPlaces.{place_cmp, place_of}
use Rattle.slot_order.specs.Order.{Pairs, added}
use Rattle.bucket_flow.specs.Held.{Held}
use Rattle.flow_orders.specs.Keys.{but_unused, marks_of, times_in}
use Rattle.flow_orders.specs.Orders.{FlowOrders, HasRoomForTimes, HasRoomToBegin, HasRoomToJoin, HasRoomToMend, IsRoomy, SamePairs}
use Rattle.flow_orders.specs.declared.marks.Marks.{Marks}
use Rattle.flow_orders.proofs.Finding.{self}
use Rattle.flow_orders.proofs.Mending.{added_one}
use Rattle.flow_table.specs.Slots.{AreKin, spare_joins}

-- uses that have the same frames are none together
any_self : (y : ℕ) (b : Bool) → ((y == y) || b) ≡ false → ⊥
any_self y b h = grind (arith, nat_tests)

pub none_same : (xs ys : List ℕ) → ((u : ℕ) → has ys u ≡ has xs u) → is_none_of ys ≡ is_none_of xs
none_same [] [] h = refl
none_same [] (y ∷ ys) h = absurd (any_self y (has ys y) (h y))
none_same (x ∷ xs) [] h = absurd (any_self x (has xs x) (sym (h x)))
none_same (x ∷ xs) (y ∷ ys) h = refl

pub used_some : (us : List ℕ) (u : ℕ) → has us u ≡ true → is_none_of us ≡ false
used_some [] u h = cc
used_some (x ∷ xs) u h = refl

pub none_has : (us : List ℕ) (u : ℕ) → is_none_of us ≡ true → has us u ≡ false
none_has [] u h = refl
none_has (x ∷ xs) u h = cc

-- the marks, by what they are made of
abbrev class_by : Sums → State → Class
class_by s t = cond (is_tcp s.key.proto) (class_of t) (cond ((s.ts.pkts == 0) || (s.tc.pkts == 0)) class.New class.Established)

abbrev marks_by : Place → Bool → Sums → State → ℕ → Marks
marks_by p none s t run = record {
  key = cond (is_linked p) (Some (place_of s.key)) None;
  due = cond (is_linked p) (Some (age_of (s.last_clock + timeout_of s.key.proto (class_by s t) false) run)) None;
  due_in_emergency = cond (is_linked p) (Some (age_of (s.last_clock + timeout_of s.key.proto (class_by s t) true) run)) None;
  unused = cond (is_linked p && none) (Some (age_of s.last_clock run)) None;
}

kin_by : (f g : Held) (none : Bool) → AreKin f g → marks_by g.place none g.obj.sums g.obj.state g.run ≡ marks_by f.place none f.obj.sums f.obj.state f.run
kin_by f g none k =
    ap (λ (p : Place). marks_by p none g.obj.sums g.obj.state g.run) k.place
    ∙ ap (λ (s : Sums). marks_by f.place none s g.obj.state g.run) k.sums
    ∙ ap (λ (t : State). marks_by f.place none f.obj.sums t g.run) k.state
    ∙ ap (λ (r : ℕ). marks_by f.place none f.obj.sums f.obj.state r) k.run

pub kin_alike : (f g : Held) → AreKin f g → but_unused (marks_of (Some g)) ≡ but_unused (marks_of (Some f))
kin_alike f g k = ap but_unused (kin_by f g true k)

pub kin_marks : (f g : Held) → AreKin f g → is_none_of g.uses ≡ is_none_of f.uses → marks_of (Some g) ≡ marks_of (Some f)
kin_marks f g k n = ap (λ (b : Bool). marks_by g.place b g.obj.sums g.obj.state g.run) n ∙ kin_by f g (is_none_of f.uses) k

-- for a key that stays no room is wanted
added_self : {K : Type 0} (cmp : K → K → Ordering) → ((k : K) → is_eq (cmp k k) ≡ true) → (old new : Option K) → new ≡ old → added cmp old new ≡ 0
added_self {K} cmp same old new e = ap (λ (n : Option K). added cmp old n) e ∙ by old
  where
    by : (o : Option K) → added cmp o o ≡ 0
    by None = refl
    by (Some k) = ap (λ (b : Bool). cond b 0 1) (same k)

added_none : {K : Type 0} (cmp : K → K → Ordering) (old new : Option K) → new ≡ None → added cmp old new ≡ 0
added_none {K} cmp old new e = ap (λ (n : Option K). added cmp old n) e

used_mark : (g : Held) → is_none_of g.uses ≡ false → (marks_of (Some g)).unused ≡ None
used_mark g e = ap (λ (b : Bool). cond (is_linked g.place && b) (Some (age_of g.obj.sums.last_clock g.run)) None) e ∙ by (is_linked g.place)
  where
    by : (b : Bool) → cond (b && false) (Some (age_of g.obj.sums.last_clock g.run)) None ≡ None
    by true = refl
    by false = refl

-- a flow leaves the orders
pub room_to_leave : (o : FlowOrders) (old new : Marks) → new ≡ marks_of None → HasRoomToMend o old new
room_to_leave o old new e = subst (λ (m : Marks). HasRoomToMend o old m) (sym e) (record { by_key = omega arith; due = omega arith; due_in_emergency = omega arith; unused = omega arith; kept = λ w. absurd (omega (arith, w)) })

-- nothing changes
pub room_to_stay : (o : FlowOrders) (old new : Marks) → new ≡ old → HasRoomToMend o old new
room_to_stay o old new e =
    let k = added_self place_cmp (self places) old.key new.key (ap (λ (m : Marks). m.key) e) in
    let d = added_self age_cmp (self ages) old.due new.due (ap (λ (m : Marks). m.due) e) in
    let x = added_self age_cmp (self ages) old.due_in_emergency new.due_in_emergency (ap (λ (m : Marks). m.due_in_emergency) e) in
    let u = added_self age_cmp (self ages) old.unused new.unused (ap (λ (m : Marks). m.unused) e) in
    record { by_key = omega (arith, k); due = omega (arith, d); due_in_emergency = omega (arith, x); unused = omega (arith, u); kept = λ w. absurd (omega (arith, w, u)) }

-- a packet joins
pub same_key_mark : (f g : Held) → g.place ≡ f.place → g.obj.sums.key ≡ f.obj.sums.key → (marks_of (Some g)).key ≡ (marks_of (Some f)).key
same_key_mark f g place key = ap (λ (p : Place). cond (is_linked p) (Some (place_of g.obj.sums.key)) None) place ∙ ap (λ (k : Key). cond (is_linked f.place) (Some (place_of k)) None) key

pub room_to_join : (o : FlowOrders) (f g : Held) → HasRoomToJoin o → is_none_of g.uses ≡ false → HasRoomForTimes o (times_in (marks_of (Some f))) (times_in (marks_of (Some g)))
room_to_join o f g r used =
    let old = marks_of (Some f) in
    let new = marks_of (Some g) in
    let d = added_one age_cmp old.due new.due in
    let x = added_one age_cmp old.due_in_emergency new.due_in_emergency in
    let u = added_none age_cmp old.unused new.unused (used_mark g used) in
    let rd = r.due in
    let rx = r.due_in_emergency in
    record { due = omega (arith, d, rd); due_in_emergency = omega (arith, x, rx); unused = omega (arith, u); kept = λ w. absurd (omega (arith, w, u)) }

-- a flow begins
pub room_to_begin : (o : FlowOrders) (g : Held) → HasRoomToBegin o → is_none_of g.uses ≡ false → HasRoomToMend o (marks_of None) (marks_of (Some g))
room_to_begin o g r used =
    let old = marks_of None in
    let new = marks_of (Some g) in
    let k = added_one place_cmp old.key new.key in
    let d = added_one age_cmp old.due new.due in
    let x = added_one age_cmp old.due_in_emergency new.due_in_emergency in
    let u = added_none age_cmp old.unused new.unused (used_mark g used) in
    let rk = r.by_key in
    let rd = r.join.due in
    let rx = r.join.due_in_emergency in
    record { by_key = omega (arith, k, rk); due = omega (arith, d, rd); due_in_emergency = omega (arith, x, rx); unused = omega (arith, u); kept = λ w. absurd (omega (arith, w, u)) }

-- how many more uses there is room for
pub joins_room : (o : FlowOrders) → 0 < spare_joins o → HasRoomToJoin o
joins_room o h = record { due = omega (arith, h); due_in_emergency = omega (arith, h); by_use = omega (arith, h); unused = omega (arith, h) }

pub room_joins : (o : FlowOrders) → HasRoomToJoin o → 0 < spare_joins o
room_joins o r =
    let a = r.due in
    let b = r.due_in_emergency in
    let c = r.by_use in
    let d = r.unused in
    omega (arith, a, b, c, d)

pub joins_kept : (o p : FlowOrders) → SamePairs o p → IsRoomy o p → spare_joins o ≤ spare_joins p
joins_kept o p s r =
    let a = r.due in
    let b = r.due_in_emergency in
    let c = r.by_use in
    let d = r.unused in
    let e = ap (λ (l : List (ℕ × ℕ)). length l) s.by_use in
    omega (arith, a, b, c, d, e)

-- and for the use of the packet that joined or began
pub use_room : (o p : FlowOrders) (a b : Option Age) (g : Held) → HasRoomToJoin o → o.unused.room ≤ p.unused.room + added age_cmp a b → p.by_use ≡ o.by_use → b ≡ (marks_of (Some g)).unused → is_none_of g.uses ≡ false
    → (0 < p.by_use.room) × (length p.by_use.pairs < p.unused.room)
use_room o p a b g r z e m used =
    let n = added_none age_cmp a b (m ∙ used_mark g used) in
    let x = r.by_use in
    let y = r.unused in
    let room = ap (λ (u : Pairs ℕ). u.room) e in
    let len = ap (λ (u : Pairs ℕ). length u.pairs) e in
    (omega (arith, x, room), omega (arith, n, y, z, len))

-- a frame that is a use makes a flow used
pub first_use : (us : List ℕ) (frame : ℕ) (rest : Bool) → has us frame ≡ ((frame == frame) || rest) → is_none_of us ≡ false
first_use us frame rest h = used_some us frame (h ∙ itself frame rest)
  where
    itself : (n : ℕ) (b : Bool) → ((n == n) || b) ≡ true
    itself n b = grind (arith, nat_tests)

pub begins_room : (o : FlowOrders) (spare : ℕ) → 0 < min spare (min o.by_key.room (spare_joins o)) → HasRoomToBegin o
begins_room o spare h = record { by_key = omega (arith, h); join = joins_room o (omega (arith, h)) }
