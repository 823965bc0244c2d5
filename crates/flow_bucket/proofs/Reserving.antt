-- More room changes nothing else; and what a step leaves.
use Rattle.std.proofs.Common.{◌≡◌, ℕ, zero, suc, ◌<◌, ◌≤◌, Bool, true, false, List, [], ◌∷◌, length, slice_get, slice_set, vec_capacity, Option, Some, inl, inr, ◌⊎◌, ⊎_elim, refl, sym, ◌∙◌, ap, subst, arith}
use Rattle.std.proofs.lemmas.Bool.Decides.{eqb_tells}
use Rattle.suri_base.specs.declared.entry.Entry.{Entry}
use Rattle.suri_base.specs.declared.facts.Facts.{Facts}
use Rattle.suri_base.specs.History.{entry}
use Rattle.bucket_rules.specs.declared.fixed.Fixed.{Fixed}
use Rattle.suri_base.specs.declared.entry.BucketNote.{BucketNote}
use Rattle.bucket_rules.specs.Packets.{bearing}
use Rattle.bucket_rules.specs.Row.{Row, row, has, is_begun}
use Rattle.flow_bucket.specs.declared.calls.BucketCall.{BucketCall}
use Rattle.flow_bucket.specs.declared.calls.BucketCall.TheVariants as call
use Rattle.flow_bucket.specs.declared.calls.BucketReply.{BucketReply}
use Rattle.bucket_flow.specs.Held.{Held, linked_with}
use Rattle.flow_bucket.specs.Stands.{IsFlow, IsHeld, Stands, Done, ended_in}
use Rattle.flow_bucket.specs.Bucket.{HasRoom, HasUse, fixed_of}
use Rattle.bucket_flow.specs.Flows.{NonePasses, find_in}
use Rattle.flow_bucket.specs.LetGo.{IsObject}
use Rattle.flow_bucket.specs.declared.bucket.FlowBucket.{FlowBucket}
use Rattle.flow_object.specs.Object.{Object}
use Rattle.bucket_flow.proofs.FlowMap.{find_at, find_set, distinct_set}
use Rattle.bucket_rules.proofs.Words.{some_is}
use Rattle.std.proofs.lemmas.Option.{same_Some}
use Rattle.flow_table.specs.Slots.{HasJoinRoom, HasRoomier, IsChanged, SlotPasses, Table, filled, rank}
use Rattle.flow_table.proofs.Places.{get_set, set_length}
use Rattle.flow_table.proofs.Slots.{changed_there, get_rank, one_in, set_is}
use Rattle.flow_bucket.proofs.Looking.{only, target}
use Rattle.flow_bucket.proofs.Doing.{flow_at, stands_after}

pub step_stands : (s z : Fixed) (past : List (Entry BucketNote)) (role step : ℕ) (a : BucketCall) (r : BucketReply) (n : BucketNote) (flows next : List Held)
    → z ≡ s → Stands s past flows → Done s past role a r n next → Stands z (entry role step n ∷ past) next
step_stands s z past role step a r n flows next same st d =
    subst (λ (x : Fixed). Stands x (entry role step n ∷ past) next) (sym same) (stands_after s past role step n flows next (ended_in r) st d.rule d.did)

-- the same flow, but for its room
abbrev pub Alike : Held → Held → Type 0
Alike h g = record h { room = 0 } ≡ record g { room = 0 }

flow_alike : (s : Fixed) (w : Row) (g h : Held) → Alike h g → IsFlow s w g → IsFlow s w h
flow_alike s w g h e k =
    let place : h.place ≡ g.place = ap (λ (x : Held). x.place) e in
    let uses : h.uses ≡ g.uses = ap (λ (x : Held). x.uses) e in
    let obj : h.obj ≡ g.obj = ap (λ (x : Held). x.obj) e in
    record {
      place = place ∙ k.place;
      begun = ap is_begun place ∙ k.begun;
      uses = λ u. ap (λ us. has us u) uses ∙ k.uses u;
      object = subst (λ (o : Object). IsObject s w o) (sym obj) k.object;
      here = k.here;
    }

pub stands_alike : (s : Fixed) (past : List (Entry BucketNote)) (flows : List Held) (i : ℕ) (g h : Held) → Alike h g
    → slice_get flows i ≡ Some g → Stands s past flows → Stands s past (slice_set flows i h)
stands_alike s past flows i g h e at st = record {
  workers = st.workers;
  legal = st.legal;
  held = λ a. subst (λ (o : Option Held). IsHeld s (row s a past) o) (sym (find_set flows i g h st.distinct at (ap (λ (x : Held). x.run) e) a)) (⊎_elim
      (λ m. rw (m.0) (subst (λ (x : ℕ). IsFlow s (row s x past) h) m.1 (flow_alike s (row s g.run past) g h e (flow_at s past flows i g st at))))
      (λ m. rw (m.0) (st.held a))
      (eqb_tells g.run a));
  distinct = distinct_set flows i g h st.distinct at (ap (λ (x : Held). x.run) e);
}

set_back : {X : Type 0} (xs : List X) (i : ℕ) (g h : X) → slice_get xs i ≡ Some g → slice_set (slice_set xs i h) i g ≡ xs
set_back [] i g h e = cc
set_back (x ∷ xs) zero g h e = let m : g ≡ x = cc in ap (λ y. y ∷ xs) m
set_back (x ∷ xs) (suc i) g h e = ap (λ l. x ∷ l) (set_back xs i g h e)

pub stands_back : (s : Fixed) (past : List (Entry BucketNote)) (flows : List Held) (i : ℕ) (g h : Held) → Alike h g
    → slice_get flows i ≡ Some g → Stands s past (slice_set flows i h) → Stands s past flows
stands_back s past flows i g h e at st =
    subst (λ (l : List Held). Stands s past l) (set_back flows i g h at) (stands_alike s past (slice_set flows i h) i h g (sym e) (get_set flows i g h at) st)

module _ (s : Fixed) (past : List (Entry BucketNote)) (slots next : List (Option Held)) (i : ℕ) (k : IsChanged HasRoomier slots i next) where
  pub roomier_stands : Stands s past (filled slots) → Stands s past (filled next)
  roomier_stands st = subst (λ (l : List Held). Stands s past l) (sym (set_is slots i next k)) (stands_alike s past (filled slots) (rank slots i) k.flow k.now k.did.same (get_rank slots i k.flow k.there) st)

  pub roomier_back : Stands s past (filled next) → Stands s past (filled slots)
  roomier_back st = stands_back s past (filled slots) (rank slots i) k.flow k.now k.did.same (get_rank slots i k.flow k.there) (subst (λ (l : List Held). Stands s past l) (set_is slots i next k) st)

pub roomier_count : (slots next : List (Option Held)) (i : ℕ) → IsChanged HasRoomier slots i next → length (filled next) ≡ length (filled slots)
roomier_count slots next i k = ap (λ (l : List Held). length l) (set_is slots i next k) ∙ set_length (filled slots) (rank slots i) k.now

-- what stands at a place of a list of which one place was written
set_cases : {X : Type 0} (xs : List X) (i j : ℕ) (h x : X) → slice_get (slice_set xs i h) j ≡ Some x → ((i ≡ j) × (h ≡ x)) ⊎ (slice_get xs j ≡ Some x)
set_cases [] i j h x e = inr e
set_cases (y ∷ ys) zero zero h x e = inl (refl, cc)
set_cases (y ∷ ys) zero (suc j) h x e = inr e
set_cases (y ∷ ys) (suc i) zero h x e = inr e
set_cases (y ∷ ys) (suc i) (suc j) h x e = ⊎_elim (λ m. inl (ap suc m.0, m.1)) (λ m. inr m) (set_cases ys i j h x e)

-- a flow that may be joined has room: there is but one
pub use_found : (s : Fixed) (f : ℕ) (t : Facts) (v : Table) (i : ℕ) (h : Held) → bearing s.capture f ≡ Some t
    → slice_get v.slots i ≡ Some (Some h) → linked_with t.key h ≡ true → 0 < h.room → 0 < v.joins → HasUse s f v
use_found s f t v i h b there passes room joins past st u j x bu xj pass =
    let flows = filled v.slots in
    let same : u ≡ t = some_is bu b in
    let at = get_rank v.slots i h there in
    let other = get_rank v.slots j x xj in
    let mine = target s past flows f t st b (rank v.slots i) h at passes in
    let its = target s past flows f t st b (rank v.slots j) x other (ap (λ (w : Facts). linked_with w.key x) (sym same) ∙ pass) in
    let runs : x.run ≡ h.run = only s past flows f t st b h mine x.run its.linked its.key in
    let flow : h ≡ x = some_is (find_at flows (rank v.slots i) h st.distinct at) (ap (λ (r : ℕ). find_in flows r) (sym runs) ∙ find_at flows (rank v.slots j) x st.distinct other) in
    (subst (λ (y : Held). 0 < y.room) flow room, joins)

-- where none may be joined there is nothing to ask for
pub use_none : (s : Fixed) (f : ℕ) (t : Facts) (v : Table) → bearing s.capture f ≡ Some t → NonePasses (linked_with t.key) (filled v.slots) → HasUse s f v
use_none s f t v b none past st u j x bu xj pass =
    absurd (clash (linked_with t.key x) (none (rank v.slots j) x (get_rank v.slots j x xj)) (ap (λ (w : Facts). linked_with w.key x) (some_is b bu) ∙ pass))
  where
    clash : (p : Bool) → p ≡ false → p ≡ true → ⊥
    clash p e m = cc

pub use_reserved : (s : Fixed) (f : ℕ) (t : Facts) (slots : List (Option Held)) (v : Table) (i : ℕ) → bearing s.capture f ≡ Some t → SlotPasses (linked_with t.key) slots i
    → IsChanged HasRoomier slots i v.slots → HasJoinRoom v i → HasUse s f v
use_reserved s f t slots v i b u k room =
    let now : room.1.flow ≡ k.now = one_in v.slots i room.1.flow k.now room.1.there (changed_there slots i v.slots k) in
    let was : k.flow ≡ u.flow = one_in slots i k.flow u.flow k.there u.there in
    use_found s f t v i room.1.flow b room.1.there
    (ap (λ (y : Held). linked_with t.key y) now ∙ ap (λ (y : Held). linked_with t.key y) k.did.same ∙ ap (λ (y : Held). linked_with t.key y) was ∙ u.passes)
    room.1.holds room.0

-- more room for one flow takes none from the others
pub use_kept : (s : Fixed) (f : ℕ) (v w : Table) (i : ℕ) → IsChanged HasRoomier v.slots i w.slots → v.joins ≤ w.joins → HasUse s f v → HasUse s f w
use_kept s f v w i k more had past st u j x bu xj pass =
    let was = roomier_back s past v.slots w.slots i k st in
    let e = k.did.same in
    ⊎_elim
    (λ m. let h : k.now ≡ x = same_Some k.now x m.1 in
    let both = had past was u i k.flow bu k.there (ap (λ (y : Held). linked_with u.key y) (sym e) ∙ ap (λ (y : Held). linked_with u.key y) h ∙ pass) in
    let room = both.0 in
    let joins = both.1 in
    let kept = k.did.kept in
    (subst (λ (y : Held). 0 < y.room) h (omega (arith, room, kept)), omega (arith, joins, more)))
    (λ m. let both = had past was u j x bu m pass in let joins = both.1 in (both.0, omega (arith, joins, more)))
    (set_cases v.slots i j (Some k.now) (Some x) (ap (λ (l : List (Option Held)). slice_get l j) (sym k.set) ∙ xj))

-- nor does more room of the table
pub use_more : (s : Fixed) (f : ℕ) (v w : Table) → w.slots ≡ v.slots → v.joins ≤ w.joins → HasUse s f v → HasUse s f w
use_more s f v w same more had past st u j x bu xj pass =
    let both = had past (subst (λ (l : List (Option Held)). Stands s past (filled l)) same st) u j x bu (ap (λ (l : List (Option Held)). slice_get l j) (sym same) ∙ xj) pass in
    let joins = both.1 in
    (both.0, omega (arith, joins, more))

-- where only room is more, the room of other calls is kept
pub room_kept : (b c : FlowBucket) → ((f : ℕ) → HasUse (fixed_of b) f b.flows → HasUse (fixed_of c) f c.flows)
    → length (filled c.flows.slots) ≡ length (filled b.flows.slots) → b.flows.begins ≤ c.flows.begins → b.uses.room ≤ c.uses.room → vec_capacity b.gone ≤ vec_capacity c.gone
    → (other : BucketCall) → HasRoom b other → HasRoom c other
room_kept b c looks len begins uses gone (call.Look f emergency seen) room = looks f room
room_kept b c looks len begins uses gone (call.Make f obj) room = let x = room.0 in let y = room.1 in (omega (arith, x, begins), omega (arith, y, uses))
room_kept b c looks len begins uses gone (call.Refuse f) room = room
room_kept b c looks len begins uses gone (call.Segment f _) room = room
room_kept b c looks len begins uses gone (call.Close f app) room = room
room_kept b c looks len begins uses gone (call.Evict f) room = room
room_kept b c looks len begins uses gone (call.Sweep round emergency seen) room = omega (arith, room, len, gone)
room_kept b c looks len begins uses gone call.Drain room = omega (arith, room, len, gone)
