-- One member more: what a stream keeps, by the answer to it.
use Rattle.std.proofs.Common.{◌≡◌, ℕ, zero, suc, ◌-◌, ◌<◌, ◌≤◌, cond, Bool, true, false, ◌||◌, List, [], ◌∷◌, length, map, take, drop}
use Rattle.std.proofs.Common.{Option, Some, None, refl, sym, ap, ◌∙◌, arith}
use Rattle.std.specs.Prelude.{nat_le, nat_lt, slice_get}
use Rattle.std.specs.Option.{option_or, unwrap_or}
use Rattle.std.proofs.lemmas.Option.{slice_get_past}
use Rattle.std.proofs.lemmas.List.{length-take}
use Rattle.reassembly.specs.Members.{Member, base_of, bytes_of, early, first_of, part_of, parts_from, parts_of, sequence_of, sets_base}
use Rattle.reassembly.specs.Parts.{are_covered, beyond, bytes_from, byte_at, byte_in, frontier_of, is_old, stored_of, waiting_of, EndsBelow, Part}
use Rattle.reassembly.proofs.Bytes.{from_gap}
use Rattle.reassembly.proofs.Places.{drop_nil}
use Rattle.reassembly.proofs.Waiting.{in_after, in_before, skips}

-- what members bring ends below the depth
pub part_below : (depth base k : ℕ) (m : Member) → depth ≤ k → byte_in (part_of depth base m) k ≡ None
part_below depth base k m past = by (nat_le (first_of base (sequence_of m.tcp)) k) refl
  where
    by : (t : Bool) → nat_le (first_of base (sequence_of m.tcp)) k ≡ t → byte_in (part_of depth base m) k ≡ None
    by true test =
        let begins : first_of base (sequence_of m.tcp) ≤ k = grind arith in
        let l = length-take (depth - first_of base (sequence_of m.tcp)) (drop (early base (sequence_of m.tcp) m.payload) m.payload) in
        in_after (part_of depth base m) k begins
        ∙ slice_get_past (bytes_of depth base (sequence_of m.tcp) m.payload) (k - first_of base (sequence_of m.tcp)) (omega (arith, l))
    by false test =
        let begins : k < first_of base (sequence_of m.tcp) = grind arith in
        in_before (part_of depth base m) k begins

pub ends_below : (depth base : ℕ) (members : List Member) → EndsBelow depth (map (part_of depth base) members)
ends_below depth base [] = λ k past. refl
ends_below depth base (m ∷ members) = λ k past.
    skips (map (part_of depth base) members) (part_of depth base m) k (part_below depth base k m past) ∙ ends_below depth base members k past

-- where no member sets a base none has a payload
abbrev pub AreEmpty : List Part → Type 0
AreEmpty [] = Unit {0}
AreEmpty (p ∷ parts) = (p.bytes ≡ []) × AreEmpty parts

nil_is : (xs : List ℕ) → nat_lt 0 (length xs) ≡ false → xs ≡ []
nil_is [] e = refl
nil_is (x ∷ xs) e = absurd (omega (arith, few))
  where
    few : length (x ∷ xs) ≤ 0
    few = grind arith

or_false : (a b : Bool) → (a || b) ≡ false → b ≡ false
or_false false b e = e
or_false true b e = cc

or_none : (o q : Option ℕ) → option_or o q ≡ None → (o ≡ None) × (q ≡ None)
or_none None q e = (refl, e)
or_none (Some x) q e = cc

unset : (t : Bool) (x : ℕ) → cond t (Some x) None ≡ None → t ≡ false
unset false x e = refl
unset true x e = cc

take_nil : (k : ℕ) → take {A = ℕ} k [] ≡ []
take_nil zero = refl
take_nil (suc k) = refl

pub no_payload : (depth base : ℕ) (m : Member) → m.payload ≡ [] → (part_of depth base m).bytes ≡ []
no_payload depth base m nil =
    let n = depth - first_of base (sequence_of m.tcp) in
    let e = early base (sequence_of m.tcp) m.payload in
    ap (λ (l : List ℕ). take n (drop e l)) nil ∙ (ap (take n) (drop_nil e) ∙ take_nil n)

pub empty_part : (depth base : ℕ) (m : Member) → sets_base m ≡ false → (part_of depth base m).bytes ≡ []
empty_part depth base m no_base = no_payload depth base m (nil_is m.payload (or_false _ (nat_lt 0 (length m.payload)) no_base))

pub empty_parts : (depth base : ℕ) (members : List Member) → base_of members ≡ None → AreEmpty (map (part_of depth base) members)
empty_parts depth base [] none = tt
empty_parts depth base (m ∷ members) none =
    let both = or_none (base_of members) (cond (sets_base m) (Some (sequence_of m.tcp)) None) none in
    (empty_part depth base m (unset (sets_base m) (sequence_of m.tcp) both.1), empty_parts depth base members both.0)

empty_covers : (p : Part) (k : ℕ) → p.bytes ≡ [] → byte_in p k ≡ None
empty_covers p k nil = ap (λ (l : List ℕ). cond (nat_le p.first k) (slice_get l (k - p.first)) None) nil ∙ by (nat_le p.first k)
  where
    by : (t : Bool) → cond t (slice_get {X = ℕ} [] (k - p.first)) None ≡ None
    by true = refl
    by false = refl

pub empty_byte : (parts : List Part) (k : ℕ) → AreEmpty parts → byte_at parts k ≡ None
empty_byte [] k empty = refl
empty_byte (p ∷ parts) k empty = skips parts p k (empty_covers p k empty.0) ∙ empty_byte parts k empty.1

pub empty_old : (parts : List Part) (p : Part) → p.bytes ≡ [] → is_old parts p ≡ true
empty_old parts p nil = ap (are_covered parts p.first) nil

pub empty_stored : (depth : ℕ) (parts : List Part) → AreEmpty parts → stored_of depth parts ≡ []
empty_stored depth [] empty = refl
empty_stored depth (p ∷ parts) empty = rw (empty_old parts p empty.0) (empty_stored depth parts empty.1)

pub empty_stream : (depth : ℕ) (parts : List Part) → AreEmpty parts → bytes_from (byte_at parts) 0 depth ≡ []
empty_stream depth parts empty = from_gap (byte_at parts) 0 depth (empty_byte parts 0 empty)

pub empty_waiting : (depth : ℕ) (parts : List Part) → AreEmpty parts → waiting_of depth parts ≡ []
empty_waiting depth parts empty = ap (beyond (frontier_of depth parts)) (empty_stored depth parts empty)

-- the members before one bring the same, seen from the base that it may have set
module _ (depth : ℕ) (m : Member) (older : List Member) where
  abbrev pub seen_from : List Part
  seen_from = parts_from depth (base_of (m ∷ older)) older

  by_base : {A : Type 0} (f : List Part → A) → (base_of older ≡ None → (b : ℕ) → f (map (part_of depth b) older) ≡ f (map (part_of depth 0) older))
      → f seen_from ≡ f (parts_of depth older)
  by_base f none = by (base_of older) refl
    where
      by : (o : Option ℕ) → base_of older ≡ o
          → f (map (part_of depth (unwrap_or (base_of (m ∷ older)) 0)) older) ≡ f (map (part_of depth (unwrap_or (base_of older) 0)) older)
      by None is = none is (unwrap_or (base_of (m ∷ older)) 0) ∙ ap (λ (o : Option ℕ). f (map (part_of depth (unwrap_or o 0)) older)) (sym is)
      by (Some b) is = ap (λ (o : Option ℕ). f (map (part_of depth (unwrap_or o 0)) older))
          (ap (λ (o : Option ℕ). option_or o (cond (sets_base m) (Some (sequence_of m.tcp)) None)) is ∙ sym is)

  pub same_stream : bytes_from (byte_at seen_from) 0 depth ≡ bytes_from (byte_at (parts_of depth older)) 0 depth
  same_stream = by_base (λ (l : List Part). bytes_from (byte_at l) 0 depth)
      (λ none b. empty_stream depth (map (part_of depth b) older) (empty_parts depth b older none)
      ∙ sym (empty_stream depth (map (part_of depth 0) older) (empty_parts depth 0 older none)))

  pub same_waiting : waiting_of depth seen_from ≡ waiting_of depth (parts_of depth older)
  same_waiting = by_base (waiting_of depth)
      (λ none b. empty_waiting depth (map (part_of depth b) older) (empty_parts depth b older none)
      ∙ sym (empty_waiting depth (map (part_of depth 0) older) (empty_parts depth 0 older none)))
