-- The bytes of nodes that wait: at each offset that of the node with the least number.
use Rattle.std.proofs.Common.{◌≡◌, ℕ, ◌+◌, ◌-◌, ◌<◌, ◌≤◌, cond, Bool, true, false, List, [], ◌∷◌, length, drop}
use Rattle.std.proofs.Common.{Option, Some, None, refl, sym, ap, ◌∙◌, subst, arith, length-drop}
use Rattle.std.specs.Prelude.{IsTrue, ◌↔◌, nat_lt, slice_get, slice_range}
use Rattle.std.specs.Option.{is_some, option_or}
use Rattle.std.proofs.lemmas.List.{length-take}
use Rattle.std.proofs.lemmas.Option.{slice_get-get_or, slice_get_past}
use Rattle.segment_tree.specs.declared.spot.Spot.{Spot}
use Rattle.segment_tree.specs.Order.{end_of, newest_first}
use Rattle.segment_tree.specs.Reads.{covers, earliest}
use Rattle.segment_tree.specs.Reads as reads
use Rattle.segment_tree.proofs.Oldest.{covered_some, covering, oldest_first, oldest_in}
use Rattle.reassembly.specs.Nodes.{LieWithin, part_at, parts_at}
use Rattle.reassembly.specs.Parts.{Part, byte_at, byte_in, is_covered}
use Rattle.reassembly.specs.Stretches.{AreCovered, IsStretch}
use Rattle.reassembly.proofs.Bytes.{slice_get-drop, slice_get-take}
use Rattle.reassembly.proofs.Waiting.{in_after, in_before}

range_get : (xs : List ℕ) (a b i : ℕ) → i < b - a → slice_get (slice_range xs a b) i ≡ slice_get xs (a + i)
range_get xs a b i h = slice_get-take (drop a xs) (b - a) i h ∙ slice_get-drop xs a i

range_length : (xs : List ℕ) (a b : ℕ) → b ≤ length xs → length (slice_range xs a b) ≡ b - a
range_length xs a b h = omega (arith, h, length-take (b - a) (drop a xs), length-drop a xs)

covers_from : (s : Spot) (k : ℕ) → covers s k ≡ true → (s.first ≤ k) × (k < end_of s)
covers_from s k h = grind arith

-- the byte of a node at an offset
node_byte : (bytes : List ℕ) (s : Spot) (k : ℕ) → covers s k ≡ true → byte_in (part_at bytes s) k ≡ slice_get bytes (s.at + (k - s.first))
node_byte bytes s k h =
    let on = covers_from s k h in
    in_after (part_at bytes s) k on.0 ∙ range_get bytes s.at (s.at + s.len) (k - s.first) (omega (arith, on.0, on.1))

node_some : (bytes : List ℕ) (s : Spot) (k : ℕ) → s.at + s.len ≤ length bytes → covers s k ≡ true → is_some (byte_in (part_at bytes s) k) ≡ true
node_some bytes s k within h =
    let on = covers_from s k h in
    ap is_some (node_byte bytes s k h ∙ slice_get-get_or bytes (s.at + (k - s.first)) 0 (omega (arith, within, on.0, on.1)))

node_none : (bytes : List ℕ) (s : Spot) (k : ℕ) → covers s k ≡ false → byte_in (part_at bytes s) k ≡ None
node_none bytes s k h = by (nat_lt k s.first) refl
  where
    by : (t : Bool) → nat_lt k s.first ≡ t → byte_in (part_at bytes s) k ≡ None
    by true test = let begins : k < s.first = grind arith in in_before (part_at bytes s) k begins
    by false test =
        let begins : s.first ≤ k = grind arith in
        let past : end_of s ≤ k = grind arith in
        let few = length-take (s.at + s.len - s.at) (drop s.at bytes) in
        in_after (part_at bytes s) k begins ∙ slice_get_past (slice_range bytes s.at (s.at + s.len)) (k - s.first) (omega (arith, few, begins, past))

-- the byte of a node that may be there
abbrev pub byte_of : List ℕ → ℕ → Option Spot → Option ℕ
byte_of bytes k None = None
byte_of bytes k (Some s) = byte_in (part_at bytes s) k

some_first : (o q : Option ℕ) → is_some o ≡ true → option_or o q ≡ o
some_first None q h = cc
some_first (Some b) q h = refl

-- what is found lies within, and covers the offset
oldest_within : (n k : ℕ) (l : List Spot) (m : Spot) → LieWithin n l → oldest_in k l ≡ Some m → (m.at + m.len ≤ n) × (covers m k ≡ true)
oldest_within n k [] m lie is = cc
oldest_within n k (s ∷ l) m lie is = by (oldest_in k l) refl (λ e. oldest_within n k l m lie.1 e) is
  where
    own : (t : Bool) → covers s k ≡ t → cond t (Some s) None ≡ Some m → (m.at + m.len ≤ n) × (covers m k ≡ true)
    own true h is =
        let one : s ≡ m = cc in
        subst (λ (x : Spot). (x.at + x.len ≤ n) × (covers x k ≡ true)) one (lie.0, h)
    own false h is = cc

    by : (o : Option Spot) → oldest_in k l ≡ o → (oldest_in k l ≡ Some m → (m.at + m.len ≤ n) × (covers m k ≡ true))
        → option_or o (covering k s) ≡ Some m → (m.at + m.len ≤ n) × (covers m k ≡ true)
    by (Some x) rest again is = again (rest ∙ is)
    by None rest again is = own (covers s k) refl is

byte_oldest : (bytes : List ℕ) (k : ℕ) (l : List Spot) → LieWithin (length bytes) l → byte_at (parts_at bytes l) k ≡ byte_of bytes k (oldest_in k l)
byte_oldest bytes k [] lie = refl
byte_oldest bytes k (s ∷ l) lie =
    ap (λ (o : Option ℕ). option_or o (byte_in (part_at bytes s) k)) (byte_oldest bytes k l lie.1) ∙ by (oldest_in k l) refl (covers s k) refl
  where
    by : (o : Option Spot) → oldest_in k l ≡ o → (c : Bool) → covers s k ≡ c
        → option_or (byte_of bytes k o) (byte_in (part_at bytes s) k) ≡ byte_of bytes k (option_or o (cond c (Some s) None))
    by None is true h = refl
    by None is false h = node_none bytes s k h
    by (Some m) is c h =
        let w = oldest_within (length bytes) k l m lie.1 is in
        some_first (byte_in (part_at bytes m) k) (byte_in (part_at bytes s) k) (node_some bytes m k w.0 w.1)

module _ (bytes : List ℕ) (l : List Spot) (lie : LieWithin (length bytes) (newest_first l)) where
  pub byte_earliest : (k : ℕ) → byte_at (parts_at bytes (newest_first l)) k ≡ byte_of bytes k (earliest k l)
  byte_earliest k = byte_oldest bytes k (newest_first l) lie ∙ ap (byte_of bytes k) (oldest_first k l)

  pub earliest_within : (k : ℕ) (m : Spot) → earliest k l ≡ Some m → (m.at + m.len ≤ length bytes) × (covers m k ≡ true)
  earliest_within k m is = oldest_within (length bytes) k (newest_first l) m lie (oldest_first k l ∙ is)

  covered_same : (k : ℕ) → is_covered (parts_at bytes (newest_first l)) k ≡ reads.is_covered k l
  covered_same k = ap is_some (byte_earliest k) ∙ (by (earliest k l) refl ∙ sym (covered_some k l))
    where
      by : (o : Option Spot) → earliest k l ≡ o → is_some (byte_of bytes k o) ≡ is_some o
      by None is = refl
      by (Some m) is = let w = earliest_within k m is in node_some bytes m k w.0 w.1

  -- a test of cover is one of the nodes' bytes
  pub covered_both : (b : Bool) (from end : ℕ) → (IsTrue b ↔ reads.AreCovered l from end) → IsTrue b ↔ AreCovered (parts_at bytes (newest_first l)) from end
  covered_both b from end both = (
    λ t k later below. covered_same k ∙ both.0 t k later below,
    λ all. both.1 (λ k later below. sym (covered_same k) ∙ all k later below),
  )

  -- a node covers the offsets at which it is the earliest, and its bytes lie among all
  pub run_lies : (at end : ℕ) (s : Spot) → at < end → ((k : ℕ) → at ≤ k → k < end → earliest k l ≡ Some s)
      → (s.first ≤ at) × (end ≤ end_of s) × (s.at + s.len ≤ length bytes)
  run_lies at end s some same =
      let front = earliest_within at s (same at (omega arith) some) in
      let back = earliest_within (end - 1) s (same (end - 1) (omega (arith, some)) (omega (arith, some))) in
      ((covers_from s at front.1).0, omega (arith, (covers_from s (end - 1) back.1).1, some), front.0)

  -- where one node is the earliest, its bytes are a stretch, also beside a newer part
  pub node_stretch : (p : Part) (at end : ℕ) (s : Spot) → at < end → ((k : ℕ) → at ≤ k → k < end → earliest k l ≡ Some s)
      → IsStretch (p ∷ parts_at bytes (newest_first l)) at (Some (slice_range bytes (s.at + (at - s.first)) (s.at + (end - s.first))))
  node_stretch p at end s some same =
      let lies = run_lies at end s some same in
      let many = range_length bytes (s.at + (at - s.first)) (s.at + (end - s.first)) (omega (arith, lies.0, lies.1, lies.2, some)) in
      (omega (arith, many, some, lies.0), λ i h. byte i lies.0 (omega (arith, h, many, lies.0)))
    where
      byte : (i : ℕ) → s.first ≤ at → at + i < end
          → byte_at (p ∷ parts_at bytes (newest_first l)) (at + i) ≡ slice_get (slice_range bytes (s.at + (at - s.first)) (s.at + (end - s.first))) i
      byte i begins below =
          let is = same (at + i) (omega arith) below in
          let w = earliest_within (at + i) s is in
          let here : byte_at (parts_at bytes (newest_first l)) (at + i) ≡ byte_in (part_at bytes s) (at + i) = byte_earliest (at + i) ∙ ap (byte_of bytes (at + i)) is in
          let e : s.at + (at + i - s.first) ≡ s.at + (at - s.first) + i = omega (arith, begins) in
          ap (λ (o : Option ℕ). option_or o (byte_in p (at + i))) here
          ∙ (some_first (byte_in (part_at bytes s) (at + i)) (byte_in p (at + i)) (node_some bytes s (at + i) w.0 w.1)
          ∙ (node_byte bytes s (at + i) w.1
          ∙ (ap (slice_get bytes) e ∙ sym (range_get bytes (s.at + (at - s.first)) (s.at + (end - s.first)) i (omega (arith, begins, below))))))
