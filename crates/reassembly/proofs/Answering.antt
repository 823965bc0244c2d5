-- The answer to a part, by what waits and by the frontier.
use Rattle.std.proofs.Common.{◌≡◌, ℕ, ◌+◌, ◌-◌, ◌<◌, ◌≤◌, max, Bool, true, false, List, length, get_or, Some, refl, sym, ap, ◌∙◌, arith}
use Rattle.std.specs.Prelude.{IsTrue, ◌↔◌, nat_lt}
use Rattle.std.specs.Option.{is_some}
use Rattle.std.proofs.lemmas.Option.{slice_get-get_or}
use Rattle.reassembly.specs.Parts.{bytes_from, byte_at, frontier_of, is_covered, is_old, waiting_of, EndsBelow, Part}
use Rattle.reassembly.specs.Stretches.{AreCovered}
use Rattle.reassembly.proofs.Bytes.{from_has}
use Rattle.reassembly.proofs.Waiting.{all_covered, covered_at, waiting_has}

-- what is below the frontier is covered
pub below_covered : (depth : ℕ) (parts : List Part) (k : ℕ) → k < frontier_of depth parts → is_covered parts k ≡ true
below_covered depth parts k h =
    let e : 0 + k ≡ k = omega arith in
    let here : byte_at parts k ≡ Some (get_or (bytes_from (byte_at parts) 0 depth) k 0) = ap (byte_at parts) (sym e)
    ∙ (from_has (byte_at parts) 0 depth k h ∙ slice_get-get_or (bytes_from (byte_at parts) 0 depth) k 0 h) in
    ap is_some here

module _ (depth : ℕ) (parts : List Part) (p : Part) (ends : EndsBelow depth parts) where
  same_covered : (k : ℕ) → frontier_of depth parts ≤ k → is_covered (waiting_of depth parts) k ≡ is_covered parts k
  same_covered k later = ap is_some (waiting_has depth k parts ends later)

  -- a part brings nothing where what waits covers what lies of it at and after the frontier
  pub old_from_waiting : AreCovered (waiting_of depth parts) (max p.first (frontier_of depth parts)) (p.first + length p.bytes) → is_old parts p ≡ true
  old_from_waiting covered = all_covered parts p.first p.bytes (λ i h. by i h (nat_lt (p.first + i) (frontier_of depth parts)) refl)
    where
      by : (i : ℕ) → i < length p.bytes → (t : Bool) → nat_lt (p.first + i) (frontier_of depth parts) ≡ t → is_covered parts (p.first + i) ≡ true
      by i h true test = let low : p.first + i < frontier_of depth parts = grind arith in below_covered depth parts (p.first + i) low
      by i h false test =
          let high : frontier_of depth parts ≤ p.first + i = grind arith in
          sym (same_covered (p.first + i) high) ∙ covered (p.first + i) (omega arith) (omega arith)

  pub waiting_from_old : is_old parts p ≡ true → AreCovered (waiting_of depth parts) (max p.first (frontier_of depth parts)) (p.first + length p.bytes)
  waiting_from_old old = λ k later below. by k (omega arith) (omega arith) below
    where
      by : (k : ℕ) → p.first ≤ k → frontier_of depth parts ≤ k → k < p.first + length p.bytes → is_covered (waiting_of depth parts) k ≡ true
      by k begins later below =
          let e : p.first + (k - p.first) ≡ k = omega arith in
          same_covered k later ∙ (ap (is_covered parts) (sym e) ∙ covered_at parts p.first p.bytes old (k - p.first) (omega arith))

  pub old_is : (b : Bool) → is_old parts p ≡ b → (covered : Bool)
      → (IsTrue covered ↔ AreCovered (waiting_of depth parts) (max p.first (frontier_of depth parts)) (p.first + length p.bytes)) → is_old parts p ≡ covered
  old_is true is true both = is
  old_is false is false both = is
  old_is true is false both = absurd (no (both.1 (waiting_from_old is)))
    where
      no : IsTrue false → ⊥
      no e = cc
  old_is false is true both = absurd (no (sym is ∙ old_from_waiting (both.0 refl)))
    where
      no : false ≡ true → ⊥
      no e = cc
