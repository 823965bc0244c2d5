-- The histories that a role has seen are legal.
use Rattle.std.proofs.Common.{◌≡◌, ℕ, ◌<◌, List, [], ◌∷◌, length, get_or, sym, subst, arith}
use Rattle.std.proofs.lemmas.List.{length-map, get_or-map}
use Rattle.bucket_rules.specs.Rule.{IsLegal}
use Rattle.bucket_rules.specs.declared.fixed.Fixed.{Fixed}
use Rattle.flow_bucket.specs.Bucket.{fixed_of}
use Rattle.flow_bucket.specs.Fixing.{legal_is}
use Rattle.flow_bucket.specs.Stands.{BucketMay, BucketAnswers}
use Rattle.hist_lock.specs.Locks.{seen_by}
use Rattle.lock_rows.specs.Rows.{IsGood}
use Rattle.lock_rows.proofs.Placed.{pairs_at, pairs_length}
use Rattle.role_steps.specs.Roles.{Fits, IsShared, number_of, seen, setup_of}
use Rattle.role_steps.specs.declared.roles.Passes.{Passes}
use Rattle.role_steps.specs.declared.roles.Shared.{Shared}
use Rattle.run_rules.specs.Histories.{bucket_at}
use Rattle.run_rules.specs.Setup.{fixed_at}
use Rattle.suri_base.specs.History.{Legal}
use Rattle.suri_base.specs.declared.entry.BucketNote.{BucketNote}
use Rattle.suri_base.specs.declared.entry.Entry.{Entry}

some_of : {A : Type 0} (xs : List A) (i : ℕ) → i < length xs → A
some_of [] i low = absurd (omega (arith, low))
some_of (x ∷ xs) i low = x

pub seen_legal : (s : Shared) (p : Passes) → IsShared s → Fits s p → (b : ℕ) → b < length (seen p).buckets → IsLegal (fixed_at (setup_of s) b) (bucket_at b (seen p).buckets)
seen_legal s p sh f b low =
    let count : length p.buckets.items ≡ length s.buckets.items = pairs_length (λ l q. IsGood fixed_of BucketMay BucketAnswers (number_of p) l q) s.buckets.items p.buckets.items f.buckets in
    let inside : b < length p.buckets.items = omega (arith, low, length-map p.buckets.items (λ q. seen_by q)) in
    let real : b < length s.buckets.items = omega (arith, count, inside) in
    let l = some_of s.buckets.items b real in
    let q = some_of p.buckets.items b inside in
    let good = pairs_at (λ l q. IsGood fixed_of BucketMay BucketAnswers (number_of p) l q) s.buckets.items p.buckets.items b l q f.buckets real in
    legal_is (fixed_at (setup_of s) b) (bucket_at b (seen p).buckets)
    (subst (λ (h : List (Entry BucketNote)). Legal (BucketMay (fixed_at (setup_of s) b)) (BucketAnswers (fixed_at (setup_of s) b)) h) (sym (get_or-map (λ x. seen_by x) p.buckets.items b q [] inside))
    (subst (λ (x : Fixed). Legal (BucketMay x) (BucketAnswers x) (seen_by (get_or p.buckets.items b q))) (sh.buckets b l real) good.legal))
