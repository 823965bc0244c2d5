-- What a role has seen of the histories is legal, lock by lock, and each entry is one of a role of the run.
use Rattle.std.proofs.Common.{◌≡◌, ℕ, ◌<◌, List, [], ◌∷◌, length, get_or, refl, sym, subst, arith, All}
use Rattle.std.proofs.lemmas.List.{length-map, get_or-map}
use Rattle.bucket_rules.specs.declared.fixed.Fixed.{Fixed}
use Rattle.flow_bucket.specs.Bucket.{fixed_of}
use Rattle.flow_bucket.specs.Stands.{BucketMay, BucketAnswers}
use Rattle.hist_lock.specs.Locks.{seen_by}
use Rattle.lock_rows.specs.Rows.{IsGood}
use Rattle.lock_rows.proofs.Placed.{pairs_at, pairs_length}
use Rattle.recycler.specs.Recycling.{IsChoice}
use Rattle.role_steps.specs.Roles.{Fits, IsShared, number_of, seen, setup_of}
use Rattle.role_steps.specs.declared.roles.Passes.{Passes}
use Rattle.role_steps.specs.declared.roles.Shared.{Shared}
use Rattle.run_rules.specs.Histories.{Histories, bucket_at}
use Rattle.run_rules.specs.Setup.{fixed_at}
use Rattle.run_start.specs.Starting.{HaveRoles}
use Rattle.suri_base.specs.History.{Legal}
use Rattle.suri_base.specs.declared.entry.BucketNote.{BucketNote}
use Rattle.suri_base.specs.declared.entry.Entry.{Entry}
use Rattle.suri_base.proofs.Histories.{begins_itself}

-- the first of some
pub some_of : {A : Type 0} (xs : List A) (i : ℕ) → i < length xs → A
some_of [] i low = absurd (omega (arith, low))
some_of (x ∷ xs) i low = x

module _ (s : Shared) (p : Passes) (f : Fits s p) (b : ℕ) (low : b < length (seen p).buckets) where
  inside : b < length p.buckets.items
  inside = omega (arith, low, length-map p.buckets.items (λ q. seen_by q))

  real : b < length s.buckets.items
  real =
      let count : length p.buckets.items ≡ length s.buckets.items = pairs_length (λ l q. IsGood fixed_of BucketMay BucketAnswers (number_of p) l q) s.buckets.items p.buckets.items f.buckets in
      omega (arith, count, inside)

  -- the history of a bucket is legal
  pub seen_answers : IsShared s → Legal (BucketMay (fixed_at (setup_of s) b)) (BucketAnswers (fixed_at (setup_of s) b)) (bucket_at b (seen p).buckets)
  seen_answers sh =
      let l = some_of s.buckets.items b real in
      let q = some_of p.buckets.items b inside in
      let good = pairs_at (λ l q. IsGood fixed_of BucketMay BucketAnswers (number_of p) l q) s.buckets.items p.buckets.items b l q f.buckets real in
      subst (λ (h : List (Entry BucketNote)). Legal (BucketMay (fixed_at (setup_of s) b)) (BucketAnswers (fixed_at (setup_of s) b)) h) (sym (get_or-map (λ x. seen_by x) p.buckets.items b q [] inside))
      (subst (λ (x : Fixed). Legal (BucketMay x) (BucketAnswers x) (seen_by (get_or p.buckets.items b q))) (sh.buckets b l real) good.legal)

  -- and of known roles alone
  pub seen_roles : (n : ℕ) → HaveRoles s n → All (λ (e : Entry BucketNote). e.role < n) (bucket_at b (seen p).buckets)
  seen_roles n h =
      let l = some_of s.buckets.items b real in
      let q = some_of p.buckets.items b inside in
      let good = pairs_at (λ l q. IsGood fixed_of BucketMay BucketAnswers (number_of p) l q) s.buckets.items p.buckets.items b l q f.buckets real in
      subst (λ (x : List (Entry BucketNote)). All (λ (e : Entry BucketNote). e.role < n) x) (sym (get_or-map (λ x. seen_by x) p.buckets.items b q [] inside))
      (subst (λ (m : ℕ). All (λ (e : Entry BucketNote). e.role < m) (seen_by (get_or p.buckets.items b q))) (h.buckets b l real) good.pass_of.known)

-- so what a role has seen itself is a choice of histories
pub own_choice : (s : Shared) (p : Passes) (t : Histories) → IsShared s → Fits s p → seen p ≡ t → IsChoice s p t
own_choice s p t sh f knows = subst (λ (h : Histories). IsChoice s p h) knows (record {
  begins = record { pool = begins_itself (seen p).pool; segments = begins_itself (seen p).segments; rows = refl; buckets = λ b low. begins_itself (bucket_at b (seen p).buckets) };
  pool = f.pool.legal;
  segments = f.segments.legal;
  buckets = λ b low. seen_answers s p f b low sh;
})
