-- Each run gets its object once and gives it back once, and every node comes back: the sums over the roles' acts are those over the histories.
-- What the roles got they made; what left they gave back; what left had been made, since every bucket is drained.
use Rattle.std.proofs.Common.{◌≡◌, ℕ, zero, suc, ◌==◌, ◌+◌, ◌<◌, ◌≤◌, Bool, true, false, cond, List, [], ◌∷◌, length, ◌⊎◌, ⊎_elim, refl, sym, ◌∙◌, ap, arith, sum_by}
use Rattle.bucket_laws.proofs.Draining.{all_left}
use Rattle.bucket_laws.proofs.Going.{gone_nodes}
use Rattle.bucket_laws.proofs.Leaving.{once}
use Rattle.bucket_laws.proofs.Nodes.{nodes_out}
use Rattle.bucket_laws.proofs.Tests.{same}
use Rattle.bucket_laws.specs.Counts.{begins, one_if, times, times_begun, times_left}
use Rattle.bucket_laws.specs.Leaving.{gone}
use Rattle.bucket_laws.specs.Nodes.{all_stored, frees, stores, taken_by}
use Rattle.bucket_rules.specs.Row.{has, lets_go, made}
use Rattle.bucket_rules.specs.Rule.{IsLegal}
use Rattle.run_laws.proofs.Counting.{given_count, given_names, got_count, got_names, out_count, same_length}
use Rattle.run_laws.proofs.Drained.{drained}
use Rattle.run_laws.proofs.Leavers.{count_gone, made_own}
use Rattle.run_laws.proofs.Parts.{entries_sum, met, pool_sum, segment_sum}
use Rattle.run_laws.proofs.Sums.{sum_none, sum_one, sum_same}
use Rattle.run_laws.proofs.Using.{freed_gave, got_made, left_given, took_stored}
use Rattle.run_laws.specs.Counts.{gets, gives, made_in, node_took, nodes_given, sum_below, tally}
use Rattle.run_laws.specs.Measures.{begun_by, freed_by, gave_by, given_by, got_by, left_by, stored_by, took_by, total}
use Rattle.run_laws.specs.Returning.{AreReturned}
use Rattle.run_rules.specs.Acts.{Act, AreMet, on_bucket, on_pool, on_segments}
use Rattle.run_rules.specs.Histories.{Histories, bucket_at}
use Rattle.run_rules.specs.Lawful.{AreLawful, AreScripted}
use Rattle.run_rules.specs.Setup.{Setup, bucket_by, bucket_for, fixed_at, roles}
use Rattle.suri_base.specs.declared.entry.BucketNote.{BucketNote}
use Rattle.suri_base.specs.declared.entry.Entry.{Entry}
use Rattle.suri_base.specs.declared.entry.PoolNote.{PoolNote}
use Rattle.suri_base.specs.declared.entry.SegNote.{SegNote}

times_plus : (f g : List (Entry BucketNote) → BucketNote → ℕ) (h : List (Entry BucketNote)) → times (λ past n. f past n + g past n) h ≡ times f h + times g h
times_plus f g [] = refl
times_plus f g (e ∷ h) = omega (arith, times_plus f g h)

pub sum_le : (n : ℕ) (f g : ℕ → ℕ) → ((k : ℕ) → k < n → f k ≤ g k) → sum_below n f ≤ sum_below n g
sum_le zero f g h = omega arith
sum_le (suc n) f g h = omega (arith, h n (omega arith), sum_le n f g (λ k x. h k (omega arith)))

at_most_one : (n r : ℕ) → sum_below n (λ k. cond (r == k) 1 0) ≤ 1
at_most_one n r = ⊎_elim (λ h. omega (arith, sum_one n r 1 h)) (λ h. omega (arith, sum_none n r 1 h)) (split r n)
  where
    split : (x y : ℕ) → (x < y) ⊎ (y ≤ x)
    split x y = grind arith

module _ (w : Setup) (t : Histories) (l : AreScripted w t) where
  met_all : (role : ℕ) → role < roles w → AreMet w t role (l.acts role)
  met_all r h = met w t r (l.acts r) (l.own r h)

  of_entries : (m : Act → ℕ) (k : ℕ → List (Entry BucketNote) → BucketNote → ℕ) → ((n : PoolNote) (i : ℕ) → m (on_pool n i) ≡ 0) → ((n : SegNote) → m (on_segments n) ≡ 0)
      → ((b : ℕ) (past : List (Entry BucketNote)) (n : BucketNote) → IsLegal (fixed_at w b) past → m (on_bucket b n (gone (fixed_at w b) past n)) ≡ k b past n)
      → sum_below (length t.buckets) (λ b. times (k b) (bucket_at b t.buckets)) ≡ sum_below (roles w) (λ r. total m (l.acts r))
  of_entries = entries_sum w t l.acts l.legal.bucket_roles l.legal.buckets met_all l.legal.pool_roles

  made_sum : (a : ℕ) → made_in t a ≡ sum_below (roles w) (λ r. total (begun_by a) (l.acts r))
  made_sum a = of_entries (begun_by a) (λ b past n. one_if (begins n a)) (λ n i. refl) (λ n. refl) (λ b past n k. refl)

  left_sum : (a : ℕ) → made_in t a ≡ sum_below (roles w) (λ r. total (left_by a) (l.acts r))
  left_sum a =
      sum_same (length t.buckets) (λ b. times_begun a (bucket_at b t.buckets)) (λ b. times_left (fixed_at w b) a (bucket_at b t.buckets))
      (λ b h. all_left (fixed_at w b) (bucket_at b t.buckets) a (l.legal.buckets b h) (drained w t l b h))
      ∙ of_entries (left_by a) (λ b past n. one_if (lets_go (fixed_at w b) past n a)) (λ n i. refl) (λ n. refl) (λ b past n k. count_gone (fixed_at w b) past n a k)

  pub got : (a : ℕ) → tally (gets a) t.pool ≡ made_in t a
  got a = pool_sum w t l.acts l.legal.pool_roles l.legal.bucket_roles met_all (got_by a) (gets a) (λ n i. refl) (λ n. refl) (λ b n left. refl) ∙ (got_made w t l a ∙ sym (made_sum a))

  pub given : (a : ℕ) → tally (gives a) t.pool ≡ made_in t a
  given a = pool_sum w t l.acts l.legal.pool_roles l.legal.bucket_roles met_all (given_by a) (gives a) (λ n i. refl) (λ n. refl) (λ b n left. refl) ∙ (sym (left_given w t l a) ∙ sym (left_sum a))

  -- as many were got as given
  pub as_many : length (got_names t.pool) ≡ length (given_names t.pool)
  as_many = same_length (got_names t.pool) (given_names t.pool) (λ a. got_count a t.pool ∙ (got a ∙ (sym (given a) ∙ sym (given_count a t.pool))))

  -- a run begins in its own bucket alone
  made_here : (a b : ℕ) → b < length t.buckets → times_begun a (bucket_at b t.buckets) ≤ cond (bucket_for w a == b) 1 0
  made_here a b h = by_test (has (made (bucket_at b t.buckets)) a) refl
    where
      by_test : (u : Bool) → has (made (bucket_at b t.buckets)) a ≡ u → times_begun a (bucket_at b t.buckets) ≤ cond (bucket_for w a == b) 1 0
      by_test true e =
          let k = made_own (fixed_at w b) (bucket_at b t.buckets) a (l.legal.buckets b h) e in
          let q : bucket_for w a ≡ b = ap (bucket_by w.layout.rows) k.bears ∙ k.bucket in
          let z : (bucket_for w a == b) ≡ true = same (bucket_for w a) b q in
          let x : times_begun a (bucket_at b t.buckets) ≡ 1 = once (fixed_at w b) (bucket_at b t.buckets) a (l.legal.buckets b h) ∙ ap one_if e in
          rw z (omega (arith, x))
      by_test false e =
          let x : times_begun a (bucket_at b t.buckets) ≡ 0 = once (fixed_at w b) (bucket_at b t.buckets) a (l.legal.buckets b h) ∙ ap one_if e in omega (arith, x)

  pub made_once : (a : ℕ) → made_in t a ≤ 1
  made_once a =
      omega (
        arith,
        sum_le (length t.buckets) (λ b. times_begun a (bucket_at b t.buckets)) (λ b. cond (bucket_for w a == b) 1 0)
            (λ b h. made_here a b h),
        at_most_one (length t.buckets) (bucket_for w a),
      )

  stored_sum : sum_below (length t.buckets) (λ b. all_stored (bucket_at b t.buckets)) ≡ sum_below (roles w) (λ r. total stored_by (l.acts r))
  stored_sum = of_entries stored_by (λ b past n. stores n) (λ n i. refl) (λ n. refl) (λ b past n k. refl)

  freed_sum : sum_below (length t.buckets) (λ b. all_stored (bucket_at b t.buckets)) ≡ sum_below (roles w) (λ r. total freed_by (l.acts r))
  freed_sum =
      sum_same (length t.buckets) (λ b. all_stored (bucket_at b t.buckets)) (λ b. times (λ past n. frees n + sum_by (λ a. taken_by (fixed_at w b) a past n) (made past)) (bucket_at b t.buckets))
      (λ b h. nodes_out (fixed_at w b) (bucket_at b t.buckets) (l.legal.buckets b h) (drained w t l b h)
      ∙ sym (times_plus (λ past n. frees n) (λ past n. sum_by (λ a. taken_by (fixed_at w b) a past n) (made past)) (bucket_at b t.buckets)))
      ∙ of_entries freed_by (λ b past n. frees n + sum_by (λ a. taken_by (fixed_at w b) a past n) (made past)) (λ n i. refl) (λ n. refl)
      (λ b past n k. ap (λ (x : ℕ). frees n + x) (gone_nodes (fixed_at w b) past n))

  pub nodes : tally node_took t.segments ≡ tally nodes_given t.segments
  nodes = segment_sum w t l.acts l.legal l.own took_by node_took (λ n. refl) (λ n i. refl) (λ b n left. refl)
      ∙ (took_stored w t l 0 ∙ (sym stored_sum ∙ (freed_sum ∙ (freed_gave w t l 0
      ∙ sym (segment_sum w t l.acts l.legal l.own gave_by nodes_given (λ n. refl) (λ n i. refl) (λ b n left. refl))))))

pub returned : (w : Setup) (t : Histories) → AreLawful w t → AreReturned t
returned w t l = record {
  once = made_once w t l.scripted;
  got = got w t l.scripted;
  given = given w t l.scripted;
  none_out = omega (arith, out_count t.pool l.puts, as_many w t l.scripted);
  nodes = nodes w t l.scripted;
}
