-- The whole histories of locks that ended. Each is legal, so it keeps its machine's rules. A role's passes saw a beginning of each and made
-- all of the role's entries, so what came after that beginning is of other roles.
use Rattle.std.proofs.Common.{◌≡◌, ℕ, ◌+◌, ◌<◌, All, List, [], ◌∷◌, ◌++◌, length, get_or, sym, ◌∙◌, ap, subst, arith}
use Rattle.std.proofs.lemmas.List.{length-map, get_or-map}
use Rattle.bucket_rules.specs.Rule.{IsLegal}
use Rattle.bucket_rules.specs.declared.fixed.Fixed.{Fixed}
use Rattle.end_laws.specs.Ended.{AreOwned, AreWhole}
use Rattle.flow_bucket.specs.Bucket.{fixed_of}
use Rattle.flow_bucket.specs.Fixing.{legal_is}
use Rattle.flow_bucket.specs.Stands.{BucketMay, BucketAnswers}
use Rattle.flow_pool.specs.Counting.{FlowPoolRules}
use Rattle.flow_pool.specs.Pool.{setting_of}
use Rattle.flow_pool.specs.declared.calls.PoolSetting.{PoolSetting}
use Rattle.flow_pool.proofs.PoolHistories.{rules_kept as pool_rules}
use Rattle.hist_lock.specs.Locks.{made_of, made_with, seen_by}
use Rattle.lock_rows.specs.Rows.{IsGood, IsOwned, IsWhole}
use Rattle.lock_rows.proofs.Placed.{pairs_at, pairs_length}
use Rattle.role_steps.specs.Roles.{Fits, number_of, seen, setup_of}
use Rattle.role_steps.specs.declared.roles.Passes.{Passes}
use Rattle.role_steps.specs.declared.roles.Shared.{Shared}
use Rattle.round_laws.specs.Between.{IsLaidOut}
use Rattle.run_rules.specs.Growing.{Grew, GrewFor, HasGrown}
use Rattle.run_rules.specs.Histories.{Histories, bucket_at}
use Rattle.run_rules.specs.Lawful.{AreLegal}
use Rattle.run_rules.specs.Setup.{fixed_at}
use Rattle.segment_pool.specs.Counting.{KeepsRules}
use Rattle.segment_pool.specs.Pool.{limit_of}
use Rattle.segment_pool.proofs.PoolHistories.{rules_kept as segment_rules}
use Rattle.suri_base.specs.History.{Begins, entries_of}
use Rattle.suri_base.specs.declared.entry.BucketNote.{BucketNote}
use Rattle.suri_base.specs.declared.entry.Entry.{Entry}
use Rattle.suri_base.proofs.Histories.{entries_append, entries_since}

pub some_of : {A : Type 0} (xs : List A) (i : ℕ) → i < length xs → A
some_of [] i low = absurd (omega (arith, low))
some_of (x ∷ xs) i low = x

-- all of a role's entries lie in the beginning that it saw
grew_for : {N : Type 0} (role : ℕ) (old new made : List (Entry N)) → Begins old new → entries_of role new ≡ made → entries_of role old ≡ made → GrewFor role old new
grew_for role old new made b whole was = (b.0, b.1, entries_since role b.0 old (sym (ap (entries_of role) b.1) ∙ (whole ∙ sym was)))

-- so whatever came since that beginning has none of them
pub none_since : {N : Type 0} (role : ℕ) (since old new : List (Entry N)) → new ≡ since ++ old → GrewFor role old new → entries_of role since ≡ []
none_since role since old new e g =
    entries_since role since old
    (sym (ap (entries_of role) e) ∙ (ap (entries_of role) g.1 ∙ (entries_append role g.0 old ∙ ap (λ l. l ++ entries_of role old) g.2)))

module _ (s : Shared) (p : Passes) (t : Histories) (f : Fits s p) (o : AreOwned (number_of p) p t) where
  count : length p.buckets.items ≡ length s.buckets.items
  count = pairs_length (λ l q. IsGood fixed_of BucketMay BucketAnswers (number_of p) l q) s.buckets.items p.buckets.items f.buckets

  rows : length t.buckets ≡ length (seen p).buckets
  rows = pairs_length (λ q h. IsOwned (number_of p) q h) p.buckets.items t.buckets o.buckets ∙ sym (length-map p.buckets.items (λ q. seen_by q))

  bucket : (b : ℕ) → b < length (seen p).buckets → GrewFor (number_of p) (bucket_at b (seen p).buckets) (bucket_at b t.buckets)
  bucket b low =
      let inside : b < length p.buckets.items = omega (arith, low, length-map p.buckets.items (λ q. seen_by q)) in
      let real : b < length s.buckets.items = omega (arith, inside, count) in
      let l = some_of s.buckets.items b real in
      let q = some_of p.buckets.items b inside in
      let good = pairs_at (λ l q. IsGood fixed_of BucketMay BucketAnswers (number_of p) l q) s.buckets.items p.buckets.items b l q f.buckets real in
      let own = pairs_at (λ q h. IsOwned (number_of p) q h) p.buckets.items t.buckets b q [] o.buckets inside in
      subst (λ (h : List (Entry BucketNote)). GrewFor (number_of p) h (bucket_at b t.buckets)) (sym (get_or-map (λ x. seen_by x) p.buckets.items b q [] inside))
      (grew_for (number_of p) (seen_by (get_or p.buckets.items b q)) (bucket_at b t.buckets) (made_of (get_or p.buckets.items b q)) own.0 own.1 good.own)

  own_grew : Grew (number_of p) (seen p) t
  own_grew = record {
    pool = grew_for (number_of p) (seen_by p.pool) t.pool (made_of p.pool) o.pool.0 o.pool.1 f.pool.own;
    segments = grew_for (number_of p) (seen_by p.segments) t.segments (made_of p.segments) o.segments.0 o.segments.1 f.segments.own;
    rows = rows;
    buckets = bucket;
  }

-- the histories grew, from what a role of this number has seen, by entries of other roles
pub whole_grew : (s : Shared) (p : Passes) (t : Histories) (role : ℕ) → Fits s p → number_of p ≡ role → AreOwned role p t → Grew role (seen p) t
whole_grew s p t role f e o = subst (λ (r : ℕ). Grew r (seen p) t) e (own_grew s p t f (subst (λ (r : ℕ). AreOwned r p t) (sym e) o))

pub has_grown : (role : ℕ) (old new : Histories) → Grew role old new → HasGrown old new
has_grown role old new g = record {
  pool = (g.pool.0, g.pool.1);
  segments = (g.segments.0, g.segments.1);
  rows = g.rows;
  buckets = λ b low. let k = g.buckets b low in (k.0, k.1);
}

module _ (s : Shared) (t : Histories) (laid : IsLaidOut s) (whole : AreWhole s t) where
  locks : length t.buckets ≡ length s.buckets.items
  locks = pairs_length (λ l h. IsWhole fixed_of BucketMay BucketAnswers l h) s.buckets.items t.buckets whole.buckets

  -- what the lock of bucket b says of its history
  legal_bucket : (b : ℕ) → b < length t.buckets → IsLegal (fixed_at (setup_of s) b) (bucket_at b t.buckets) × All (λ e. e.role < s.layout.workers + 3) (bucket_at b t.buckets)
  legal_bucket b low =
      let real : b < length s.buckets.items = omega (arith, low, locks) in
      let l = some_of s.buckets.items b real in
      let k = pairs_at (λ l h. IsWhole fixed_of BucketMay BucketAnswers l h) s.buckets.items t.buckets b l [] whole.buckets real in (
        subst (λ (x : Fixed). IsLegal x (bucket_at b t.buckets)) (laid.shared.buckets b l real)
            (legal_is (fixed_of (made_with (get_or s.buckets.items b l))) (bucket_at b t.buckets) k.0),
        subst (λ (n : ℕ). All (λ e. e.role < n) (bucket_at b t.buckets)) (laid.locks.buckets b l real) k.1,
      )

  pub whole_legal : AreLegal (setup_of s) t
  whole_legal = record {
    rows = locks ∙ laid.shared.rows;
    pool = subst (λ (x : PoolSetting). FlowPoolRules x t.pool) laid.shared.pool (pool_rules (setting_of (made_with s.pool)) t.pool whole.pool.0);
    segments = subst (λ (n : ℕ). KeepsRules n t.segments) laid.shared.segments (segment_rules (limit_of (made_with s.segments)) t.segments whole.segments.0);
    buckets = λ b low. (legal_bucket b low).0;
    pool_roles = subst (λ (n : ℕ). All (λ e. e.role < n) t.pool) laid.locks.pool whole.pool.1;
    segment_roles = subst (λ (n : ℕ). All (λ e. e.role < n) t.segments) laid.locks.segments whole.segments.1;
    bucket_roles = λ b low. (legal_bucket b low).1;
  }
