-- From the acts of the roles to the histories: a measure of a history is the sum of it over the roles' acts. No entry is matched with another.
use Rattle.std.proofs.Common.{◌≡◌, ℕ, ◌==◌, ◌+◌, ◌<◌, Bool, true, false, cond, List, [], ◌∷◌, length, refl, sym, ◌∙◌, ap, arith, All}
use Rattle.std.proofs.lemmas.List.Elements.{All-cons, All-head, All-nil, All-tail}
use Rattle.bucket_laws.specs.Counts.{times}
use Rattle.bucket_laws.specs.Leaving.{Gone, gone}
use Rattle.bucket_rules.specs.Rule.{IsLegal}
use Rattle.run_laws.proofs.Sums.{by_bucket, by_role, sum_same, sum_swap, times_part, total_same}
use Rattle.run_laws.specs.Counts.{sum_below, tally}
use Rattle.run_laws.specs.Measures.{total}
use Rattle.run_rules.specs.Acts.{Act, AreActs, AreMet, bucket_acts, on_bucket, on_pool, on_segments, part, place_of, pool_acts, segment_acts}
use Rattle.run_rules.specs.Histories.{Histories, bucket_at}
use Rattle.run_rules.specs.Lawful.{AreLegal}
use Rattle.run_rules.specs.Setup.{Setup, fixed_at, roles}
use Rattle.suri_base.specs.History.{entries_of}
use Rattle.suri_base.specs.declared.entry.BucketNote.{BucketNote}
use Rattle.suri_base.specs.declared.entry.Entry.{Entry}
use Rattle.suri_base.specs.declared.entry.PoolNote.{PoolNote}
use Rattle.suri_base.specs.declared.entry.SegNote.{SegNote}

abbrev pub RolesBelow : {N : Type 0} → ℕ → List (Entry N) → Type 0
RolesBelow {N} n h = All (λ (e : Entry N). e.role < n) h

pool_times : (m : Act → ℕ) (k : PoolNote → ℕ) → ((n : PoolNote) (i : ℕ) → m (on_pool n i) ≡ k n) → (h : List (Entry PoolNote)) → tally m (pool_acts h) ≡ tally k h
pool_times m k same [] = refl
pool_times m k same (e ∷ h) = omega (arith, same e.note (length h + 1), pool_times m k same h)

pub bucket_times : (w : Setup) (b : ℕ) (m : Act → ℕ) (k : List (Entry BucketNote) → BucketNote → ℕ)
    → ((past : List (Entry BucketNote)) (n : BucketNote) → IsLegal (fixed_at w b) past → m (on_bucket b n (gone (fixed_at w b) past n)) ≡ k past n)
    → (h : List (Entry BucketNote)) → IsLegal (fixed_at w b) h → tally m (bucket_acts w b h) ≡ times k h
bucket_times w b m k same [] l = refl
bucket_times w b m k same (e ∷ h) l = omega (arith, same h e.note l.1, bucket_times w b m k same h l.1)

segment_times : (m : Act → ℕ) (k : SegNote → ℕ) → ((n : SegNote) → m (on_segments n) ≡ k n) → (h : List (Entry SegNote)) → tally m (segment_acts h) ≡ tally k h
segment_times m k same [] = refl
segment_times m k same (e ∷ h) = omega (arith, same e.note, segment_times m k same h)

abbrev roles_below : ℕ → Entry Act → Type 0
roles_below n e = e.role < n

roles_pool : (n : ℕ) (h : List (Entry PoolNote)) → RolesBelow n h → RolesBelow n (pool_acts h)
roles_pool n [] a = All-nil (roles_below n)
roles_pool n (e ∷ h) a = All-cons (roles_below n) _ (pool_acts h) (All-head (λ (d : Entry PoolNote). d.role < n) e h a) (roles_pool n h (All-tail (λ (d : Entry PoolNote). d.role < n) e h a))

roles_segments : (n : ℕ) (h : List (Entry SegNote)) → RolesBelow n h → RolesBelow n (segment_acts h)
roles_segments n [] a = All-nil (roles_below n)
roles_segments n (e ∷ h) a = All-cons (roles_below n) _ (segment_acts h) (All-head (λ (d : Entry SegNote). d.role < n) e h a) (roles_segments n h (All-tail (λ (d : Entry SegNote). d.role < n) e h a))

roles_bucket : (w : Setup) (b : ℕ) (n : ℕ) (h : List (Entry BucketNote)) → RolesBelow n h → RolesBelow n (bucket_acts w b h)
roles_bucket w b n [] a = All-nil (roles_below n)
roles_bucket w b n (e ∷ h) a =
    All-cons (roles_below n) _ (bucket_acts w b h) (All-head (λ (d : Entry BucketNote). d.role < n) e h a) (roles_bucket w b n h (All-tail (λ (d : Entry BucketNote). d.role < n) e h a))

pub met : (w : Setup) (t : Histories) (role : ℕ) (acts : List Act) → AreActs w t role acts → AreMet w t role acts
met w t role acts a = record { pool = a.pool; buckets = a.buckets; within = a.within }

module _
    (w : Setup)
    (t : Histories)
    (acts : ℕ → List Act)
    (pool_roles : RolesBelow (roles w) t.pool)
    (bucket_roles : (b : ℕ) → b < length t.buckets → RolesBelow (roles w) (bucket_at b t.buckets))
    (own : (role : ℕ) → role < roles w → AreMet w t role (acts role))
  where
    -- a measure of acts on the pool
    pub pool_sum : (m : Act → ℕ) (k : PoolNote → ℕ) → ((n : PoolNote) (i : ℕ) → m (on_pool n i) ≡ k n) → ((n : SegNote) → m (on_segments n) ≡ 0)
        → ((b : ℕ) (n : BucketNote) (left : List Gone) → m (on_bucket b n left) ≡ 0)
        → tally k t.pool ≡ sum_below (roles w) (λ r. total m (acts r))
    pool_sum m k p s b =
        sym (pool_times m k p t.pool) ∙ (by_role m (roles w) (pool_acts t.pool) (roles_pool (roles w) t.pool pool_roles)
        ∙ sum_same (roles w) (λ r. tally m (entries_of r (pool_acts t.pool))) (λ r. total m (acts r))
        (λ r h. ap (tally m) (own r h).pool ∙ (times_part m r 0 (acts r) ∙ total_same (λ a. cond (place_of a == 0) (m a) 0) m (acts r) here)))
      where
        here : (a : Act) → cond (place_of a == 0) (m a) 0 ≡ m a
        here (on_pool n i) = refl
        here (on_segments n) = sym (s n)
        here (on_bucket c n left) = off (c + 2 == 0) (m (on_bucket c n left)) (b c n left)
          where
            off : (u : Bool) (x : ℕ) → x ≡ 0 → cond u x 0 ≡ x
            off true x z = refl
            off false x z = sym z

    -- a measure of acts on the buckets
    pub buckets_sum : (m : Act → ℕ) → ((n : PoolNote) (i : ℕ) → m (on_pool n i) ≡ 0) → ((n : SegNote) → m (on_segments n) ≡ 0)
        → sum_below (length t.buckets) (λ b. tally m (bucket_acts w b (bucket_at b t.buckets))) ≡ sum_below (roles w) (λ r. total m (acts r))
    buckets_sum m p s =
        sum_same (length t.buckets) (λ b. tally m (bucket_acts w b (bucket_at b t.buckets))) (λ b. sum_below (roles w) (λ r. tally m (part r (b + 2) (acts r))))
        (λ b h. by_role m (roles w) (bucket_acts w b (bucket_at b t.buckets)) (roles_bucket w b (roles w) (bucket_at b t.buckets) (bucket_roles b h))
        ∙ sum_same (roles w) (λ r. tally m (entries_of r (bucket_acts w b (bucket_at b t.buckets)))) (λ r. tally m (part r (b + 2) (acts r))) (λ r k. ap (tally m) ((own r k).buckets b h)))
        ∙ (sum_swap (length t.buckets) (roles w) (λ b r. tally m (part r (b + 2) (acts r)))
        ∙ sum_same (roles w) (λ r. sum_below (length t.buckets) (λ b. tally m (part r (b + 2) (acts r)))) (λ r. total m (acts r))
        (λ r h. by_bucket m p s r (length t.buckets) (acts r) (own r h).within))

module _ (w : Setup) (t : Histories) (acts : ℕ → List Act) (legal : AreLegal w t) (own : (role : ℕ) → role < roles w → AreActs w t role (acts role)) where
  -- a measure of acts on the segments
  pub segment_sum : (m : Act → ℕ) (k : SegNote → ℕ) → ((n : SegNote) → m (on_segments n) ≡ k n) → ((n : PoolNote) (i : ℕ) → m (on_pool n i) ≡ 0)
      → ((b : ℕ) (n : BucketNote) (left : List Gone) → m (on_bucket b n left) ≡ 0)
      → tally k t.segments ≡ sum_below (roles w) (λ r. total m (acts r))
  segment_sum m k s p b =
      sym (segment_times m k s t.segments) ∙ (by_role m (roles w) (segment_acts t.segments) (roles_segments (roles w) t.segments legal.segment_roles)
      ∙ sum_same (roles w) (λ r. tally m (entries_of r (segment_acts t.segments))) (λ r. total m (acts r))
      (λ r h. ap (tally m) (own r h).segments ∙ (times_part m r 1 (acts r) ∙ total_same (λ a. cond (place_of a == 1) (m a) 0) m (acts r) here)))
    where
      off : (u : Bool) (x : ℕ) → x ≡ 0 → cond u x 0 ≡ x
      off true x z = refl
      off false x z = sym z

      here : (a : Act) → cond (place_of a == 1) (m a) 0 ≡ m a
      here (on_pool n i) = off (0 == 1) (m (on_pool n i)) (p n i)
      here (on_segments n) = refl
      here (on_bucket c n left) = off (c + 2 == 1) (m (on_bucket c n left)) (b c n left)

module _
    (w : Setup)
    (t : Histories)
    (acts : ℕ → List Act)
    (bucket_roles : (b : ℕ) → b < length t.buckets → RolesBelow (roles w) (bucket_at b t.buckets))
    (legal : (b : ℕ) → b < length t.buckets → IsLegal (fixed_at w b) (bucket_at b t.buckets))
    (own : (role : ℕ) → role < roles w → AreMet w t role (acts role))
    (pool_roles : RolesBelow (roles w) t.pool)
  where
    -- what the entries of all buckets count for
    pub entries_sum : (m : Act → ℕ) (k : ℕ → List (Entry BucketNote) → BucketNote → ℕ) → ((n : PoolNote) (i : ℕ) → m (on_pool n i) ≡ 0) → ((n : SegNote) → m (on_segments n) ≡ 0)
        → ((b : ℕ) (past : List (Entry BucketNote)) (n : BucketNote) → IsLegal (fixed_at w b) past → m (on_bucket b n (gone (fixed_at w b) past n)) ≡ k b past n)
        → sum_below (length t.buckets) (λ b. times (k b) (bucket_at b t.buckets)) ≡ sum_below (roles w) (λ r. total m (acts r))
    entries_sum m k p s same =
        sum_same (length t.buckets) (λ b. times (k b) (bucket_at b t.buckets)) (λ b. tally m (bucket_acts w b (bucket_at b t.buckets)))
        (λ b h. sym (bucket_times w b m (k b) (same b) (bucket_at b t.buckets) (legal b h)))
        ∙ buckets_sum w t acts pool_roles bucket_roles own m p s
