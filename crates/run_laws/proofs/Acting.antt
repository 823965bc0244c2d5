-- A role's acts and the entries that they are: each entry of a history is an act of its role, with its step as the number of acts before it, and
-- each act is an entry; so what stands before an act in the list of acts came at an earlier step.
use Rattle.std.proofs.Common.{◌≡◌, ℕ, ◌+◌, ◌<◌, nat_lt, true, List, [], ◌∷◌, length, ⊎_elim, inr, refl, sym, ap, subst, arith}
use Rattle.bucket_laws.proofs.Tests.{below, both}
use Rattle.bucket_laws.specs.Leaving.{Gone, gone}
use Rattle.bucket_laws.specs.Places.{At}
use Rattle.run_laws.proofs.Asking.{HasCause}
use Rattle.run_laws.proofs.Causing.{AllCaused, caused}
use Rattle.run_laws.proofs.Places.{from_bucket, from_entries, from_part, from_pool, in_part, to_bucket, to_entries, to_pool}
use Rattle.run_laws.proofs.Using.{ended_some}
use Rattle.run_rules.specs.Acts.{Act, are_within, bucket_acts, on_bucket, on_pool, part, place_of, pool_acts}
use Rattle.run_rules.specs.Histories.{Histories, bucket_at}
use Rattle.run_rules.specs.Lawful.{AreScripted}
use Rattle.run_rules.specs.Setup.{Setup, fixed_at, roles, work_of}
use Rattle.run_rules.specs.Worker.{fresh, stand_after}
use Rattle.suri_base.specs.History.{Begins, entries_of, entry}
use Rattle.suri_base.specs.declared.entry.BucketNote.{BucketNote}
use Rattle.suri_base.specs.declared.entry.Entry.{Entry}
use Rattle.suri_base.specs.declared.entry.PoolNote.{PoolNote}

pub cause_at : (w : Setup) (role : ℕ) (a : Act) (before acts : List Act) → AllCaused w role acts → At a before acts → HasCause w role before a
cause_at w role a before [] c h = absurd h
cause_at w role a before (x ∷ acts) c h = ⊎_elim
    (λ z. subst (λ (y : Act). HasCause w role before y) z.0 (subst (λ (y : List Act). HasCause w role y x) z.1 c.0))
    (λ z. cause_at w role a before acts c.1 z) h

pub at_through : (a b : Act) (m n acts : List Act) → At a m n → At b n acts → At a m acts
at_through a b m n [] h k = absurd k
at_through a b m n (x ∷ acts) h k = ⊎_elim (λ z. inr (subst (λ (y : List Act). At a m y) (sym z.1) h)) (λ z. inr (at_through a b m n acts h z)) k

pub at_shorter : (a : Act) (m acts : List Act) → At a m acts → length m < length acts
at_shorter a m [] h = absurd h
at_shorter a m (x ∷ acts) h = ⊎_elim (λ z. omega (arith, ap length z.1)) (λ z. omega (arith, at_shorter a m acts z)) h

pub at_ends : (a : Act) (m acts : List Act) → At a m acts → Begins m acts
at_ends a m [] h = absurd h
at_ends a m (x ∷ acts) h = ⊎_elim (λ z. (x ∷ [], ap (λ (y : List Act). x ∷ y) z.1)) (λ z. let k = at_ends a m acts z in (x ∷ k.0, ap (λ (y : List Act). x ∷ y) k.1)) h

-- of two acts the one with fewer before it came first
pub at_before : (a b : Act) (m n acts : List Act) → At a m acts → At b n acts → length m < length n → At a m n
at_before a b m n [] h k l = absurd h
at_before a b m n (x ∷ acts) h k l = ⊎_elim
    (λ z. ⊎_elim (λ y. absurd (omega (arith, l, ap length z.1, ap length y.1))) (λ y. absurd (omega (arith, l, ap length z.1, at_shorter b n acts y))) k)
    (λ z. ⊎_elim (λ y. subst (λ (u : List Act). At a m u) y.1 z) (λ y. at_before a b m n acts z y l) k)
    h

module _ (w : Setup) (t : Histories) (l : AreScripted w t) where
  pub worker_caused : (r : ℕ) → r < w.layout.workers → AllCaused w r (l.acts r)
  worker_caused r h = let e = ended_some (stand_after w (fresh (work_of w r)) (l.acts r)) (l.hands r) (l.work r h) in (caused w r (l.acts r) e.0 e.1).0

  -- an entry of a bucket as an act of its role
  pub record Done (b role step : ℕ) (n : BucketNote) : Type 0 where
    pub left : List Gone
    pub before : List Act
    pub act : At (on_bucket b n left) before (l.acts role)
    pub number : step ≡ length before

  pub done : (b : ℕ) → b < length t.buckets → (role step : ℕ) (n : BucketNote) (past : List (Entry BucketNote)) → role < roles w
      → At (entry role step n) past (bucket_at b t.buckets) → Done b role step n
  done b h role step n past r a =
      let x = to_bucket w b (entry role step n) past (bucket_at b t.buckets) a in
      let y = to_entries (entry role step (on_bucket b n (gone (fixed_at w b) past n))) (bucket_acts w b past) (bucket_acts w b (bucket_at b t.buckets)) x in
      let z = subst (λ (k : List (Entry Act)). At (entry role step (on_bucket b n (gone (fixed_at w b) past n))) (entries_of role (bucket_acts w b past)) k) ((l.own role r).buckets b h) y in
      let u = from_part role (b + 2) role step (on_bucket b n (gone (fixed_at w b) past n)) (entries_of role (bucket_acts w b past)) (l.acts role) z in
      record { left = gone (fixed_at w b) past n; before = u.0; act = u.1; number = u.2 }

  -- an act of a role on the pool, or on a bucket, as an entry
  pub pool_entry : (r i : ℕ) (n : PoolNote) (before : List Act) → r < roles w → At (on_pool n i) before (l.acts r)
      → (past : List (Entry PoolNote)) × At (entry r (length before) n) past t.pool × (i ≡ length past + 1)
  pool_entry r i n before h a =
      let x = in_part r 0 (on_pool n i) before (l.acts r) a refl in
      let y = subst (λ (k : List (Entry Act)). At (entry r (length before) (on_pool n i)) (part r 0 before) k) (sym (l.own r h).pool) x in
      let z = from_entries r (entry r (length before) (on_pool n i)) (part r 0 before) (pool_acts t.pool) y in
      from_pool r (length before) i n z.0 t.pool z.1

  pub bucket_entry : (r b : ℕ) (n : BucketNote) (left : List Gone) (before : List Act) → r < roles w → b < length t.buckets → At (on_bucket b n left) before (l.acts r)
      → (past : List (Entry BucketNote)) × At (entry r (length before) n) past (bucket_at b t.buckets) × (left ≡ gone (fixed_at w b) past n)
  bucket_entry r b n left before h k a =
      let x = in_part r (b + 2) (on_bucket b n left) before (l.acts r) a refl in
      let y = subst (λ (u : List (Entry Act)). At (entry r (length before) (on_bucket b n left)) (part r (b + 2) before) u) (sym ((l.own r h).buckets b k)) x in
      let z = from_entries r (entry r (length before) (on_bucket b n left)) (part r (b + 2) before) (bucket_acts w b (bucket_at b t.buckets)) y in
      let u = from_bucket w b b r (length before) n left z.0 (bucket_at b t.buckets) z.1 in (u.0, u.1, u.2)

  -- an entry of the pool as an act of its role
  pub record DoneOnPool (role step : ℕ) (n : PoolNote) : Type 0 where
    pub at_length : ℕ
    pub before : List Act
    pub act : At (on_pool n at_length) before (l.acts role)
    pub number : step ≡ length before

  pub done_on_pool : (role step : ℕ) (n : PoolNote) (past : List (Entry PoolNote)) → role < roles w → At (entry role step n) past t.pool → DoneOnPool role step n
  done_on_pool role step n past r a =
      let x = to_pool (entry role step n) past t.pool a in
      let y = to_entries (entry role step (on_pool n (length past + 1))) (pool_acts past) (pool_acts t.pool) x in
      let z = subst (λ (k : List (Entry Act)). At (entry role step (on_pool n (length past + 1))) (entries_of role (pool_acts past)) k) (l.own role r).pool y in
      let u = from_part role 0 role step (on_pool n (length past + 1)) (entries_of role (pool_acts past)) (l.acts role) z in
      record { at_length = length past + 1; before = u.0; act = u.1; number = u.2 }

  -- each act is on one of the buckets that there are, or on a pool
  pub real_at : (r b : ℕ) (n : BucketNote) (left : List Gone) (before : List Act) → r < roles w → At (on_bucket b n left) before (l.acts r) → b < length t.buckets
  real_at r b n left before h a = real_in (l.acts r) (l.own r h).within a
    where
      real_in : (acts : List Act) → are_within (length t.buckets + 2) acts ≡ true → At (on_bucket b n left) before acts → b < length t.buckets
      real_in [] k a = absurd a
      real_in (x ∷ acts) k a =
          let z = both (nat_lt (place_of x) (length t.buckets + 2)) (are_within (length t.buckets + 2) acts) k in
          ⊎_elim (λ y. let q = below (place_of x) (length t.buckets + 2) z.0 in omega (arith, q, ap place_of y.0)) (λ y. real_in acts z.1 y) a
