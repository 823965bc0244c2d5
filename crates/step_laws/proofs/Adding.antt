-- One entry more by a role: the histories stay legal, the role's acts grow by just that act, since an act carries what its entry means after
-- the entries before it, and what the other roles did stays what they did.
use Rattle.std.proofs.Common.{◌≡◌, ℕ, ◌==◌, ◌<◌, Bool, true, false, cond, if◌then◌else◌, List, [], ◌∷◌, length, ⊎_elim, refl, sym, ◌∙◌, ap, subst, arith, All}
use Rattle.std.proofs.lemmas.Bool.Decides.{eqb_tells, nat_tests}
use Rattle.std.proofs.lemmas.List.Elements.{All-cons}
use Rattle.bucket_laws.specs.Leaving.{Gone}
use Rattle.bucket_rules.specs.Rule.{IsLegal}
use Rattle.flow_pool.specs.Counting.{FlowPoolRules}
use Rattle.run_laws.proofs.Sums.{same_number}
use Rattle.run_rules.proofs.Carrying.{carried, stepped_on_bucket, stepped_on_pool, stepped_on_segments}
use Rattle.run_rules.specs.Acts.{Act, AreActs, on_bucket, on_pool, on_segments}
use Rattle.run_rules.specs.Growing.{Grew, GrewFor}
use Rattle.run_rules.specs.Histories.{Histories, bucket_at}
use Rattle.run_rules.specs.Lawful.{AreLegal, setting_for}
use Rattle.run_rules.specs.Setup.{Setup, fixed_at, roles}
use Rattle.segment_pool.specs.Counting.{KeepsRules}
use Rattle.step_laws.specs.Adding.{IsAdded}
use Rattle.suri_base.specs.History.{entries_of, entry}
use Rattle.suri_base.specs.declared.entry.BucketNote.{BucketNote}
use Rattle.suri_base.specs.declared.entry.Entry.{Entry}
use Rattle.suri_base.specs.declared.entry.PoolNote.{PoolNote}
use Rattle.suri_base.specs.declared.entry.SegNote.{SegNote}

-- one role's value changed

abbrev pub changed : {A : Type 0} → ℕ → A → (ℕ → A) → ℕ → A
changed role x f r = if role == r then x else f r

pub changed_own : {A : Type 0} (role : ℕ) (x : A) (f : ℕ → A) → changed role x f role ≡ x
changed_own role x f = let e : (role == role) ≡ true = same_yes role in rw e refl
  where
    same_yes : (r : ℕ) → (r == r) ≡ true
    same_yes r = grind (arith, nat_tests)

pub changed_other : {A : Type 0} (role : ℕ) (x : A) (f : ℕ → A) (r : ℕ) → (role == r) ≡ false → changed role x f r ≡ f r
changed_other role x f r h = rw h refl

pub below_other : (x y : ℕ) → x < y → (x == y) ≡ false
below_other x y h = grind (arith, nat_tests)

pub above_other : (x y : ℕ) → y < x → (x == y) ≡ false
above_other x y h = grind (arith, nat_tests)

-- histories that grew by other roles

grown : {N : Type 0} (r role step : ℕ) (n : N) (old new : List (Entry N)) → (role == r) ≡ false → new ≡ entry role step n ∷ old → GrewFor r old new
grown {N} r role step n old new h e = (entry role step n ∷ [], e, none)
  where
    none : entries_of r (entry role step n ∷ []) ≡ []
    none = rw h refl

stayed : {N : Type 0} (r : ℕ) (old new : List (Entry N)) → new ≡ old → GrewFor r old new
stayed r old new e = ([], e, refl)

module _ (w : Setup) (role step : ℕ) (old new : Histories) where
  grew : (a : Act) → IsAdded w role step old new a → (r : ℕ) → (role == r) ≡ false → Grew r old new
  grew (on_pool n i) h r f = record {
    pool = grown r role step n old.pool new.pool f h.pool;
    segments = stayed r old.segments new.segments h.segments;
    rows = ap length h.buckets;
    buckets = λ b l. stayed r (bucket_at b old.buckets) (bucket_at b new.buckets) (ap (λ (x : List (List (Entry BucketNote))). bucket_at b x) h.buckets);
  }
  grew (on_segments n) h r f = record {
    pool = stayed r old.pool new.pool h.pool;
    segments = grown r role step n old.segments new.segments f h.segments;
    rows = ap length h.buckets;
    buckets = λ b l. stayed r (bucket_at b old.buckets) (bucket_at b new.buckets) (ap (λ (x : List (List (Entry BucketNote))). bucket_at b x) h.buckets);
  }
  grew (on_bucket b n left) h r f = record {
    pool = stayed r old.pool new.pool h.pool;
    segments = stayed r old.segments new.segments h.segments;
    rows = h.rows;
    buckets = λ c l. ⊎_elim
        (λ e. subst (λ (x : ℕ). GrewFor r (bucket_at x old.buckets) (bucket_at x new.buckets)) (sym e.1) (grown r role step n (bucket_at b old.buckets) (bucket_at b new.buckets) f h.bucket))
        (λ e. stayed r (bucket_at c old.buckets) (bucket_at c new.buckets) (h.others c e.1))
        (eqb_tells c b);
  }

  -- legal histories

  one_role : {N : Type 0} (n : N) (past more : List (Entry N)) → role < roles w → more ≡ entry role step n ∷ past → All (λ (e : Entry N). e.role < roles w) past
      → All (λ (e : Entry N). e.role < roles w) more
  one_role {N} n past more h e all =
      subst (λ (x : List (Entry N)). All (λ (d : Entry N). d.role < roles w) x) (sym e) (All-cons (λ (d : Entry N). d.role < roles w) (entry role step n) past h all)

  pub still_legal : (a : Act) → role < roles w → IsAdded w role step old new a → AreLegal w old → AreLegal w new
  still_legal (on_pool n i) r h l = record {
    rows = ap length h.buckets ∙ l.rows;
    pool = h.legal;
    segments = subst (λ (x : List (Entry SegNote)). KeepsRules w.layout.segments x) (sym h.segments) l.segments;
    buckets = λ b k. subst (λ (x : List (List (Entry BucketNote))). IsLegal (fixed_at w b) (bucket_at b x)) (sym h.buckets) (l.buckets b (real b h.buckets k));
    pool_roles = one_role n old.pool new.pool r h.pool l.pool_roles;
    segment_roles = subst (λ (x : List (Entry SegNote)). All (λ (d : Entry SegNote). d.role < roles w) x) (sym h.segments) l.segment_roles;
    bucket_roles = λ b k. subst (λ (x : List (List (Entry BucketNote))). All (λ (d : Entry BucketNote). d.role < roles w) (bucket_at b x)) (sym h.buckets) (l.bucket_roles b (real b h.buckets k));
  }
    where
      real : (b : ℕ) → new.buckets ≡ old.buckets → b < length new.buckets → b < length old.buckets
      real b e k = subst (λ (x : List (List (Entry BucketNote))). b < length x) e k
  still_legal (on_segments n) r h l = record {
    rows = ap length h.buckets ∙ l.rows;
    pool = subst (λ (x : List (Entry PoolNote)). FlowPoolRules (setting_for w) x) (sym h.pool) l.pool;
    segments = h.legal;
    buckets = λ b k. subst (λ (x : List (List (Entry BucketNote))). IsLegal (fixed_at w b) (bucket_at b x)) (sym h.buckets) (l.buckets b (real b h.buckets k));
    pool_roles = subst (λ (x : List (Entry PoolNote)). All (λ (d : Entry PoolNote). d.role < roles w) x) (sym h.pool) l.pool_roles;
    segment_roles = one_role n old.segments new.segments r h.segments l.segment_roles;
    bucket_roles = λ b k. subst (λ (x : List (List (Entry BucketNote))). All (λ (d : Entry BucketNote). d.role < roles w) (bucket_at b x)) (sym h.buckets) (l.bucket_roles b (real b h.buckets k));
  }
    where
      real : (b : ℕ) → new.buckets ≡ old.buckets → b < length new.buckets → b < length old.buckets
      real b e k = subst (λ (x : List (List (Entry BucketNote))). b < length x) e k
  still_legal (on_bucket b n left) r h l = record {
    rows = h.rows ∙ l.rows;
    pool = subst (λ (x : List (Entry PoolNote)). FlowPoolRules (setting_for w) x) (sym h.pool) l.pool;
    segments = subst (λ (x : List (Entry SegNote)). KeepsRules w.layout.segments x) (sym h.segments) l.segments;
    buckets = λ c k. ⊎_elim
        (λ e. subst (λ (x : ℕ). IsLegal (fixed_at w x) (bucket_at x new.buckets)) (sym e.1) h.legal)
        (λ e. subst (λ (x : List (Entry BucketNote)). IsLegal (fixed_at w c) x) (sym (h.others c e.1)) (l.buckets c (real c k)))
        (eqb_tells c b);
    pool_roles = subst (λ (x : List (Entry PoolNote)). All (λ (d : Entry PoolNote). d.role < roles w) x) (sym h.pool) l.pool_roles;
    segment_roles = subst (λ (x : List (Entry SegNote)). All (λ (d : Entry SegNote). d.role < roles w) x) (sym h.segments) l.segment_roles;
    bucket_roles = λ c k. ⊎_elim
        (λ e. subst (λ (x : ℕ). All (λ (d : Entry BucketNote). d.role < roles w) (bucket_at x new.buckets)) (sym e.1)
        (one_role n (bucket_at b old.buckets) (bucket_at b new.buckets) r h.bucket (l.bucket_roles b h.real)))
        (λ e. subst (λ (x : List (Entry BucketNote)). All (λ (d : Entry BucketNote). d.role < roles w) x) (sym (h.others c e.1)) (l.bucket_roles c (real c k)))
        (eqb_tells c b);
  }
    where
      real : (c : ℕ) → c < length new.buckets → c < length old.buckets
      real c k = subst (λ (x : ℕ). c < x) h.rows k

-- the role's acts, and those of the others

one_act : (w : Setup) (role : ℕ) (old new : Histories) (acts : List Act) (a : Act) → IsAdded w role (length acts) old new a → AreActs w old role acts → AreActs w new role (a ∷ acts)
one_act w role old new acts (on_pool n i) h own = stepped_on_pool w role old new n (on_pool n i) acts own
    (record { before = old.pool; grew = stayed role old.pool old.pool refl; pool = h.pool; is = ap (λ (x : ℕ). on_pool n x) h.numbered; segments = h.segments; buckets = h.buckets })
one_act w role old new acts (on_segments n) h own = stepped_on_segments w role old new n (on_segments n) acts own
    (record { before = old.segments; grew = stayed role old.segments old.segments refl; segments = h.segments; is = refl; pool = h.pool; buckets = h.buckets })
one_act w role old new acts (on_bucket b n left) h own = stepped_on_bucket w role old new b n (on_bucket b n left) acts own (record {
  real = h.real;
  before = bucket_at b old.buckets;
  grew = stayed role (bucket_at b old.buckets) (bucket_at b old.buckets) refl;
  bucket = h.bucket;
  is = ap (λ (x : List Gone). on_bucket b n x) h.goes;
  rows = h.rows;
  others = h.others;
  pool = h.pool;
  segments = h.segments;
})

pub still_own : (w : Setup) (role : ℕ) (old new : Histories) (acts : ℕ → List Act) (a : Act) → role < roles w → IsAdded w role (length (acts role)) old new a
    → ((r : ℕ) → r < roles w → AreActs w old r (acts r)) → (r : ℕ) → r < roles w → AreActs w new r (changed role (a ∷ acts role) acts r)
still_own w role old new acts a real h own r l = by_test (role == r) refl
  where
    by_test : (t : Bool) → (role == r) ≡ t → AreActs w new r (cond t (a ∷ acts role) (acts r))
    by_test true e = subst (λ (x : ℕ). AreActs w new x (a ∷ acts role)) (same_number role r e) (one_act w role old new (acts role) a h (own role real))
    by_test false e = carried w r old new (acts r) (grew w role (length (acts role)) old new a h r e) (own r l)
