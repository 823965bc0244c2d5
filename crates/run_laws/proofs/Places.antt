-- Entries and acts at their places: from a history to a role's acts, and back, one lemma each way for each history.
use Rattle.std.proofs.Common.{◌≡◌, ℕ, ◌==◌, ◌+◌, ◌<◌, Bool, true, false, cond, List, [], ◌∷◌, length, ⊎_elim, inl, inr, refl, sym, ◌∙◌, ap, subst, arith, All}
use Rattle.std.proofs.lemmas.Bool.Decides.{nat_tests}
use Rattle.std.proofs.lemmas.List.Elements.{All-head, All-tail}
use Rattle.bucket_laws.specs.Leaving.{Gone, gone}
use Rattle.bucket_laws.specs.Places.{At}
use Rattle.flow_pool.specs.Counting.{FlowPoolRules, StandsAt, flows_out, is_on}
use Rattle.flow_pool.specs.declared.calls.PoolSetting.{PoolSetting}
use Rattle.run_rules.specs.Acts.{Act, bucket_acts, on_bucket, on_pool, part, place_of, pool_acts}
use Rattle.run_rules.specs.Setup.{Setup, fixed_at}
use Rattle.suri_base.specs.History.{entries_of, entry}
use Rattle.suri_base.specs.declared.entry.BucketNote.{BucketNote}
use Rattle.suri_base.specs.declared.entry.Entry.{Entry}
use Rattle.suri_base.specs.declared.entry.PoolNote.{PoolNote}

pub legal_pool_at : (s : PoolSetting) (e : Entry PoolNote) (past h : List (Entry PoolNote)) → FlowPoolRules s h → At e past h → StandsAt s (flows_out past) (is_on past) e.note
legal_pool_at s e past [] k a = absurd a
legal_pool_at s e past (x ∷ h) k a = ⊎_elim
    (λ y. subst (λ (u : Entry PoolNote). StandsAt s (flows_out past) (is_on past) u.note) y.0 (subst (λ (u : List (Entry PoolNote)). StandsAt s (flows_out u) (is_on u) x.note) y.1 k.0))
    (λ y. legal_pool_at s e past h k.1 y) a

pub role_at : {N : Type 0} (n : ℕ) (e : Entry N) (past h : List (Entry N)) → All (λ (d : Entry N). d.role < n) h → At e past h → e.role < n
role_at n e past [] l a = absurd a
role_at {N} n e past (x ∷ h) l a = ⊎_elim
    (λ z. subst (λ (y : Entry N). y.role < n) z.0 (All-head (λ (d : Entry N). d.role < n) x h l))
    (λ z. role_at n e past h (All-tail (λ (d : Entry N). d.role < n) x h l) z) a

-- from acts to a history

pub in_part : (role p : ℕ) (a : Act) (before acts : List Act) → At a before acts → place_of a ≡ p → At (entry role (length before) a) (part role p before) (part role p acts)
in_part role p a before [] h e = absurd h
in_part role p a before (x ∷ acts) h e = ⊎_elim
    (λ z. let s : (place_of x == p) ≡ true = same_yes' (place_of x) p (ap place_of z.0 ∙ e) in rw s
    (inl (ap (λ (y : Act). entry role (length acts) y) z.0 ∙ ap (λ (y : List Act). entry role (length y) a) z.1, ap (part role p) z.1)))
    (λ z. skip (place_of x == p) (in_part role p a before acts z e)) h
  where
    same_yes' : (u v : ℕ) → u ≡ v → (u == v) ≡ true
    same_yes' u v q = grind (arith, nat_tests)

    skip : (t : Bool) → At (entry role (length before) a) (part role p before) (part role p acts)
        → At (entry role (length before) a) (part role p before) (cond t (entry role (length acts) x ∷ part role p acts) (part role p acts))
    skip true k = inr k
    skip false k = k

pub from_entries : {N : Type 0} (r : ℕ) (e : Entry N) (past h : List (Entry N)) → At e past (entries_of r h) → (before : List (Entry N)) × At e before h
from_entries r e past [] a = absurd a
from_entries r e past (x ∷ h) a = by_test (x.role == r) (λ k. from_entries r e past h k) a
  where
    by_test : (t : Bool) → (At e past (entries_of r h) → (before : List (Entry _)) × At e before h) → At e past (cond t (x ∷ entries_of r h) (entries_of r h))
        → (before : List (Entry _)) × At e before (x ∷ h)
    by_test true k a = ⊎_elim (λ z. (h, inl (z.0, refl))) (λ z. let y = k z in (y.0, inr y.1)) a
    by_test false k a = let y = k a in (y.0, inr y.1)

pub from_pool : (r s i : ℕ) (n : PoolNote) (past : List (Entry Act)) (h : List (Entry PoolNote)) → At (entry r s (on_pool n i)) past (pool_acts h)
    → (before : List (Entry PoolNote)) × At (entry r s n) before h × (i ≡ length before + 1)
from_pool r s i n past [] a = absurd a
from_pool r s i n past (x ∷ h) a = ⊎_elim
    (λ z. let e : entry x.role x.step (on_pool x.note (length h + 1)) ≡ entry r s (on_pool n i) = z.0 in
    (h, inl (same_entry x r s n (length h + 1) i e, refl), same_place x r s n (length h + 1) i e))
    (λ z. let y = from_pool r s i n past h z in (y.0, inr y.1, y.2)) a
  where
    same_entry : (x : Entry PoolNote) (r s : ℕ) (n : PoolNote) (j i : ℕ) → entry x.role x.step (on_pool x.note j) ≡ entry r s (on_pool n i) → x ≡ entry r s n
    same_entry x r s n j i e =
        let role : x.role ≡ r = ap (λ (y : Entry Act). y.role) e in
        let step : x.step ≡ s = ap (λ (y : Entry Act). y.step) e in
        let act : on_pool x.note j ≡ on_pool n i = ap (λ (y : Entry Act). y.note) e in
        let note : x.note ≡ n = cc in
        ap (λ (y : ℕ). entry y x.step x.note) role ∙ (ap (λ (y : ℕ). entry r y x.note) step ∙ ap (λ (y : PoolNote). entry r s y) note)

    same_place : (x : Entry PoolNote) (r s : ℕ) (n : PoolNote) (j i : ℕ) → entry x.role x.step (on_pool x.note j) ≡ entry r s (on_pool n i) → i ≡ j
    same_place x r s n j i e = let act : on_pool x.note j ≡ on_pool n i = ap (λ (y : Entry Act). y.note) e in let k : j ≡ i = cc in sym k

pub from_bucket : (w : Setup) (b c r s : ℕ) (n : BucketNote) (left : List Gone) (past : List (Entry Act)) (h : List (Entry BucketNote)) → At (entry r s (on_bucket c n left)) past (bucket_acts w b h)
    → (before : List (Entry BucketNote)) × At (entry r s n) before h × (left ≡ gone (fixed_at w b) before n)
from_bucket w b c r s n left past [] a = absurd a
from_bucket w b c r s n left past (x ∷ h) a = ⊎_elim
    (λ z. let e : entry x.role x.step (on_bucket b x.note (gone (fixed_at w b) h x.note)) ≡ entry r s (on_bucket c n left) = z.0 in
    let role : x.role ≡ r = ap (λ (y : Entry Act). y.role) e in
    let step : x.step ≡ s = ap (λ (y : Entry Act). y.step) e in
    let act : on_bucket b x.note (gone (fixed_at w b) h x.note) ≡ on_bucket c n left = ap (λ (y : Entry Act). y.note) e in
    let note : x.note ≡ n = cc in
    let out : gone (fixed_at w b) h x.note ≡ left = cc in
    (h, inl (ap (λ (y : ℕ). entry y x.step x.note) role ∙ (ap (λ (y : ℕ). entry r y x.note) step ∙ ap (λ (y : BucketNote). entry r s y) note), refl), sym out ∙ ap (gone (fixed_at w b) h) note))
    (λ z. let y = from_bucket w b c r s n left past h z in (y.0, inr y.1, y.2)) a

-- from a history to acts

pub to_bucket : (w : Setup) (b : ℕ) (e : Entry BucketNote) (past h : List (Entry BucketNote)) → At e past h
    → At (entry e.role e.step (on_bucket b e.note (gone (fixed_at w b) past e.note))) (bucket_acts w b past) (bucket_acts w b h)
to_bucket w b e past [] a = absurd a
to_bucket w b e past (x ∷ h) a = ⊎_elim
    (λ z. inl (
      ap (λ (y : Entry BucketNote). entry y.role y.step (on_bucket b y.note (gone (fixed_at w b) h y.note))) z.0 ∙ ap
          (λ (y : List (Entry BucketNote)). entry e.role e.step (on_bucket b e.note (gone (fixed_at w b) y e.note))) z.1,
      ap (bucket_acts w b) z.1,
    ))
    (λ z. inr (to_bucket w b e past h z)) a

pub to_entries : {N : Type 0} (e : Entry N) (past h : List (Entry N)) → At e past h → At e (entries_of e.role past) (entries_of e.role h)
to_entries e past [] a = absurd a
to_entries e past (x ∷ h) a = ⊎_elim
    (λ z. let s : (x.role == e.role) ≡ true = same_yes' x.role e.role (ap (λ (y : Entry _). y.role) z.0) in rw s (inl (z.0, ap (entries_of e.role) z.1)))
    (λ z. skip (x.role == e.role) (to_entries e past h z)) a
  where
    same_yes' : (u v : ℕ) → u ≡ v → (u == v) ≡ true
    same_yes' u v q = grind (arith, nat_tests)

    skip : (t : Bool) → At e (entries_of e.role past) (entries_of e.role h) → At e (entries_of e.role past) (cond t (x ∷ entries_of e.role h) (entries_of e.role h))
    skip true k = inr k
    skip false k = k

pub from_part : (role p r s : ℕ) (a : Act) (past : List (Entry Act)) (acts : List Act) → At (entry r s a) past (part role p acts) → (before : List Act) × At a before acts × (s ≡ length before)
from_part role p r s a past [] h = absurd h
from_part role p r s a past (x ∷ acts) h = by_test (place_of x == p) (λ k. from_part role p r s a past acts k) h
  where
    by_test : (t : Bool) → (At (entry r s a) past (part role p acts) → (before : List Act) × At a before acts × (s ≡ length before))
        → At (entry r s a) past (cond t (entry role (length acts) x ∷ part role p acts) (part role p acts)) → (before : List Act) × At a before (x ∷ acts) × (s ≡ length before)
    by_test true k h = ⊎_elim
        (λ z. (acts, inl (ap (λ (y : Entry Act). y.note) z.0, refl), sym (ap (λ (y : Entry Act). y.step) z.0)))
        (λ z. let y = k z in (y.0, inr y.1, y.2)) h
    by_test false k h = let y = k h in (y.0, inr y.1, y.2)

pub to_pool : (e : Entry PoolNote) (past h : List (Entry PoolNote)) → At e past h → At (entry e.role e.step (on_pool e.note (length past + 1))) (pool_acts past) (pool_acts h)
to_pool e past [] a = absurd a
to_pool e past (x ∷ h) a = ⊎_elim
    (λ z. inl (
      ap (λ (y : Entry PoolNote). entry y.role y.step (on_pool y.note (length h + 1))) z.0
          ∙ ap (λ (y : List (Entry PoolNote)). entry e.role e.step (on_pool e.note (length y + 1))) z.1,
      ap pool_acts z.1,
    ))
    (λ z. inr (to_pool e past h z)) a
