-- The records of all roles are one for each run. Each role told the records of the runs that it finished; every run that began is finished once,
-- and no other number, since objects come back. So the numbers of the records are those of the runs, each once; both lists climb, so they are
-- one list, and each record is that of its number.
use Rattle.std.proofs.Common.{◌≡◌, ℕ, zero, suc, ◌==◌, ◌+◌, ◌<◌, ◌≤◌, nat_lt, Bool, true, false, cond, List, [], ◌∷◌, ◌++◌, length, map, reverse, Some, refl, sym, ◌∙◌, ap, arith, eqb-true, All, sum_by}
use Rattle.std.proofs.lemmas.Bool.Decides.{nat_tests}
use Rattle.std.proofs.lemmas.List.{map-append, reverse-append}
use Rattle.std.proofs.lemmas.List.Elements.{All-append, All-cons, All-head, All-nil, All-tail}
use Rattle.std.proofs.lemmas.List.Sorted.{All-permutation, sum_by-IsPermutation}
use Rattle.std.proofs.lemmas.List.Sums.{sum_by-cons}
use Rattle.std.specs.List.{concat}
use Rattle.std.specs.List.Sorted.{IsNonDecreasingBy, IsPermutation}
use Rattle.std.specs.Prelude.{slice_index_or}
use Rattle.bucket_laws.specs.Counts.{begins, one_if, times_begun}
use Rattle.bucket_laws.specs.Leaving.{put, rising}
use Rattle.bucket_rules.specs.Row.{made, made_by}
use Rattle.flow_object.specs.declared.outcome.FlowLine.{FlowLine}
use Rattle.record_laws.proofs.Recording.{line_is, number_is, numbers_are}
use Rattle.record_laws.specs.Telling.{HaveTold, told_below}
use Rattle.role_steps.specs.Items.{LinesOf}
use Rattle.run_laws.proofs.Counting.{count_in, is_own}
use Rattle.run_laws.proofs.Hands.{sum_front}
use Rattle.run_laws.proofs.Parts.{met, pool_sum}
use Rattle.run_laws.proofs.Sums.{sum_same}
use Rattle.run_laws.proofs.Uses.{given}
use Rattle.run_laws.specs.Counts.{gives, is, made_in, sum_below}
use Rattle.run_laws.specs.Measures.{given_by, total}
use Rattle.run_laws.specs.Setting.{IsSetup}
use Rattle.run_rules.specs.Acts.{Act, on_bucket, on_pool, on_segments}
use Rattle.run_rules.specs.Growing.{HasGrown}
use Rattle.run_rules.specs.Histories.{Histories, bucket_at}
use Rattle.run_rules.specs.Lawful.{AreLawful, AreScripted}
use Rattle.run_rules.specs.Runs.{line_in, runs_in}
use Rattle.run_rules.specs.Serving.{finished}
use Rattle.run_rules.specs.Setup.{Setup, roles}
use Rattle.suri_base.proofs.Histories.{begins_itself}
use Rattle.suri_base.specs.declared.entry.BucketNote.{BucketNote}
use Rattle.suri_base.specs.declared.entry.BucketNote.TheVariants.{AllInUse, Closed, Drained, Found, Idle, Made, Missing, Refused, Stopped, Stored, Swept, Victim}
use Rattle.suri_base.specs.declared.entry.Entry.{Entry}
use Rattle.suri_base.specs.declared.entry.PoolNote.TheVariants.{Full, Mode, Over, Put, Took, Turn}

-- how often a number stands in a list

count_append : (a : ℕ) (xs ys : List ℕ) → count_in a (xs ++ ys) ≡ count_in a xs + count_in a ys
count_append a [] ys = omega arith
count_append a (x ∷ xs) ys = omega (arith, count_append a xs ys)

count_reverse : (a : ℕ) (xs : List ℕ) → count_in a (reverse xs) ≡ count_in a xs
count_reverse a [] = refl
count_reverse a (x ∷ xs) =
    let e : count_in a (reverse (x ∷ xs)) ≡ count_in a (reverse xs ++ x ∷ []) = ap (count_in a) (reverse-append (x ∷ []) xs) in
    let k = count_append a (reverse xs) (x ∷ []) in
    omega (arith, e, k, count_reverse a xs)

count_put : (a x : ℕ) (xs : List ℕ) → count_in a (put x xs) ≡ is x a + count_in a xs
count_put a x [] = refl
count_put a x (y ∷ ys) = by (nat_lt y x) (count_put a x ys)
  where
    by : (b : Bool) → count_in a (put x ys) ≡ is x a + count_in a ys → count_in a (cond b (y ∷ put x ys) (x ∷ y ∷ ys)) ≡ is x a + (is y a + count_in a ys)
    by true h = omega (arith, h)
    by false h = refl

count_rising : (a : ℕ) (xs : List ℕ) → count_in a (rising xs) ≡ count_in a xs
count_rising a [] = refl
count_rising a (x ∷ xs) = omega (arith, count_put a x (rising xs), count_rising a xs)

-- in the runs that buckets began

count_made_by : (a : ℕ) (n : BucketNote) (xs : List ℕ) → count_in a (made_by n xs) ≡ one_if (begins n a) + count_in a xs
count_made_by a (Found f emergency seen run said) xs = omega arith
count_made_by a (Missing f emergency seen ended) xs = omega arith
count_made_by a (Made f said) xs = refl
count_made_by a (Refused f) xs = omega arith
count_made_by a (Stored f) xs = omega arith
count_made_by a (Stopped f) xs = omega arith
count_made_by a (Closed f app run freed ended) xs = omega arith
count_made_by a (Idle f app) xs = omega arith
count_made_by a (Victim f run) xs = omega arith
count_made_by a (AllInUse f count) xs = omega arith
count_made_by a (Swept round emergency seen count) xs = omega arith
count_made_by a (Drained count) xs = omega arith

count_made : (a : ℕ) (h : List (Entry BucketNote)) → count_in a (made h) ≡ times_begun a h
count_made a [] = refl
count_made a (e ∷ h) = omega (arith, count_made_by a e.note (made h), count_made a h)

count_all_made : (a : ℕ) (hs : List (List (Entry BucketNote))) → count_in a (concat (map (λ h. made h) hs)) ≡ sum_below (length hs) (λ b. times_begun a (bucket_at b hs))
count_all_made a [] = refl
count_all_made a (h ∷ hs) =
    omega (
      arith,
      count_append a (made h) (concat (map (λ h. made h) hs)),
      count_made a h,
      count_all_made a hs,
      sum_front (length hs) (λ b. times_begun a (bucket_at b (h ∷ hs))),
    )

-- in the runs that acts finished

count_finished : (a : ℕ) (acts : List Act) → count_in a (finished acts) ≡ total (given_by a) acts
count_finished a [] = refl
count_finished a (on_pool (Took f) i ∷ acts) = omega (arith, count_finished a acts)
count_finished a (on_pool (Full f out limit) i ∷ acts) = omega (arith, count_finished a acts)
count_finished a (on_pool (Put run) i ∷ acts) = omega (arith, count_finished a acts)
count_finished a (on_pool (Turn run f) i ∷ acts) = omega (arith, count_finished a acts)
count_finished a (on_pool (Mode e) i ∷ acts) = omega (arith, count_finished a acts)
count_finished a (on_pool (Over round done) i ∷ acts) = omega (arith, count_finished a acts)
count_finished a (on_segments n ∷ acts) = omega (arith, count_finished a acts)
count_finished a (on_bucket b n left ∷ acts) = omega (arith, count_finished a acts)

-- in the numbers of lines

abbrev numbers : List FlowLine → List ℕ
numbers lines = map (λ x. x.sums.first_no) lines

count_sum : (a : ℕ) (lines : List FlowLine) → count_in a (numbers lines) ≡ sum_by (λ (x : FlowLine). is x.sums.first_no a) lines
count_sum a [] = refl
count_sum a (x ∷ lines) = omega (arith, count_sum a lines, sum_by-cons (λ (x : FlowLine). is x.sums.first_no a) x lines)

count_moved : (a : ℕ) (xs ys : List FlowLine) → IsPermutation xs ys → count_in a (numbers ys) ≡ count_in a (numbers xs)
count_moved a xs ys p = count_sum a ys ∙ (sum_by-IsPermutation (λ (x : FlowLine). is x.sums.first_no a) xs ys p ∙ sym (count_sum a xs))

count_told : (a n : ℕ) (told : ℕ → List FlowLine) → count_in a (numbers (told_below n told)) ≡ sum_below n (λ r. count_in a (numbers (told r)))
count_told a zero told = refl
count_told a (suc n) told =
    let e = ap (count_in a) (map-append (λ (x : FlowLine). x.sums.first_no) (told_below n told) (told n)) in
    let k = count_append a (numbers (told_below n told)) (numbers (told n)) in
    omega (arith, e, k, count_told a n told)

-- lists that climb

abbrev AllFrom : ℕ → List ℕ → Type 0
AllFrom v [] = Unit {0}
AllFrom v (x ∷ xs) = (v ≤ x) × AllFrom v xs

abbrev Climbs : List ℕ → Type 0
Climbs [] = Unit {0}
Climbs (x ∷ xs) = AllFrom x xs × Climbs xs

from_less : (u v : ℕ) (xs : List ℕ) → u ≤ v → AllFrom v xs → AllFrom u xs
from_less u v [] l f = tt
from_less u v (x ∷ xs) l f = (omega (arith, l, f.0), from_less u v xs l f.1)

from_put : (v x : ℕ) (xs : List ℕ) → v ≤ x → AllFrom v xs → AllFrom v (put x xs)
from_put v x [] l f = (l, tt)
from_put v x (y ∷ ys) l f = by (nat_lt y x) (from_put v x ys l f.1)
  where
    by : (b : Bool) → AllFrom v (put x ys) → AllFrom v (cond b (y ∷ put x ys) (x ∷ y ∷ ys))
    by true k = (f.0, k)
    by false k = (l, f)

put_climbs : (x : ℕ) (xs : List ℕ) → Climbs xs → Climbs (put x xs)
put_climbs x [] c = (tt, tt)
put_climbs x (y ∷ ys) c = by (nat_lt y x) refl (put_climbs x ys c.1)
  where
    less : (y x : ℕ) → nat_lt y x ≡ true → y ≤ x
    less y x e = grind (arith, nat_tests)

    more : (y x : ℕ) → nat_lt y x ≡ false → x ≤ y
    more y x e = grind (arith, nat_tests)

    by : (b : Bool) → nat_lt y x ≡ b → Climbs (put x ys) → Climbs (cond b (y ∷ put x ys) (x ∷ y ∷ ys))
    by true e k = (from_put y x ys (less y x e) c.0, k)
    by false e k = ((more y x e, from_less x y ys (more y x e) c.0), c)

rising_climbs : (xs : List ℕ) → Climbs (rising xs)
rising_climbs [] = tt
rising_climbs (x ∷ xs) = put_climbs x (rising xs) (rising_climbs xs)

all_from : (v : ℕ) (lines : List FlowLine) → ((j : ℕ) (d : FlowLine) → j < length lines → v ≤ (slice_index_or lines j d).sums.first_no) → AllFrom v (numbers lines)
all_from v [] h = tt
all_from v (x ∷ lines) h = (h 0 x (omega arith), all_from v lines (λ j d lt. h (suc j) d (omega (arith, lt))))

lines_climb : (lines : List FlowLine) → IsNonDecreasingBy (λ x. x.sums.first_no) lines → Climbs (numbers lines)
lines_climb [] h = tt
lines_climb (x ∷ lines) h = (
  all_from x.sums.first_no lines (λ j d lt. h 0 (suc j) d (omega arith) (omega (arith, lt))),
  lines_climb lines (λ i j d le lt. h (suc i) (suc j) d (omega (arith, le)) (omega (arith, lt))),
)

counted_from : (v a : ℕ) (xs : List ℕ) → AllFrom v xs → 1 ≤ count_in a xs → v ≤ a
counted_from v a [] f h = absurd (omega arith)
counted_from v a (x ∷ xs) f h = by (x == a) refl h (λ k. counted_from v a xs f.1 k)
  where
    by : (b : Bool) → (x == a) ≡ b → 1 ≤ one_if b + count_in a xs → (1 ≤ count_in a xs → v ≤ a) → v ≤ a
    by true e k more = omega (arith, f.0, eqb-true x a e)
    by false e k more = more (omega (arith, k))

-- two lists that climb, and have each number as often, are one
same_climbing : (xs ys : List ℕ) → Climbs xs → Climbs ys → ((a : ℕ) → count_in a xs ≡ count_in a ys) → xs ≡ ys
same_climbing [] [] c k h = refl
same_climbing [] (y ∷ ys) c k h = absurd (omega (arith, h y, is_own y))
same_climbing (x ∷ xs) [] c k h = absurd (omega (arith, h x, is_own x))
same_climbing (x ∷ xs) (y ∷ ys) c k h =
    let below : y ≤ x = counted_from y x (y ∷ ys) (omega arith, k.0) (omega (arith, h x, is_own x)) in
    let above : x ≤ y = counted_from x y (x ∷ xs) (omega arith, c.0) (omega (arith, h y, is_own y)) in
    let e : x ≡ y = omega (arith, below, above) in
    let rest = same_climbing xs ys c.1 k.1 (λ a. let q : is x a ≡ is y a = ap (λ (z : ℕ). is z a) e in omega (arith, h a, q)) in
    ap (λ (z : ℕ). z ∷ xs) e ∙ ap (λ (zs : List ℕ). y ∷ zs) rest

module _ (w : Setup) (t : Histories) (d : IsSetup w) (l : AreScripted w t) where
  no_more : HasGrown t t
  no_more = record { pool = begins_itself t.pool; segments = begins_itself t.segments; rows = refl; buckets = λ b x. begins_itself (bucket_at b t.buckets) }

  -- the line is the record of its number
  abbrev IsItsRecord : FlowLine → Type 0
  IsItsRecord x = line_in w t x.sums.first_no ≡ Some x

  lines_are_its : (runs : List ℕ) (lines : List FlowLine) → LinesOf w t runs lines → All IsItsRecord lines
  lines_are_its [] [] i = All-nil IsItsRecord
  lines_are_its (a ∷ runs) (x ∷ lines) i =
      All-cons IsItsRecord x lines (ap (λ (n : ℕ). line_in w t n) (number_is w t t d l no_more a x i.0) ∙ line_is w t t d l no_more a x i.0) (lines_are_its runs lines i.1)
  lines_are_its [] (x ∷ lines) i = absurd i
  lines_are_its (a ∷ runs) [] i = absurd i

  told_are_its : (n : ℕ) → n ≤ roles w → (told : ℕ → List FlowLine) → HaveTold w t l.acts told → All IsItsRecord (told_below n told)
  told_are_its zero b told h = All-nil IsItsRecord
  told_are_its (suc n) b told h =
      All-append IsItsRecord (told_below n told) (told n) (told_are_its n (omega (arith, b)) told h)
      (lines_are_its (reverse (finished (l.acts n))) (told n) (h n (omega (arith, b))))

  records_of : (lines : List FlowLine) → All IsItsRecord lines → map (λ x. Some x) lines ≡ map (λ a. line_in w t a) (numbers lines)
  records_of [] a = refl
  records_of (x ∷ lines) a =
      cons_same (Some x) (line_in w t x.sums.first_no) _ _ (sym (All-head IsItsRecord x lines a)) (records_of lines (All-tail IsItsRecord x lines a))
    where
      cons_same : {A : Type 0} (x y : A) (xs ys : List A) → x ≡ y → xs ≡ ys → x ∷ xs ≡ y ∷ ys
      cons_same x y xs ys p q = cc

  -- each run is finished as often as it began
  told_count : (told : ℕ → List FlowLine) → HaveTold w t l.acts told → (a : ℕ) → count_in a (numbers (told_below (roles w) told)) ≡ made_in t a
  told_count told h a =
      count_told a (roles w) told
      ∙ (sum_same (roles w) (λ r. count_in a (numbers (told r))) (λ r. total (given_by a) (l.acts r))
      (λ r x. ap (count_in a) (numbers_are w t t d l no_more (reverse (finished (l.acts r))) (told r) (h r x)) ∙ (count_reverse a (finished (l.acts r)) ∙ count_finished a (l.acts r)))
      ∙ (sym (pool_sum w t l.acts l.legal.pool_roles l.legal.bucket_roles (λ r x. met w t r (l.acts r) (l.own r x)) (given_by a) (gives a) (λ n i. refl) (λ n. refl) (λ b n left. refl))
      ∙ given w t l a))

  runs_count : (a : ℕ) → count_in a (runs_in t) ≡ made_in t a
  runs_count a = count_rising a (concat (map (λ h. made h) t.buckets)) ∙ count_all_made a t.buckets

  all_records : (told : ℕ → List FlowLine) → HaveTold w t l.acts told → (lines : List FlowLine) → IsPermutation (told_below (roles w) told) lines
      → IsNonDecreasingBy (λ x. x.sums.first_no) lines → map (λ x. Some x) lines ≡ map (λ a. line_in w t a) (runs_in t)
  all_records told h lines p n =
      let e : roles w ≤ roles w = omega arith in
      records_of lines (All-permutation IsItsRecord (told_below (roles w) told) lines p (told_are_its (roles w) e told h))
      ∙ ap (λ (xs : List ℕ). map (λ a. line_in w t a) xs)
      (same_climbing (numbers lines) (runs_in t) (lines_climb lines n) (rising_climbs (concat (map (λ h. made h) t.buckets)))
      (λ a. count_moved a (told_below (roles w) told) lines p ∙ (told_count told h a ∙ sym (runs_count a))))

pub whole : (w : Setup) (t : Histories) → IsSetup w → (l : AreLawful w t) → (told : ℕ → List FlowLine) → HaveTold w t l.scripted.acts told → (lines : List FlowLine)
    → IsPermutation (told_below (roles w) told) lines → IsNonDecreasingBy (λ x. x.sums.first_no) lines → map (λ x. Some x) lines ≡ map (λ a. line_in w t a) (runs_in t)
whole w t d l told h lines p n = all_records w t d l.scripted told h lines p n
