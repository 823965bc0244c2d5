-- Truths and lists.
use Rattle.std.proofs.Common.{◌≡◌, ℕ, ◌==◌, Bool, true, false, ◌&&◌, List, [], ◌∷◌, ◌++◌, Some, refl, ap, ◌∙◌, subst, arith}
use Rattle.std.proofs.lemmas.Bool.Decides.{nat_tests}
use Rattle.lock_rows.specs.Rows.{Pairs}
use Rattle.run_rules.specs.Serving.{finished, finished_on, only}
use Rattle.run_rules.specs.Acts.{Act, on_pool, on_segments, on_bucket}
use Rattle.suri_base.specs.Keys.{same_truth}
use Rattle.suri_base.specs.declared.entry.PoolNote.{PoolNote}
use Rattle.suri_base.specs.declared.entry.PoolNote.TheVariants.{Took, Full, Put, Turn, Mode, Over}
use Rattle.suri_base.specs.declared.entry.BucketNote.{BucketNote}
use Rattle.suri_base.specs.declared.entry.BucketNote.TheVariants as note
use Rattle.flow_worker.specs.Standing.{refused_in, refused_on}

pub same_yes : (r : ℕ) → (r == r) ≡ true
same_yes r = grind (arith, nat_tests)

pub is_same : (m n : ℕ) → m ≡ n → (m == n) ≡ true
is_same m n e = subst (λ (x : ℕ). (m == x) ≡ true) e (same_yes m)

pub and_true : (p q : Bool) → p ≡ true → q ≡ true → (p && q) ≡ true
and_true true q h k = k
and_true false q h k = cc

pub truth_yes : (e : Bool) → same_truth e e ≡ true
truth_yes true = refl
truth_yes false = refl

pub only_true : {A : Type 0} (t : Bool) (x : A) → t ≡ true → only t x ≡ Some x
only_true true x h = refl
only_true false x h = cc

pub nil_end : {A : Type 0} (xs : List A) → xs ++ [] ≡ xs
nil_end [] = refl
nil_end (x ∷ xs) = ap (λ l. x ∷ l) (nil_end xs)

pub pairs_append : {A B : Type 0} (P : A → B → Type 0) (xs ys : List A) (us vs : List B) → Pairs P xs us → Pairs P ys vs → Pairs P (xs ++ ys) (us ++ vs)
pairs_append P [] ys [] vs h k = k
pairs_append P (x ∷ xs) ys (u ∷ us) vs h k = (h.0, pairs_append P xs ys us vs h.1 k)
pairs_append P [] ys (u ∷ us) vs h k = absurd h
pairs_append P (x ∷ xs) ys [] vs h k = absurd h

-- what acts finished and refused, of two lists of acts

finished_pool : (n : PoolNote) (i : ℕ) (xs ys : List ℕ) → finished_on (on_pool n i) (xs ++ ys) ≡ finished_on (on_pool n i) xs ++ ys
finished_pool (Took g) i xs ys = refl
finished_pool (Full g n limit) i xs ys = refl
finished_pool (Put run) i xs ys = refl
finished_pool (Turn run g) i xs ys = refl
finished_pool (Mode e) i xs ys = refl
finished_pool (Over round over) i xs ys = refl

finished_more : (a : Act) (xs ys : List ℕ) → finished_on a (xs ++ ys) ≡ finished_on a xs ++ ys
finished_more (on_pool n i) xs ys = finished_pool n i xs ys
finished_more (on_segments n) xs ys = refl
finished_more (on_bucket b n left) xs ys = refl

pub finished_append : (xs ys : List Act) → finished (xs ++ ys) ≡ finished xs ++ finished ys
finished_append [] ys = refl
finished_append (a ∷ xs) ys = ap (finished_on a) (finished_append xs ys) ∙ finished_more a (finished xs) (finished ys)

refused_bucket : (b : ℕ) (n : BucketNote) (left : _) (xs ys : List ℕ) → refused_on (on_bucket b n left) (xs ++ ys) ≡ refused_on (on_bucket b n left) xs ++ ys
refused_bucket b (note.Found f e s r o) left xs ys = refl
refused_bucket b (note.Missing f e s r) left xs ys = refl
refused_bucket b (note.Made f o) left xs ys = refl
refused_bucket b (note.Refused f) left xs ys = refl
refused_bucket b (note.Stored f) left xs ys = refl
refused_bucket b (note.Stopped f) left xs ys = refl
refused_bucket b (note.Closed f a r n e) left xs ys = refl
refused_bucket b (note.Idle f a) left xs ys = refl
refused_bucket b (note.Victim f r) left xs ys = refl
refused_bucket b (note.AllInUse f n) left xs ys = refl
refused_bucket b (note.Swept r e s n) left xs ys = refl
refused_bucket b (note.Drained n) left xs ys = refl

refused_more : (a : Act) (xs ys : List ℕ) → refused_on a (xs ++ ys) ≡ refused_on a xs ++ ys
refused_more (on_pool n i) xs ys = refl
refused_more (on_segments n) xs ys = refl
refused_more (on_bucket b n left) xs ys = refused_bucket b n left xs ys

pub refused_append : (xs ys : List Act) → refused_in (xs ++ ys) ≡ refused_in xs ++ refused_in ys
refused_append [] ys = refl
refused_append (a ∷ xs) ys = ap (refused_on a) (refused_append xs ys) ∙ refused_more a (refused_in xs) (refused_in ys)
