-- How often numbers stand in lists, and how many objects are out.
use Rattle.std.proofs.Common.{◌≡◌, ℕ, suc, ◌==◌, ◌+◌, ◌≤◌, Bool, true, false, cond, if◌then◌else◌, List, [], ◌∷◌, length, refl, sym, ap, arith}
use Rattle.std.proofs.lemmas.Bool.Decides.{nat_tests}
use Rattle.bucket_laws.specs.Counts.{one_if}
use Rattle.flow_pool.specs.Counting.{flows_out, flows_out_after}
use Rattle.run_laws.proofs.Sums.{same_number}
use Rattle.run_laws.specs.Counts.{gets, gives, is, tally}
use Rattle.run_rules.specs.Lawful.{IsDue, PutsAreDue}
use Rattle.suri_base.specs.declared.entry.Entry.{Entry}
use Rattle.suri_base.specs.declared.entry.PoolNote.{PoolNote}
use Rattle.suri_base.specs.declared.entry.PoolNote.TheVariants.{Full, Mode, Over, Put, Took, Turn}

-- how often a number stands in a list
abbrev pub count_in : ℕ → List ℕ → ℕ
count_in a [] = 0
count_in a (x ∷ xs) = is x a + count_in a xs

pub same_yes : (r : ℕ) → (r == r) ≡ true
same_yes r = grind (arith, nat_tests)

pub is_own : (r : ℕ) → is r r ≡ 1
is_own r = ap one_if (same_yes r)

abbrev pub drop_one : ℕ → List ℕ → List ℕ
drop_one a [] = []
drop_one a (x ∷ xs) = if x == a then xs else x ∷ drop_one a xs

pub drop_length : (a : ℕ) (xs : List ℕ) → 1 ≤ count_in a xs → length xs ≡ suc (length (drop_one a xs))
drop_length a [] h = absurd (omega arith)
drop_length a (x ∷ xs) h = by_test (x == a) (λ k. drop_length a xs k) h
  where
    by_test : (t : Bool) → (1 ≤ count_in a xs → length xs ≡ suc (length (drop_one a xs))) → 1 ≤ cond t 1 0 + count_in a xs → suc (length xs) ≡ suc (length (cond t xs (x ∷ drop_one a xs)))
    by_test true k l = refl
    by_test false k l = ap suc (k (omega (arith, l)))

pub drop_count : (a c : ℕ) (xs : List ℕ) → 1 ≤ count_in a xs → is a c + count_in c (drop_one a xs) ≡ count_in c xs
drop_count a c [] h = absurd (omega arith)
drop_count a c (x ∷ xs) h = by_test (x == a) refl (λ k. drop_count a c xs k) h
  where
    by_test : (t : Bool) → (x == a) ≡ t → (1 ≤ count_in a xs → is a c + count_in c (drop_one a xs) ≡ count_in c xs) → 1 ≤ cond t 1 0 + count_in a xs
        → is a c + count_in c (cond t xs (x ∷ drop_one a xs)) ≡ is x c + count_in c xs
    by_test true e k l = ap (λ (y : ℕ). is y c + count_in c xs) (sym (same_number x a e))
    by_test false e k l = let z = k (omega (arith, l)) in omega (arith, z)

-- lists that have each number as often have one length
pub same_length : (xs ys : List ℕ) → ((a : ℕ) → count_in a xs ≡ count_in a ys) → length xs ≡ length ys
same_length [] [] h = refl
same_length [] (y ∷ ys) h = absurd (let z : is y y ≡ 1 = is_own y in omega (arith, h y, z))
same_length (x ∷ xs) ys h =
    let z : is x x ≡ 1 = is_own x in
    let k : 1 ≤ count_in x ys = omega (arith, h x, z) in
    omega (arith, drop_length x ys k, same_length xs (drop_one x ys) (λ c. omega (arith, h c, drop_count x c ys k)))

-- the runs that get an object, and those that give one back
abbrev pub got_on : PoolNote → List ℕ → List ℕ
got_on (Took f) xs = f ∷ xs
got_on (Turn run f) xs = f ∷ xs
got_on _ xs = xs

abbrev pub given_on : PoolNote → List ℕ → List ℕ
given_on (Put run) xs = run ∷ xs
given_on (Turn run f) xs = run ∷ xs
given_on _ xs = xs

abbrev pub got_names : List (Entry PoolNote) → List ℕ
got_names [] = []
got_names (e ∷ h) = got_on e.note (got_names h)

abbrev pub given_names : List (Entry PoolNote) → List ℕ
given_names [] = []
given_names (e ∷ h) = given_on e.note (given_names h)

pub got_count : (a : ℕ) (h : List (Entry PoolNote)) → count_in a (got_names h) ≡ tally (gets a) h
got_count a [] = refl
got_count a (e ∷ h) = by_note e.note (got_count a h)
  where
    by_note : (n : PoolNote) → count_in a (got_names h) ≡ tally (gets a) h → count_in a (got_on n (got_names h)) ≡ gets a n + tally (gets a) h
    by_note (Took g) k = omega (arith, k)
    by_note (Full g n limit) k = omega (arith, k)
    by_note (Put run) k = omega (arith, k)
    by_note (Turn run g) k = omega (arith, k)
    by_note (Mode e) k = omega (arith, k)
    by_note (Over round done) k = omega (arith, k)

pub given_count : (a : ℕ) (h : List (Entry PoolNote)) → count_in a (given_names h) ≡ tally (gives a) h
given_count a [] = refl
given_count a (e ∷ h) = by_note e.note (given_count a h)
  where
    by_note : (n : PoolNote) → count_in a (given_names h) ≡ tally (gives a) h → count_in a (given_on n (given_names h)) ≡ gives a n + tally (gives a) h
    by_note (Took g) k = omega (arith, k)
    by_note (Full g n limit) k = omega (arith, k)
    by_note (Put run) k = omega (arith, k)
    by_note (Turn run g) k = omega (arith, k)
    by_note (Mode e) k = omega (arith, k)
    by_note (Over round done) k = omega (arith, k)

-- where each object is put only while one is out, as many are out as were got and not given back
pub out_count : (h : List (Entry PoolNote)) → PutsAreDue h → flows_out h + length (given_names h) ≡ length (got_names h)
out_count [] k = refl
out_count (e ∷ h) k = by_note e.note k.0 (out_count h k.1)
  where
    by_note : (n : PoolNote) → IsDue (flows_out h) n → flows_out h + length (given_names h) ≡ length (got_names h)
        → flows_out_after (flows_out h) n + length (given_on n (given_names h)) ≡ length (got_on n (got_names h))
    by_note (Took g) r k = omega (arith, k)
    by_note (Full g n limit) r k = omega (arith, k)
    by_note (Put run) r k = omega (arith, k, r)
    by_note (Turn run g) r k = omega (arith, k)
    by_note (Mode e) r k = omega (arith, k)
    by_note (Over round done) r k = omega (arith, k)
