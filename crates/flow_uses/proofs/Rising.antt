-- Numbers of frames as they rise: what a search of them finds, and what an edit of them does.
use Rattle.std.proofs.Common.{◌≡◌, ℕ, zero, suc, ◌==◌, ◌<◌, ◌≤◌, ◌^◌, Bool, true, false, not, cond, ◌&&◌, ◌||◌, List, [], ◌∷◌, length, get_or, insert, remove, if◌then◌else◌, refl, sym, ap, subst, ◌∙◌, arith, eqb-true}
use Rattle.std.proofs.lemmas.Bool.Decides.{nat_tests}
use Rattle.std.specs.Result.{IfOk, IfErr, is_ok, MatchResult}
use Rattle.std.specs.declared.result.Result.{Result}
use Rattle.std.specs.declared.result.Result.TheVariants.{Ok, Err}
use Rattle.flow_uses.specs.Uses.{has, AreFrames, AreRising, IsAt, IsBelow, IsGap, IsNumberSet}
use Rattle.flow_uses.proofs.Sets.{few_below, has-without, length-without_absent, without}

-- the first of two that aren't the same isn't the second
unlike : (x y : ℕ) → x < y → (x == y) ≡ false
unlike x y l = grind (arith, nat_tests)

unlike_back : (x y : ℕ) → x < y → (y == x) ≡ false
unlike_back x y l = grind (arith, nat_tests)

-- neither is true
both : (p q : Bool) → p ≡ false → q ≡ false → (p || q) ≡ false
both true q h k = h
both false q h k = k

-- a number below all of them isn't among them
absent_below : (x : ℕ) (ys : List ℕ) → IsBelow x ys → has ys x ≡ false
absent_below x [] b = refl
absent_below x (y ∷ ys) b = both (y == x) (has ys x) (unlike_back x y b.0) (absent_below x ys b.1)

pub set_of_rising : (xs : List ℕ) → AreRising xs → IsNumberSet xs
set_of_rising [] r = tt
set_of_rising (x ∷ xs) r = (absent_below x xs r.0, set_of_rising xs r.1)

below_at : (x : ℕ) (ys : List ℕ) (j : ℕ) → IsBelow x ys → j < length ys → x < get_or ys j 0
below_at x [] j b l = absurd (omega (arith, l))
below_at x (y ∷ ys) zero b l = b.0
below_at x (y ∷ ys) (suc j) b l = below_at x ys j b.1 (omega (arith, l))

-- what stands before is no greater
pub rises : (xs : List ℕ) → AreRising xs → (i j : ℕ) → i ≤ j → j < length xs → get_or xs i 0 ≤ get_or xs j 0
rises [] r i j le l = absurd (omega (arith, l))
rises (x ∷ xs) r zero zero le l = omega arith
rises (x ∷ xs) r zero (suc j) le l = let k = below_at x xs j r.0 (omega (arith, l)) in omega (arith, k)
rises (x ∷ xs) r (suc i) zero le l = absurd (omega (arith, le))
rises (x ∷ xs) r (suc i) (suc j) le l = rises xs r.1 i j (omega (arith, le)) (omega (arith, l))

-- what a search says, in the words of the contract
pub found_by : (xs : List ℕ) (f : ℕ) (r : Result ℕ ℕ)
    → MatchResult r (λ i. (i < length xs) × (get_or xs i 0 ≡ f)) (λ i. (i ≤ length xs) × ((k : ℕ) → k < i → get_or xs k 0 < f) × ((k : ℕ) → i ≤ k → k < length xs → f < get_or xs k 0))
    → record { found : IfOk r (IsAt xs f); absent : IfErr r (IsGap xs f) }
found_by xs f (Ok i) h = record { found = record { within = h.0; same = h.1 }; absent = tt }
found_by xs f (Err i) h = record { found = tt; absent = record { within = h.0; before = h.1; after = h.2 } }

tail_gap : (x : ℕ) (xs : List ℕ) (f i : ℕ) → IsGap (x ∷ xs) f (suc i) → IsGap xs f i
tail_gap x xs f i g = record {
  within = omega (arith, g.within);
  before = λ j l. g.before (suc j) (omega (arith, l));
  after = λ j l m. g.after (suc j) (omega (arith, l)) (omega (arith, m));
}

zero_gap : (x : ℕ) (xs : List ℕ) (f : ℕ) → IsGap (x ∷ xs) f 0 → IsGap xs f 0
zero_gap x xs f g = record {
  within = omega arith;
  before = λ j l. absurd (omega (arith, l));
  after = λ j l m. g.after (suc j) (omega arith) (omega (arith, m));
}

-- a number that has a gap isn't among them
pub absent_in_gap : (xs : List ℕ) (f i : ℕ) → IsGap xs f i → has xs f ≡ false
absent_in_gap [] f i g = refl
absent_in_gap (x ∷ xs) f zero g = both (x == f) (has xs f) (unlike_back f x (g.after 0 (omega arith) (omega arith))) (absent_in_gap xs f 0 (zero_gap x xs f g))
absent_in_gap (x ∷ xs) f (suc i) g = both (x == f) (has xs f) (unlike x f (g.before 0 (omega arith))) (absent_in_gap xs f i (tail_gap x xs f i g))

-- one that stands at a place is
pub there_at : (xs : List ℕ) (f i : ℕ) → IsAt xs f i → has xs f ≡ true
there_at [] f i a = absurd (omega (arith, a.within))
there_at (x ∷ xs) f zero a = first x f (has xs f) a.same
  where
    first : (x f : ℕ) (b : Bool) → x ≡ f → ((x == f) || b) ≡ true
    first x f b e = grind (arith, nat_tests)
there_at (x ∷ xs) f (suc i) a = later (x == f) (has xs f) (there_at xs f i (record { within = omega (arith, a.within); same = a.same }))
  where
    later : (p q : Bool) → q ≡ true → (p || q) ≡ true
    later true q h = refl
    later false q h = h

-- so a search tells whether a number is among them
pub told_by : (xs : List ℕ) (f : ℕ) (r : Result ℕ ℕ) → record { found : IfOk r (IsAt xs f); absent : IfErr r (IsGap xs f) } → is_ok r ≡ has xs f
told_by xs f (Ok i) h = sym (there_at xs f i h.found)
told_by xs f (Err i) h = sym (absent_in_gap xs f i h.absent)

-- an insertion that succeeds
pub put_in : (us vs ws : List ℕ) (done : Bool) → ws ≡ (if done then us else vs) → done ≡ true → ws ≡ us
put_in us vs ws true h k = h
put_in us vs ws false h k = cc

below_gap : (f : ℕ) (xs : List ℕ) → IsGap xs f 0 → IsBelow f xs
below_gap f [] g = tt
below_gap f (x ∷ xs) g = (g.after 0 (omega arith) (omega arith), below_gap f xs (zero_gap x xs f g))

below_insert : (x f : ℕ) (xs : List ℕ) (i : ℕ) → x < f → IsBelow x xs → IsBelow x (insert xs i f)
below_insert x f xs zero l b = (l, b)
below_insert x f [] (suc i) l b = (l, tt)
below_insert x f (y ∷ ys) (suc i) l b = (b.0, below_insert x f ys i l b.1)

-- a number in the gap keeps the order
pub rising_insert : (xs : List ℕ) (f i : ℕ) → IsGap xs f i → AreRising xs → AreRising (insert xs i f)
rising_insert xs f zero g r = (below_gap f xs g, r)
rising_insert [] f (suc i) g r = absurd (omega (arith, g.within))
rising_insert (x ∷ xs) f (suc i) g r = (below_insert x f xs i (g.before 0 (omega arith)) r.0, rising_insert xs f i (tail_gap x xs f i g) r.1)

-- a number put at a place is there, with those that were
pub has_insert : (xs : List ℕ) (f i u : ℕ) → has (insert xs i f) u ≡ ((f == u) || has xs u)
has_insert xs f zero u = refl
has_insert [] f (suc i) u = refl
has_insert (x ∷ xs) f (suc i) u = ap (λ b. (x == u) || b) (has_insert xs f i u) ∙ swap (x == u) (f == u) (has xs u)
  where
    swap : (p q r : Bool) → (p || (q || r)) ≡ (q || (p || r))
    swap true true r = refl
    swap true false r = refl
    swap false q r = refl

-- without what stands at a place, no other number is gone
pub remove_is : (xs : List ℕ) (f i : ℕ) → AreRising xs → IsAt xs f i → remove xs i ≡ without f xs
remove_is [] f i r a = absurd (omega (arith, a.within))
remove_is (x ∷ xs) f zero r a = rw (same x f a.same) (sym (length-without_absent f xs (subst (λ v. has xs v ≡ false) a.same (absent_below x xs r.0))))
  where
    same : (x f : ℕ) → x ≡ f → (x == f) ≡ true
    same x f e = grind (arith, nat_tests)
remove_is (x ∷ xs) f (suc i) r a =
    let l : x < f = subst (λ v. x < v) a.same (below_at x xs i r.0 (omega (arith, a.within))) in
    rw (unlike x f l) (ap (λ l. x ∷ l) (remove_is xs f i r.1 (record { within = omega (arith, a.within); same = a.same })))

below_without : (x f : ℕ) (ys : List ℕ) → IsBelow x ys → IsBelow x (without f ys)
below_without x f [] b = tt
below_without x f (y ∷ ys) b = step (y == f) (below_without x f ys b.1)
  where
    step : (t : Bool) → IsBelow x (without f ys) → IsBelow x (cond (not t) (y ∷ without f ys) (without f ys))
    step true k = k
    step false k = (b.0, k)

rising_without : (f : ℕ) (xs : List ℕ) → AreRising xs → AreRising (without f xs)
rising_without f [] r = tt
rising_without f (x ∷ xs) r = step (x == f) (rising_without f xs r.1)
  where
    step : (t : Bool) → AreRising (without f xs) → AreRising (cond (not t) (x ∷ without f xs) (without f xs))
    step true k = k
    step false k = (below_without x f xs r.0, k)

-- frames with one less
pub frames_without : (us : List ℕ) (f : ℕ) → AreFrames us → AreFrames (without f us)
frames_without us f a = record {
  rising = rising_without f us a.rising;
  positive = has-without f 0 us ∙ ap (λ v. v && not (0 == f)) a.positive;
  small = λ u m. a.small u (by (has us u) (u == f) (sym (has-without f u us) ∙ m));
}
  where
    by : (p q : Bool) → (p && not q) ≡ true → p ≡ true
    by true q h = refl
    by false q h = h

pub few_frames : (us : List ℕ) → AreFrames us → length us < 2 ^ 32
few_frames us a = few_below (2 ^ 32) (0 ∷ us) (a.positive, set_of_rising us a.rising) (λ u h. by u (0 == u) refl h)
  where
    by : (u : ℕ) (b : Bool) → (0 == u) ≡ b → (b || has us u) ≡ true → u < 2 ^ 32
    by u true e h = subst (λ (v : ℕ). v < 2 ^ 32) (eqb-true 0 u e) (omega arith)
    by u false e h = a.small u h
