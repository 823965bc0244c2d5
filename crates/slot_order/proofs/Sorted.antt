-- What a search of sorted pairs finds, and what an edit of them does.
use Rattle.std.proofs.Common.{◌≡◌, ℕ, zero, suc, ◌<◌, ◌≤◌, Bool, true, false, cond, List, [], ◌∷◌, length, get_or, Some, None, refl, sym, ap, subst, ◌∙◌, arith, insert, remove}
use Rattle.std.specs.Ordering.{is_eq, is_gt, ordering_reverse, ordering_index}
use Rattle.std.specs.declared.cmp.Ordering.{Ordering}
use Rattle.std.specs.declared.cmp.Ordering.TheVariants.{Less, Equal, Greater}
use Rattle.std.specs.List.Sorted.{IsSearchInRange, IsBinarySearchResult, IsNonDecreasingBy}
use Rattle.std.specs.Result.{IfOk, IfErr}
use Rattle.std.specs.declared.result.Result.{Result}
use Rattle.std.specs.declared.result.Result.TheVariants.{Ok, Err}
use Rattle.std.specs.Cmp.{IsTotalOrder}
use Rattle.slot_order.specs.Order.{slot_of, IsBelow, AreSorted, IsAt, IsGap, IsFirst}

module _ {K : Type 0} {cmp : K → K → Ordering} (t : IsTotalOrder cmp) where
  pub less_back : (a b : K) → cmp a b ≡ Greater → cmp b a ≡ Less
  less_back a b h = t.antisymm b a ∙ ap ordering_reverse h

  pub more_back : (a b : K) → cmp a b ≡ Less → cmp b a ≡ Greater
  more_back a b h = t.antisymm b a ∙ ap ordering_reverse h

  same_back : (a b : K) → cmp a b ≡ Equal → cmp b a ≡ Equal
  same_back a b h = t.antisymm b a ∙ ap ordering_reverse h

  equal_is : (o : Ordering) → is_eq o ≡ true → o ≡ Equal
  equal_is Equal h = refl
  equal_is Less h = cc
  equal_is Greater h = cc

  -- two keys that a third parts aren't one
  apart : (a k q : K) → cmp a k ≡ Less → is_eq (cmp a q) ≡ true → is_eq (cmp k q) ≡ false
  apart a k q l e =
      let ea : cmp a q ≡ Equal = equal_is (cmp a q) e in
      let qk : cmp q k ≡ Less = sym (t.congr a q k ea) ∙ l in
      ap is_eq (more_back q k qk)

  pub tail_gap : (e : K × ℕ) (es : List (K × ℕ)) (k : K) (i : ℕ) → IsGap cmp (e ∷ es) k (suc i) → IsGap cmp es k i
  tail_gap e es k i g = record {
    within = omega (arith, g.within);
    before = λ j d l. g.before (suc j) d (omega (arith, l));
    after = λ j d l m. g.after (suc j) d (omega (arith, l)) (omega (arith, m));
  }

  zero_gap : (e : K × ℕ) (es : List (K × ℕ)) (k : K) → IsGap cmp (e ∷ es) k 0 → IsGap cmp es k 0
  zero_gap e es k g = record {
    within = omega arith;
    before = λ j d l. absurd (omega (arith, l));
    after = λ j d l m. g.after (suc j) d (omega arith) (omega (arith, m));
  }

  -- a key that has a gap has no slot
  pub slot_in_gap : (es : List (K × ℕ)) (k : K) (i : ℕ) → IsGap cmp es k i → slot_of cmp es k ≡ None
  slot_in_gap [] k i g = refl
  slot_in_gap (e ∷ es) k zero g = rw (g.after 0 e (omega arith) (omega arith)) (slot_in_gap es k 0 (zero_gap e es k g))
  slot_in_gap (e ∷ es) k (suc i) g = rw (g.before 0 e (omega arith)) (slot_in_gap es k i (tail_gap e es k i g))

  below_all : (es : List (K × ℕ)) (k : K) → IsGap cmp es k 0 → IsBelow cmp k es
  below_all [] k g = tt
  below_all (e ∷ es) k g = (less_back e.0 k (g.after 0 e (omega arith) (omega arith)), below_all es k (zero_gap e es k g))

  below_insert : (a k : K) (s : ℕ) (es : List (K × ℕ)) (i : ℕ) → cmp a k ≡ Less → IsBelow cmp a es → i ≤ length es → IsBelow cmp a (insert es i (k, s))
  below_insert a k s es zero l b w = (l, b)
  below_insert a k s [] (suc i) l b w = absurd (omega (arith, w))
  below_insert a k s (e ∷ es) (suc i) l b w = (b.0, below_insert a k s es i l b.1 (omega (arith, w)))

  -- a pair in the gap keeps the order
  pub sorted_insert : (es : List (K × ℕ)) (k : K) (s i : ℕ) → IsGap cmp es k i → AreSorted cmp es → AreSorted cmp (insert es i (k, s))
  sorted_insert es k s zero g o = (below_all es k g, o)
  sorted_insert [] k s (suc i) g o = absurd (omega (arith, g.within))
  sorted_insert (e ∷ es) k s (suc i) g o = (below_insert e.0 k s es i (g.before 0 e (omega arith)) o.0 (omega (arith, g.within)), sorted_insert es k s i (tail_gap e es k i g) o.1)

  -- and gives its key a slot, and changes no other key
  pub slot_insert : (es : List (K × ℕ)) (k : K) (s i : ℕ) → IsGap cmp es k i → (q : K) → slot_of cmp (insert es i (k, s)) q ≡ cond (is_eq (cmp k q)) (Some s) (slot_of cmp es q)
  slot_insert es k s zero g q = refl
  slot_insert [] k s (suc i) g q = absurd (omega (arith, g.within))
  slot_insert (e ∷ es) k s (suc i) g q = step (is_eq (cmp e.0 q)) (is_eq (cmp k q)) (λ h. apart e.0 k q (g.before 0 e (omega arith)) h) (slot_insert es k s i (tail_gap e es k i g) q)
    where
      step : (b c : Bool) → (b ≡ true → c ≡ false) → slot_of cmp (insert es i (k, s)) q ≡ cond c (Some s) (slot_of cmp es q)
          → cond b (Some e.1) (slot_of cmp (insert es i (k, s)) q) ≡ cond c (Some s) (cond b (Some e.1) (slot_of cmp es q))
      step true true d h = let m = d refl in cc
      step true false d h = refl
      step false c d h = h

  tail_at : (e : K × ℕ) (es : List (K × ℕ)) (k : K) (i : ℕ) → IsAt cmp (e ∷ es) k (suc i) → IsAt cmp es k i
  tail_at e es k i a = record { within = omega (arith, a.within); same = a.same }

  pub below_at : (a : K) (es : List (K × ℕ)) (i : ℕ) (d : K × ℕ) → IsBelow cmp a es → i < length es → cmp a (get_or es i d).0 ≡ Less
  below_at a [] i d b w = absurd (omega (arith, w))
  below_at a (e ∷ es) zero d b w = b.0
  below_at a (e ∷ es) (suc i) d b w = below_at a es i d b.1 (omega (arith, w))

  -- what stands below a pair of the key stands below the key
  below_key : (a : K) (es : List (K × ℕ)) (k : K) (i : ℕ) (d : K × ℕ) → IsBelow cmp a es → IsAt cmp es k i → cmp a k ≡ Less
  below_key a es k i d b at =
      let l : cmp a (get_or es i d).0 ≡ Less = below_at a es i d b at.within in
      let g : cmp (get_or es i d).0 a ≡ Greater = more_back a (get_or es i d).0 l in
      less_back k a (sym (t.congr (get_or es i d).0 k a (at.same d)) ∙ g)

  -- the slot of the key is that of the pair
  pub slot_at : (es : List (K × ℕ)) (k : K) (i : ℕ) (d : K × ℕ) → AreSorted cmp es → IsAt cmp es k i → slot_of cmp es k ≡ Some (get_or es i d).1
  slot_at [] k i d o a = absurd (omega (arith, a.within))
  slot_at (e ∷ es) k zero d o a = rw (a.same d) refl
  slot_at (e ∷ es) k (suc i) d o a = rw (below_key e.0 es k i d o.0 (tail_at e es k i a)) (slot_at es k i d o.1 (tail_at e es k i a))

  -- a key below all pairs has no slot, and neither has a key that is the same
  none_below : (a q : K) (es : List (K × ℕ)) → IsBelow cmp a es → cmp a q ≡ Equal → slot_of cmp es q ≡ None
  none_below a q [] b h = refl
  none_below a q (e ∷ es) b h = rw (more_back q e.0 (sym (t.congr a q e.0 h) ∙ b.0)) (none_below a q es b.1 h)

  below_remove : (a : K) (es : List (K × ℕ)) (i : ℕ) → IsBelow cmp a es → IsBelow cmp a (remove es i)
  below_remove a [] zero b = tt
  below_remove a [] (suc i) b = tt
  below_remove a (e ∷ es) zero b = b.1
  below_remove a (e ∷ es) (suc i) b = (b.0, below_remove a es i b.1)

  pub sorted_remove : (es : List (K × ℕ)) (i : ℕ) → AreSorted cmp es → AreSorted cmp (remove es i)
  sorted_remove [] zero o = tt
  sorted_remove [] (suc i) o = tt
  sorted_remove (e ∷ es) zero o = o.1
  sorted_remove (e ∷ es) (suc i) o = (below_remove e.0 es i o.0, sorted_remove es i o.1)

  -- without the pair its key has no slot, and no other key changes
  pub slot_remove : (es : List (K × ℕ)) (k : K) (i : ℕ) → AreSorted cmp es → IsAt cmp es k i → (q : K) → slot_of cmp (remove es i) q ≡ cond (is_eq (cmp k q)) None (slot_of cmp es q)
  slot_remove [] k i o a q = absurd (omega (arith, a.within))
  slot_remove (e ∷ es) k zero o a q = step (is_eq (cmp k q)) (is_eq (cmp e.0 q)) (ap is_eq (t.congr e.0 k q (a.same e))) (λ h. none_below e.0 q es o.0 (equal_is (cmp e.0 q) h))
    where
      step : (b c : Bool) → c ≡ b → (c ≡ true → slot_of cmp es q ≡ None) → slot_of cmp es q ≡ cond b None (cond c (Some e.1) (slot_of cmp es q))
      step true true h n = n refl
      step true false h n = cc
      step false true h n = cc
      step false false h n = refl
  slot_remove (e ∷ es) k (suc i) o a q = step (is_eq (cmp e.0 q)) (is_eq (cmp k q)) (λ h. apart e.0 k q (below_key e.0 es k i e o.0 (tail_at e es k i a)) h) (slot_remove es k i o.1 (tail_at e es k i a) q)
    where
      step : (b c : Bool) → (b ≡ true → c ≡ false) → slot_of cmp (remove es i) q ≡ cond c None (slot_of cmp es q)
          → cond b (Some e.1) (slot_of cmp (remove es i) q) ≡ cond c None (cond b (Some e.1) (slot_of cmp es q))
      step true true d h = let m = d refl in cc
      step true false d h = refl
      step false c d h = h

  -- the first pair is that of the least key that has a slot
  pub first_least : (e : K × ℕ) (es : List (K × ℕ)) → AreSorted cmp (e ∷ es) → (q : K) (s : ℕ) → slot_of cmp (e ∷ es) q ≡ Some s → is_gt (cmp e.0 q) ≡ false
  first_least e es o q s h = by (cmp e.0 q) refl h
    where
      none_less : (a : K) (es : List (K × ℕ)) → IsBelow cmp a es → cmp a q ≡ Greater → slot_of cmp es q ≡ None
      none_less a [] b g = refl
      none_less a (e ∷ es) b g = rw (more_back q e.0 (t.trans q a e.0 (less_back a q g) b.0)) (none_less a es b.1 g)

      by : (r : Ordering) → cmp e.0 q ≡ r → cond (is_eq r) (Some e.1) (slot_of cmp es q) ≡ Some s → is_gt r ≡ false
      by Less c h = refl
      by Equal c h = refl
      by Greater c h = let n = none_less e.0 es o.0 c in cc

  pub first_slot : (e : K × ℕ) (es : List (K × ℕ)) → slot_of cmp (e ∷ es) e.0 ≡ Some e.1
  first_slot e es = rw (self (cmp e.0 e.0) refl) refl
    where
      self : (r : Ordering) → cmp e.0 e.0 ≡ r → cmp e.0 e.0 ≡ Equal
      self Less c = let m = more_back e.0 e.0 c in cc
      self Equal c = c
      self Greater c = let m = less_back e.0 e.0 c in cc

  pub first_pair : (e : K × ℕ) (es : List (K × ℕ)) → AreSorted cmp (e ∷ es) → IsFirst cmp (e ∷ es) e
  first_pair e es o = record { there = first_slot e es; least = first_least e es o }

  -- the comparisons with a key rise along the pairs, as a binary search asks
  pub rises : (es : List (K × ℕ)) (k : K) → AreSorted cmp es → IsNonDecreasingBy (λ e. ordering_index (cmp e.0 k)) es
  rises [] k o i j d a b = absurd (omega (arith, b))
  rises (e ∷ es) k o zero zero d a b = omega arith
  rises (e ∷ es) k o (suc i) zero d a b = absurd (omega (arith, a))
  rises (e ∷ es) k o zero (suc j) d a b = up (cmp e.0 k) refl
    where
      y : K
      y = (get_or es j d).0

      lower : cmp e.0 y ≡ Less
      lower = below_at e.0 es j d o.0 (omega (arith, b))

      up : (r : Ordering) → cmp e.0 k ≡ r → ordering_index r ≤ ordering_index (cmp y k)
      up Less c = omega arith
      up Equal c = let m : cmp y k ≡ Greater = more_back k y (sym (t.congr e.0 k y c) ∙ lower) in rw m (omega arith)
      up Greater c = let m : cmp y k ≡ Greater = more_back k y (t.trans k e.0 y (less_back e.0 k c) lower) in rw m (omega arith)
  rises (e ∷ es) k o (suc i) (suc j) d a b = rises es k o.1 i j d (omega (arith, a)) (omega (arith, b))

  -- so a binary search ends at the key, or at the gap for it
  pub searched : (es : List (K × ℕ)) (k : K) (r : Result ℕ ℕ) → AreSorted cmp es → IsSearchInRange r (length es) → IsBinarySearchResult (λ e. cmp e.0 k) es r
      → record { found : IfOk r (IsAt cmp es k); absent : IfErr r (IsGap cmp es k) }
  searched es k (Ok i) o w h = record { found = record { within = w; same = h }; absent = tt }
  searched es k (Err i) o w h = let p = h (rises es k o) in record { found = tt; absent = record { within = w; before = λ j d l. p.0 j d (omega arith) l; after = p.1 } }

  pub right_same : (e k q : K) → cmp k q ≡ Equal → cmp e k ≡ cmp e q
  right_same e k q h = t.antisymm e k ∙ ap ordering_reverse (t.congr k q e h) ∙ sym (t.antisymm e q)

  pub slot_same : (es : List (K × ℕ)) (k q : K) → cmp k q ≡ Equal → slot_of cmp es k ≡ slot_of cmp es q
  slot_same [] k q h = refl
  slot_same (e ∷ es) k q h = rw (right_same e.0 k q h, slot_same es k q h) refl

  -- taking away what isn't there changes nothing
  pub slot_absent : (es : List (K × ℕ)) (k : K) → slot_of cmp es k ≡ None → (q : K) → slot_of cmp es q ≡ cond (is_eq (cmp k q)) None (slot_of cmp es q)
  slot_absent es k n q = step (is_eq (cmp k q)) (λ h. sym (slot_same es k q (equal_is (cmp k q) h)) ∙ n)
    where
      step : (b : Bool) → (b ≡ true → slot_of cmp es q ≡ None) → slot_of cmp es q ≡ cond b None (slot_of cmp es q)
      step true h = h refl
      step false h = refl

  -- where the key that comes is the one that leaves, nothing changes
  pub same_slots : (es : List (K × ℕ)) (k l : K) (s : ℕ) → is_eq (cmp k l) ≡ true → slot_of cmp es k ≡ Some s → (q : K) → slot_of cmp es q ≡ cond (is_eq (cmp l q)) (Some s) (cond (is_eq (cmp k q)) None (slot_of cmp es q))
  same_slots es k l s e h q = by (is_eq (cmp l q)) (is_eq (cmp k q)) (ap is_eq (t.congr k l q (equal_is (cmp k l) e))) (λ m. sym (slot_same es k q (equal_is (cmp k q) m)) ∙ h)
    where
      by : (b c : Bool) → c ≡ b → (c ≡ true → slot_of cmp es q ≡ Some s) → slot_of cmp es q ≡ cond b (Some s) (cond c None (slot_of cmp es q))
      by true true e f = f refl
      by true false e f = cc
      by false true e f = cc
      by false false e f = refl

  -- a list with an element begins with its first
  pub first_of : (es : List (K × ℕ)) (e : K × ℕ) → AreSorted cmp es → 0 < length es → e ≡ get_or es 0 e → IsFirst cmp es e
  first_of [] e o l h = absurd (omega (arith, l))
  first_of (x ∷ xs) e o l h = subst (λ (v : K × ℕ). IsFirst cmp (x ∷ xs) v) (sym h) (first_pair x xs o)

  -- from what indexing reads
  pub slot_read : (es : List (K × ℕ)) (k : K) (i : ℕ) (e : K × ℕ) → AreSorted cmp es → IsAt cmp es k i → e ≡ get_or es i e → Some e.1 ≡ slot_of cmp es k
  slot_read es k i e o a r = ap (λ (v : K × ℕ). Some v.1) r ∙ sym (slot_at es k i e o a)

  -- a number that keys tell in their order does not fall along the pairs, so a walk may end at the first that reaches a bound
  module _ (n : K → ℕ) (tells : (x y : K) → cmp x y ≡ Less → n x ≤ n y) where
    pub rises_by : (es : List (K × ℕ)) → AreSorted cmp es → IsNonDecreasingBy (λ e. n e.0) es
    rises_by [] o i j d a b = absurd (omega (arith, b))
    rises_by (e ∷ es) o zero zero d a b = omega arith
    rises_by (e ∷ es) o (suc i) zero d a b = absurd (omega (arith, a))
    rises_by (e ∷ es) o zero (suc j) d a b = tells e.0 (get_or es j d).0 (below_at e.0 es j d o.0 (omega (arith, b)))
    rises_by (e ∷ es) o (suc i) (suc j) d a b = rises_by es o.1 i j d (omega (arith, a)) (omega (arith, b))
