-- The least pair above a key, from where the pairs are cut by it.
use Rattle.std.proofs.Common.{◌≡◌, ℕ, zero, suc, ◌<◌, ◌≤◌, ◌+◌, ◌-◌, Bool, true, false, cond, List, [], ◌∷◌, length, get_or, Vec, Option, Some, None, refl, sym, ap, subst, ◌∙◌, arith}
use Rattle.std.specs.Ordering.{is_eq, is_gt, ordering_index}
use Rattle.std.specs.declared.cmp.Ordering.{Ordering}
use Rattle.std.specs.declared.cmp.Ordering.TheVariants.{Less, Equal, Greater}
use Rattle.std.specs.Cmp.{IsTotalOrder}
use Rattle.slot_order.specs.Order.{slot_of, AreSorted, IsAt, IsGap}
use Rattle.std.specs.Option.{MatchOption}
use Rattle.std.specs.Global.{Global}
use Rattle.std.proofs.lemmas.List.{length-append}
use Rattle.slot_order.specs.Rows.{joined, items_at, place_in, IsChunk}
use Rattle.std.specs.List.{All}
use Rattle.slot_order.specs.Next.{IsCut, IsNext}
use Rattle.slot_order.proofs.Sorted.{below_at, first_least, first_slot, more_back, rises}

module _ {K : Type 0} {cmp : K → K → Ordering} where
  tail_cut : (e : K × ℕ) (es : List (K × ℕ)) (k : K) (p : ℕ) → IsCut cmp (e ∷ es) k (suc p) → IsCut cmp es k p
  tail_cut e es k p c = record { within = omega (arith, c.within); before = λ j d l. c.before (suc j) d (omega (arith, l)); after = λ j d l m. c.after (suc j) d (omega (arith, l)) (omega (arith, m)) }

  pub cut_of_gap : (es : List (K × ℕ)) (k : K) (p : ℕ) → IsGap cmp es k p → IsCut cmp es k p
  cut_of_gap es k p g = record { within = g.within; before = λ j d l. ap is_gt (g.before j d l); after = g.after }

module _ {K : Type 0} {cmp : K → K → Ordering} (t : IsTotalOrder cmp) where
  eq_is : (o : Ordering) → is_eq o ≡ true → o ≡ Equal
  eq_is Equal h = refl
  eq_is Less h = cc
  eq_is Greater h = cc

  pub less_each : (es : List (K × ℕ)) (i j : ℕ) (d : K × ℕ) → AreSorted cmp es → i < j → j < length es → cmp (get_or es i d).0 (get_or es j d).0 ≡ Less
  less_each [] i j d o l m = absurd (omega (arith, m))
  less_each (x ∷ xs) i zero d o l m = absurd (omega (arith, l))
  less_each (x ∷ xs) zero (suc j) d o l m = below_at t x.0 xs j d o.0 (omega (arith, m))
  less_each (x ∷ xs) (suc i) (suc j) d o l m = less_each xs i j d o.1 (omega (arith, l)) (omega (arith, m))

  behind_each : (es : List (K × ℕ)) (k : K) (d : K × ℕ) (n : ℕ) → AreSorted cmp es → length es ≡ suc n → cmp (get_or es n d).0 k ≡ Less → (j : ℕ) (e : K × ℕ) → j < length es → cmp (get_or es j e).0 k ≡ Less
  behind_each [] k d n o m last j e l = absurd (omega (arith, l))
  behind_each (x ∷ xs) k d zero o m last zero e l = last
  behind_each (x ∷ xs) k d zero o m last (suc j) e l = absurd (omega (arith, l, m))
  behind_each (x ∷ xs) k d (suc n) o m last zero e l = t.trans x.0 (get_or xs n d).0 k (below_at t x.0 xs n d o.0 (omega (arith, m))) last
  behind_each (x ∷ xs) k d (suc n) o m last (suc j) e l = behind_each xs k d n o.1 (omega (arith, m)) last j e (omega (arith, l))

  -- a key above the last pair goes behind all
  pub gap_behind : (es : List (K × ℕ)) (k : K) (d : K × ℕ) → AreSorted cmp es → cmp (get_or es (length es - 1) d).0 k ≡ Less → IsGap cmp es k (length es)
  gap_behind [] k d o last = record { within = omega arith; before = λ j e l. absurd (omega (arith, l)); after = λ j e l m. absurd (omega (arith, m)) }
  gap_behind (x ∷ xs) k d o last = record {
    within = omega arith;
    before = behind_each (x ∷ xs) k d (length xs) o refl (subst (λ (n : ℕ). cmp (get_or (x ∷ xs) n d).0 k ≡ Less) (one_less (length xs)) last);
    after = λ j e l m. absurd (omega (arith, l, m));
  }
    where
      one_less : (n : ℕ) → suc n - 1 ≡ n
      one_less n = omega arith

  pub next_of : (es : List (K × ℕ)) (k : K) (p : ℕ) (e : K × ℕ) → AreSorted cmp es → IsCut cmp es k p → p < length es → e ≡ get_or es p e → IsNext cmp es k e
  next_of [] k p e o c l q = absurd (omega (arith, l))
  next_of (x ∷ xs) k zero e o c l q = subst (λ (y : K × ℕ). IsNext cmp (x ∷ xs) k y) (sym q) (record { there = first_slot t x xs; above = ap is_gt (c.after 0 x (omega arith) (omega arith)); least = λ r s h a. first_least t x xs o r s h })
  next_of (x ∷ xs) k (suc p) e o c l q =
      let i = next_of xs k p e o.1 (tail_cut x xs k p c) (omega (arith, l)) q in
      let b : cmp x.0 e.0 ≡ Less = subst (λ (y : K × ℕ). cmp x.0 y.0 ≡ Less) (sym q) (below_at t x.0 xs p e o.0 (omega (arith, l))) in
      record { there = rw b i.there; above = i.above; least = λ r s h a. least i.least r s (is_eq (cmp x.0 r)) refl h a }
    where
      least : ((r : K) (s : ℕ) → slot_of cmp xs r ≡ Some s → is_gt (cmp r k) ≡ true → is_gt (cmp e.0 r) ≡ false) → (r : K) (s : ℕ) (b : Bool) → is_eq (cmp x.0 r) ≡ b → cond b (Some x.1) (slot_of cmp xs r) ≡ Some s → is_gt (cmp r k) ≡ true → is_gt (cmp e.0 r) ≡ false
      least i r s false m h a = i r s h a
      least i r s true m h a = let n = c.before 0 x (omega arith) in let w = t.congr x.0 r k (eq_is (cmp x.0 r) m) in cc

  pub none_above : (es : List (K × ℕ)) (k : K) → AreSorted cmp es → IsCut cmp es k (length es) → (r : K) → is_gt (cmp r k) ≡ true → slot_of cmp es r ≡ None
  none_above [] k o c r a = refl
  none_above (x ∷ xs) k o c r a = by (is_eq (cmp x.0 r)) refl (none_above xs k o.1 (tail_cut x xs k (length xs) c) r a)
    where
      by : (b : Bool) → is_eq (cmp x.0 r) ≡ b → slot_of cmp xs r ≡ None → cond b (Some x.1) (slot_of cmp xs r) ≡ None
      by false m h = h
      by true m h = let n = c.before 0 x (omega arith) in let w = t.congr x.0 r k (eq_is (cmp x.0 r) m) in cc

  pub cut_of_at : (es : List (K × ℕ)) (k : K) (i : ℕ) → AreSorted cmp es → IsAt cmp es k i → IsCut cmp es k (i + 1)
  cut_of_at es k i o a = record { within = omega (arith, a.within); before = before; after = after }
    where
      same : (d : K × ℕ) → ordering_index (cmp (get_or es i d).0 k) ≡ 1
      same d = ap ordering_index (a.same d)

      low : (r : Ordering) → ordering_index r ≤ 1 → is_gt r ≡ false
      low Less h = refl
      low Equal h = refl
      low Greater h = absurd (omega (arith, h))

      before : (j : ℕ) (d : K × ℕ) → j < i + 1 → is_gt (cmp (get_or es j d).0 k) ≡ false
      before j d l = low (cmp (get_or es j d).0 k) (let r = rises t es k o j i d (omega (arith, l)) a.within in omega (arith, r, same d))

      after : (j : ℕ) (d : K × ℕ) → i + 1 ≤ j → j < length es → cmp (get_or es j d).0 k ≡ Greater
      after j d l m = more_back t k (get_or es j d).0 (sym (t.congr (get_or es i d).0 k (get_or es j d).0 (a.same d)) ∙ less_each es i j d o (omega (arith, l)) m)

  pub stepped : (es : List (K × ℕ)) (k : K) (p : ℕ) (r : Option (K × ℕ)) → AreSorted cmp es → IsCut cmp es k p → MatchOption r (p ≡ length es) (λ e. (p < length es) × (e ≡ get_or es p e))
      → MatchOption r ((q : K) → is_gt (cmp q k) ≡ true → slot_of cmp es q ≡ None) (IsNext cmp es k)
  stepped es k p None o c h = λ q a. none_above es k o (subst (λ (n : ℕ). IsCut cmp es k n) h c) q a
  stepped es k p (Some e) o c h = next_of es k p e o c h.0 h.1

module _ {X : Type 0} where
  pub place_after : (cs : List (Vec X Global)) (c i : ℕ) → place_in cs c (i + 1) ≡ place_in cs c i + 1
  place_after [] c i = refl
  place_after (v ∷ vs) zero i = refl
  place_after (v ∷ vs) (suc c) i = let h = place_after vs c i in omega (arith, h)

  pub place_behind : (cs : List (Vec X Global)) (c : ℕ) → c + 1 < length cs → place_in cs c (length (items_at cs c)) ≡ place_in cs (c + 1) 0
  place_behind [] c l = absurd (omega (arith, l))
  place_behind (v ∷ []) zero l = absurd (omega (arith, l))
  place_behind (v ∷ u ∷ vs) zero l = omega arith
  place_behind (v ∷ vs) (suc c) l =
      let n : suc (c + 1) ≡ suc c + 1 = omega arith in
      ap (λ (n : ℕ). length v.items + n) (place_behind vs c (omega (arith, l))) ∙ ap (λ (n : ℕ). place_in (v ∷ vs) n 0) n

  pub place_end : (cs : List (Vec X Global)) (c : ℕ) → c + 1 ≡ length cs → place_in cs c (length (items_at cs c)) ≡ length (joined cs)
  place_end [] c l = absurd (omega (arith, l))
  place_end (v ∷ []) zero l = let e = length-append v.items [] in omega (arith, e)
  place_end (v ∷ u ∷ vs) zero l = absurd (omega (arith, l))
  place_end (v ∷ vs) (suc c) l = let e = length-append v.items (joined vs) in let h = place_end vs c (omega (arith, l)) in omega (arith, e, h)

  pub few_at : (cs : List (Vec X Global)) (c : ℕ) → All IsChunk cs → c < length cs → (0 < length (items_at cs c)) × (length (items_at cs c) < 256)
  few_at [] c a l = absurd (omega (arith, l))
  few_at (v ∷ vs) zero a l = ((a 0 v (omega arith)).some, (a 0 v (omega arith)).few)
  few_at (v ∷ vs) (suc c) a l = few_at vs c (λ j d m. a (suc j) d (omega (arith, m))) (omega (arith, l))

module _ {K : Type 0} {cmp : K → K → Ordering} (t : IsTotalOrder cmp) where
  pub stepped_in : (ds es cs : List (Vec (K × ℕ) Global)) (k : K) (c i : ℕ) (r : Option (K × ℕ)) → ds ≡ cs → es ≡ cs → AreSorted cmp (joined cs) → IsCut cmp (joined ds) k (place_in ds c i)
      → MatchOption r (place_in es c i ≡ length (joined es)) (λ e. (place_in es c i < length (joined es)) × (e ≡ get_or (joined es) (place_in es c i) e))
      → MatchOption r ((q : K) → is_gt (cmp q k) ≡ true → slot_of cmp (joined cs) q ≡ None) (IsNext cmp (joined cs) k)
  stepped_in ds es cs k c i r d e o h m = stepped t (joined cs) k (place_in cs c i) r o
      (subst (λ (vs : List (Vec (K × ℕ) Global)). IsCut cmp (joined vs) k (place_in vs c i)) d h)
      (subst (λ (vs : List (Vec (K × ℕ) Global)). MatchOption r (place_in vs c i ≡ length (joined vs)) (λ e. (place_in vs c i < length (joined vs)) × (e ≡ get_or (joined vs) (place_in vs c i) e))) e m)
