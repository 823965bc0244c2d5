-- What is read from a list in the tree's order, at one of its nodes.
use Rattle.std.proofs.Common.{◌≡◌, ℕ, ◌+◌, ◌<◌, ◌≤◌, max, min, cond, Bool, true, false, List, [], ◌∷◌, ◌++◌, Option, Some, None, refl, sym, ap, ◌∙◌, subst, arith}
use Rattle.std.specs.Prelude.{IsTrue, ◌||◌, nat_lt, nat_le, IfSome, MatchOption}
use Rattle.segment_tree.specs.declared.spot.Spot.{Spot}
use Rattle.segment_tree.specs.Order.{BeforeAll, IsSorted, before, end_of, greatest_end}
use Rattle.segment_tree.specs.Reads.{covers, earliest, is_covered, lesser, next_first, reach_until}
use Rattle.segment_tree.proofs.Orders.{all_middle}

pub starts : (p q : Spot) → IsTrue (before p q) → p.first ≤ q.first
starts p q h = grind arith

-- all begin behind an offset
until_late : (k : ℕ) (s : Spot) (r : List Spot) → k < s.first → BeforeAll s r → reach_until k r ≡ 0
until_late k s [] late all = refl
until_late k s (q ∷ r) late all =
    let h = starts s q all.0 in
    let test : nat_le q.first k ≡ false = grind arith in
    rw test (until_late k s r late all.1)

pub until_before : (k : ℕ) (l : List Spot) (s : Spot) (r : List Spot) → k < s.first → IsSorted (l ++ s ∷ r) → reach_until k (l ++ s ∷ r) ≡ reach_until k l
until_before k [] s r late sorted = let test : nat_le s.first k ≡ false = grind arith in rw test (until_late k s r late sorted.0)
until_before k (q ∷ l) s r late sorted = by (nat_le q.first k) (until_before k l s r late sorted.1)
  where
    by : (t : Bool) → reach_until k (l ++ s ∷ r) ≡ reach_until k l
        → cond t (max (end_of q) (reach_until k (l ++ s ∷ r))) (reach_until k (l ++ s ∷ r)) ≡ cond t (max (end_of q) (reach_until k l)) (reach_until k l)
    by true again = ap (max (end_of q)) again
    by false again = again

pub until_after : (k : ℕ) (l : List Spot) (s : Spot) (r : List Spot) → s.first ≤ k → IsSorted (l ++ s ∷ r) → reach_until k (l ++ s ∷ r) ≡ max (max (greatest_end l) (end_of s)) (reach_until k r)
until_after k [] s r begun sorted = let test : nat_le s.first k ≡ true = grind arith in rw test (omega arith)
until_after k (q ∷ l) s r begun sorted =
    let h = starts q s (all_middle q l s r sorted.0) in
    let test : nat_le q.first k ≡ true = grind arith in
    rw test (omega (arith, until_after k l s r begun sorted.1))

pub next_before : (k limit : ℕ) (l : List Spot) (s : Spot) (r : List Spot) → k < s.first → next_first k limit (l ++ s ∷ r) ≡ next_first k s.first l
next_before k limit [] s r late = let test : nat_lt k s.first ≡ true = grind arith in rw test refl
next_before k limit (q ∷ l) s r late = ap (λ (n : ℕ). cond (nat_lt k q.first) q.first n) (next_before k limit l s r late)

pub next_after : (k limit : ℕ) (l : List Spot) (s : Spot) (r : List Spot) → s.first ≤ k → IsSorted (l ++ s ∷ r) → next_first k limit (l ++ s ∷ r) ≡ next_first k limit r
next_after k limit [] s r begun sorted = let test : nat_lt k s.first ≡ false = grind arith in rw test refl
next_after k limit (q ∷ l) s r begun sorted =
    let h = starts q s (all_middle q l s r sorted.0) in
    let test : nat_lt k q.first ≡ false = grind arith in
    rw test (next_after k limit l s r begun sorted.1)

-- of three, the one with the least number
pub lesser_none : (o : Option Spot) → lesser o None ≡ o
lesser_none None = refl
lesser_none (Some s) = refl

lesser_three : (a b c : Option Spot) → lesser (lesser a b) c ≡ lesser a (lesser b c)
lesser_three None b c = refl
lesser_three (Some a) None c = refl
lesser_three (Some a) (Some b) None = lesser_none (lesser (Some a) (Some b))
lesser_three (Some a) (Some b) (Some c) = by (nat_lt a.no b.no) refl (nat_lt b.no c.no) refl
  where
    by : (t : Bool) → nat_lt a.no b.no ≡ t → (u : Bool) → nat_lt b.no c.no ≡ u → lesser (cond t (Some a) (Some b)) (Some c) ≡ lesser (Some a) (cond u (Some b) (Some c))
    by true at true bt = let e : nat_lt a.no c.no ≡ true = grind arith in rw (at, e) refl
    by true at false bt = refl
    by false at true bt = rw (at, bt) refl
    by false at false bt = let e : nat_lt a.no c.no ≡ false = grind arith in rw (bt, e) refl

covers_not : (s : Spot) (k : ℕ) → k < s.first → covers s k ≡ false
covers_not s k late = grind arith

covers_past : (s : Spot) (k : ℕ) → end_of s ≤ k → covers s k ≡ false
covers_past s k past = grind arith

-- all end at or before an offset
pub earliest_past : (k : ℕ) (l : List Spot) → greatest_end l ≤ k → earliest k l ≡ None
earliest_past k [] past = refl
earliest_past k (s ∷ l) past = rw (covers_past s k (omega (arith, past))) (earliest_past k l (omega (arith, past)))

earliest_late : (k : ℕ) (s : Spot) (r : List Spot) → k < s.first → BeforeAll s r → earliest k r ≡ None
earliest_late k s [] late all = refl
earliest_late k s (q ∷ r) late all =
    let h = starts s q all.0 in
    rw (covers_not q k (omega (arith, h, late))) (earliest_late k s r late all.1)

pub earliest_before : (k : ℕ) (l : List Spot) (s : Spot) (r : List Spot) → k < s.first → IsSorted (l ++ s ∷ r) → earliest k (l ++ s ∷ r) ≡ earliest k l
earliest_before k [] s r late sorted = rw (covers_not s k late) (earliest_late k s r late sorted.0)
earliest_before k (q ∷ l) s r late sorted = ap (lesser (cond (covers q k) (Some q) None)) (earliest_before k l s r late sorted.1)

pub earliest_both : (k : ℕ) (l m : List Spot) → earliest k (l ++ m) ≡ lesser (earliest k l) (earliest k m)
earliest_both k [] m = refl
earliest_both k (q ∷ l) m = ap (lesser (cond (covers q k) (Some q) None)) (earliest_both k l m) ∙ sym (lesser_three (cond (covers q k) (Some q) None) (earliest k l) (earliest k m))

abbrev pub AllFit : List Spot → Type 0
AllFit [] = Unit {0}
AllFit (s ∷ l) = (end_of s < 4294967296) × AllFit l

pub fit_both : (l m : List Spot) → AllFit l → AllFit m → AllFit (l ++ m)
fit_both [] m a b = b
fit_both (s ∷ l) m a b = (a.0, fit_both l m a.1 b)

-- what is found covers the offset, and its end is one
pub found : (k : ℕ) (l : List Spot) (s : Spot) → AllFit l → earliest k l ≡ Some s → (covers s k ≡ true) × (end_of s < 4294967296)
found k [] s fit e = cc
found k (q ∷ l) s fit e = by (covers q k) refl (earliest k l) refl e (λ m f. found k l m fit.1 f)
  where
    by : (t : Bool) → covers q k ≡ t → (r : Option Spot) → earliest k l ≡ r → lesser (cond t (Some q) None) r ≡ Some s
        → ((m : Spot) → earliest k l ≡ Some m → (covers m k ≡ true) × (end_of m < 4294967296)) → (covers s k ≡ true) × (end_of s < 4294967296)
    by false test r rest e again = again s (rest ∙ e)
    by true test None rest e again = let one : q ≡ s = cc in subst (λ (m : Spot). (covers m k ≡ true) × (end_of m < 4294967296)) one (test, fit.0)
    by true test (Some m) rest e again = pick (nat_lt q.no m.no) e
      where
        pick : (u : Bool) → cond u (Some q) (Some m) ≡ Some s → (covers s k ≡ true) × (end_of s < 4294967296)
        pick true e = let one : q ≡ s = cc in subst (λ (m : Spot). (covers m k ≡ true) × (end_of m < 4294967296)) one (test, fit.0)
        pick false e = let one : m ≡ s = cc in subst (λ (m : Spot). (covers m k ≡ true) × (end_of m < 4294967296)) one (again m rest)

-- the number of what is found is at least this
abbrev AtLeast : ℕ → Option Spot → Type 0
AtLeast n None = Unit {0}
AtLeast n (Some m) = n ≤ m.no

least_rest : (n : ℕ) (t : Bool) (q : Spot) (r : Option Spot) → AtLeast n (lesser (cond t (Some q) None) r) → AtLeast n r
least_rest n false q r h = h
least_rest n true q None h = tt
least_rest n true q (Some m) h = by (nat_lt q.no m.no) refl h
  where
    by : (u : Bool) → nat_lt q.no m.no ≡ u → AtLeast n (cond u (Some q) (Some m)) → n ≤ m.no
    by true test h = grind arith
    by false test h = h

least_here : (n : ℕ) (q : Spot) (r : Option Spot) → AtLeast n (lesser (Some q) r) → n ≤ q.no
least_here n q None h = h
least_here n q (Some m) h = by (nat_lt q.no m.no) refl h
  where
    by : (u : Bool) → nat_lt q.no m.no ≡ u → AtLeast n (cond u (Some q) (Some m)) → n ≤ q.no
    by true test h = h
    by false test h = grind arith

least_both : (n : ℕ) (q : Spot) (r : Option Spot) → n ≤ q.no → AtLeast n r → AtLeast n (lesser (Some q) r)
least_both n q None h k = h
least_both n q (Some m) h k = by (nat_lt q.no m.no)
  where
    by : (u : Bool) → AtLeast n (cond u (Some q) (Some m))
    by true = h
    by false = k

cover_past : (q : Spot) (at k : ℕ) → at ≤ k → q.first ≤ at → covers q at ≡ false → covers q k ≡ false
cover_past q at k up begun test = grind arith

least_stays : (n at k limit : ℕ) (l : List Spot) → IsSorted l → at ≤ k → k < next_first at limit l → AtLeast n (earliest at l) → AtLeast n (earliest k l)
least_stays n at k limit [] sorted up near h = tt
least_stays n at k limit (q ∷ l) sorted up near h = by (nat_lt at q.first) refl near (λ near rest. least_stays n at k limit l sorted.1 up near rest)
  where
    by : (t : Bool) → nat_lt at q.first ≡ t → k < cond t q.first (next_first at limit l)
        → (k < next_first at limit l → AtLeast n (earliest at l) → AtLeast n (earliest k l)) → AtLeast n (earliest k (q ∷ l))
    by true test near again = subst (AtLeast n) (sym (earliest_before k [] q l near sorted)) tt
    by false test near again = pick (covers q at) refl h
      where
        begun : q.first ≤ at
        begun = grind arith

        pick : (u : Bool) → covers q at ≡ u → AtLeast n (lesser (cond u (Some q) None) (earliest at l)) → AtLeast n (earliest k (q ∷ l))
        pick false bare h = rw (cover_past q at k up begun bare) (again near h)
        pick true bare h = both (covers q k) (least_here n q (earliest at l) h) (again near (least_rest n true q (earliest at l) h))
          where
            both : (v : Bool) → n ≤ q.no → AtLeast n (earliest k l) → AtLeast n (lesser (cond v (Some q) None) (earliest k l))
            both true here rest = least_both n q (earliest k l) here rest
            both false here rest = rest

-- where no node covers an offset, none does up to where the next one begins
pub stays_open : (at k limit : ℕ) (l : List Spot) → IsSorted l → at ≤ k → k < next_first at limit l → earliest at l ≡ None → earliest k l ≡ None
stays_open at k limit l sorted up near none = by (earliest k l) refl
  where
    by : (o : Option Spot) → earliest k l ≡ o → earliest k l ≡ None
    by None is = is
    by (Some m) is =
        let least = least_stays (m.no + 1) at k limit l sorted up near (subst (AtLeast (m.no + 1)) (sym none) tt) in
        let over : m.no + 1 ≤ m.no = subst (AtLeast (m.no + 1)) is least in
        absurd (omega (arith, over))

-- where it is less than what else is found
lesser_first : (q : Spot) (r : Option Spot) → AtLeast (q.no + 1) r → lesser (Some q) r ≡ Some q
lesser_first q None h = refl
lesser_first q (Some m) h = let test : nat_lt q.no m.no ≡ true = grind arith in rw test refl

-- up to where the next node begins, and to its own end, the earliest node stays the same
pub stays : (at k limit : ℕ) (l : List Spot) (s : Spot) → IsSorted l → at ≤ k → k < next_first at limit l → k < end_of s → earliest at l ≡ Some s → earliest k l ≡ Some s
stays at k limit [] s sorted up near inside e = cc
stays at k limit (q ∷ l) s sorted up near inside e = by (nat_lt at q.first) refl near (λ near rest. stays at k limit l s sorted.1 up near inside rest)
  where
    by : (t : Bool) → nat_lt at q.first ≡ t → k < cond t q.first (next_first at limit l) → (k < next_first at limit l → earliest at l ≡ Some s → earliest k l ≡ Some s) → earliest k (q ∷ l) ≡ Some s
    by true test near again = let late : at < q.first = grind arith in clash (sym (earliest_before at [] q l late sorted) ∙ e)
      where
        clash : None ≡ Some s → earliest k (q ∷ l) ≡ Some s
        clash e = cc
    by false test near again = pick (covers q at) refl (earliest at l) refl e
      where
        begun : q.first ≤ at
        begun = grind arith

        here : q ≡ s → AtLeast (q.no + 1) (earliest at l) → earliest k (q ∷ l) ≡ Some s
        here one least =
            let in_ = subst (λ (m : Spot). k < end_of m) (sym one) inside in
            let test : covers q k ≡ true = grind arith in
            rw test (lesser_first q (earliest k l) (least_stays (q.no + 1) at k limit l sorted.1 up near least) ∙ ap Some one)

        pick : (u : Bool) → covers q at ≡ u → (r : Option Spot) → earliest at l ≡ r → lesser (cond u (Some q) None) r ≡ Some s → earliest k (q ∷ l) ≡ Some s
        pick false bare r rest e = rw (cover_past q at k up begun bare) (again near (rest ∙ e))
        pick true bare None rest e = let one : q ≡ s = cc in here one (subst (AtLeast (q.no + 1)) (sym rest) tt)
        pick true bare (Some m) rest e = of (nat_lt q.no m.no) refl e
          where
            of : (v : Bool) → nat_lt q.no m.no ≡ v → cond v (Some q) (Some m) ≡ Some s → earliest k (q ∷ l) ≡ Some s
            of true less e = let one : q ≡ s = cc in let low : q.no + 1 ≤ m.no = grind arith in here one (subst (AtLeast (q.no + 1)) (sym rest) low)
            of false less e =
                let one : m ≡ s = cc in
                rw (again near (rest ∙ ap Some one)) (last (covers q k) (subst (λ (x : Spot). nat_lt q.no x.no ≡ false) one less))
              where
                last : (w : Bool) → nat_lt q.no s.no ≡ false → lesser (cond w (Some q) None) (Some s) ≡ Some s
                last true less = rw less refl
                last false less = refl

-- what is covered, by the greatest end
pub until_covered : (k j : ℕ) (l : List Spot) → k ≤ j → j < reach_until k l → is_covered j l ≡ true
until_covered k j [] up below = absurd (omega (arith, below))
until_covered k j (q ∷ l) up below = by (nat_le q.first k) refl below (λ below. until_covered k j l up below)
  where
    or_true : (a : Bool) → a || true ≡ true
    or_true true = refl
    or_true false = refl

    by : (t : Bool) → nat_le q.first k ≡ t → j < cond t (max (end_of q) (reach_until k l)) (reach_until k l) → (j < reach_until k l → is_covered j l ≡ true) → covers q j || is_covered j l ≡ true
    by false test below again = rw (again below) (or_true (covers q j))
    by true test below again = pick (nat_lt j (end_of q)) refl
      where
        pick : (u : Bool) → nat_lt j (end_of q) ≡ u → covers q j || is_covered j l ≡ true
        pick true in_ = let here : covers q j ≡ true = grind arith in rw here refl
        pick false in_ = let rest : j < reach_until k l = grind arith in rw (again rest) (or_true (covers q j))

pub until_open : (k : ℕ) (l : List Spot) → reach_until k l ≤ k → is_covered k l ≡ false
until_open k [] low = refl
until_open k (q ∷ l) low = by (nat_le q.first k) refl low (λ low. until_open k l low)
  where
    by : (t : Bool) → nat_le q.first k ≡ t → cond t (max (end_of q) (reach_until k l)) (reach_until k l) ≤ k → (reach_until k l ≤ k → is_covered k l ≡ false) → covers q k || is_covered k l ≡ false
    by true test low again = rw (covers_past q k (omega (arith, low))) (again (omega (arith, low)))
    by false test low again = let late : k < q.first = grind arith in rw (covers_not q k late) (again low)

pub next_later : (k limit : ℕ) (l : List Spot) → k < limit → k < next_first k limit l
next_later k limit [] h = h
next_later k limit (q ∷ l) h = by (nat_lt k q.first) refl (next_later k limit l h)
  where
    by : (t : Bool) → nat_lt k q.first ≡ t → k < next_first k limit l → k < cond t q.first (next_first k limit l)
    by true test again = grind arith
    by false test again = again

-- the end of what is found, where there is a node
module _ (at n : ℕ) (l : List Spot) (o : Option Spot) (is : earliest at l ≡ o) (fit : AllFit l) where
  pub found_fits : IfSome o (λ s. end_of s < 4294967296)
  found_fits = by o is
    where
      by : (o : Option Spot) → earliest at l ≡ o → IfSome o (λ s. end_of s < 4294967296)
      by None is = tt
      by (Some s) is = (found at l s fit is).1

  pub run_on : MatchOption o (n ≡ 4294967295) (λ s. n ≡ end_of s)
      → (end : ℕ) → end ≡ min (next_first at n l) n → MatchOption o (at < 4294967295 → at < end) (λ s. at < end)
  run_on ends end end_is = by o is ends
    where
      by : (o : Option Spot) → earliest at l ≡ o → MatchOption o (n ≡ 4294967295) (λ s. n ≡ end_of s) → MatchOption o (at < 4294967295 → at < end) (λ s. at < end)
      by None is ends = λ low. omega (arith, end_is, ends, low, next_later at n l (omega (arith, ends, low)))
      by (Some s) is ends =
          let covered = (found at l s fit is).0 in
          let inside : at < n = grind arith in
          omega (arith, end_is, inside, next_later at n l inside)

  pub run_same : IsSorted l → MatchOption o (n ≡ 4294967295) (λ s. n ≡ end_of s) → (k : ℕ) → at ≤ k → k < min (next_first at n l) n → earliest k l ≡ o
  run_same sorted ends k up below = by o is ends
    where
      by : (o : Option Spot) → earliest at l ≡ o → MatchOption o (n ≡ 4294967295) (λ s. n ≡ end_of s) → earliest k l ≡ o
      by None is ends = stays_open at k n l sorted up (omega (arith, below)) is
      by (Some s) is ends = stays at k n l s sorted up (omega (arith, below)) (omega (arith, below, ends)) is
