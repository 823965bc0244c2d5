-- Lists in the tree's order.
use Rattle.std.proofs.Common.{◌≡◌, ℕ, ◌+◌, ◌<◌, ◌≤◌, cond, Bool, true, false, List, [], ◌∷◌, ◌++◌, length, filter, Some, refl, ap, arith}
use Rattle.std.specs.Prelude.{IsTrue, ◌||◌, nat_lt, slice_get}
use Rattle.std.specs.Option.{option_or}
use Rattle.segment_tree.specs.declared.spot.Spot.{Spot}
use Rattle.segment_tree.specs.Order.{AllBehind, AllBelow, BeforeAll, IsSorted, Lacks, before, placed}

before_through : (p q r : Spot) → IsTrue (before p q) → IsTrue (before q r) → IsTrue (before p r)
before_through p q r h k = grind arith

before_not : (p y q : Spot) → IsTrue (before y q) → before p q ≡ false → before p y ≡ false
before_not p y q h k = grind arith

before_other : (p q : Spot) → IsTrue (before p q || before q p) → before p q ≡ false → IsTrue (before q p)
before_other p q h k = grind arith

all_through : (p q : Spot) (l : List Spot) → IsTrue (before p q) → BeforeAll q l → BeforeAll p l
all_through p q [] h all = tt
all_through p q (r ∷ l) h all = (before_through p q r h all.0, all_through p q l h all.1)

all_front : (p : Spot) (l m : List Spot) → BeforeAll p (l ++ m) → BeforeAll p l
all_front p [] m all = tt
all_front p (q ∷ l) m all = (all.0, all_front p l m all.1)

pub all_middle : (p : Spot) (l : List Spot) (q : Spot) (r : List Spot) → BeforeAll p (l ++ q ∷ r) → IsTrue (before p q)
all_middle p [] q r all = all.0
all_middle p (y ∷ l) q r all = all_middle p l q r all.1

pub sorted_front : (l m : List Spot) → IsSorted (l ++ m) → IsSorted l
sorted_front [] m sorted = tt
sorted_front (p ∷ l) m sorted = (all_front p l m sorted.0, sorted_front l m sorted.1)

pub sorted_back : (l : List Spot) (q : Spot) (r : List Spot) → IsSorted (l ++ q ∷ r) → IsSorted r
sorted_back [] q r sorted = sorted.1
sorted_back (p ∷ l) q r sorted = sorted_back l q r sorted.1

pub placed_left : (p : Spot) (l : List Spot) (q : Spot) (r : List Spot) → before p q ≡ true → placed p (l ++ q ∷ r) ≡ placed p l ++ q ∷ r
placed_left p [] q r test = rw test refl
placed_left p (y ∷ l) q r test = by (before p y) (placed_left p l q r test)
  where
    by : (t : Bool) → placed p (l ++ q ∷ r) ≡ placed p l ++ q ∷ r → cond t (p ∷ y ∷ (l ++ q ∷ r)) (y ∷ placed p (l ++ q ∷ r)) ≡ cond t (p ∷ y ∷ l) (y ∷ placed p l) ++ q ∷ r
    by true again = refl
    by false again = ap (λ (m : List Spot). y ∷ m) again

pub placed_right : (p : Spot) (l : List Spot) (q : Spot) (r : List Spot) → before p q ≡ false → IsSorted (l ++ q ∷ r) → placed p (l ++ q ∷ r) ≡ l ++ q ∷ placed p r
placed_right p [] q r test sorted = rw test refl
placed_right p (y ∷ l) q r test sorted =
    let here = before_not p y q (all_middle y l q r sorted.0) test in
    rw here (ap (λ (m : List Spot). y ∷ m) (placed_right p l q r test sorted.1))

all_placed : (y p : Spot) (l : List Spot) → IsTrue (before y p) → BeforeAll y l → BeforeAll y (placed p l)
all_placed y p [] h all = (h, tt)
all_placed y p (q ∷ l) h all = by (before p q) (all_placed y p l h all.1)
  where
    by : (t : Bool) → BeforeAll y (placed p l) → BeforeAll y (cond t (p ∷ q ∷ l) (q ∷ placed p l))
    by true again = (h, all)
    by false again = (all.0, again)

pub sorted_placed : (p : Spot) (l : List Spot) → IsSorted l → Lacks p l → IsSorted (placed p l)
sorted_placed p [] sorted lacks = (tt, tt)
sorted_placed p (q ∷ l) sorted lacks = by (before p q) refl (sorted_placed p l sorted.1 lacks.1)
  where
    by : (t : Bool) → before p q ≡ t → IsSorted (placed p l) → IsSorted (cond t (p ∷ q ∷ l) (q ∷ placed p l))
    by true test again = let h : IsTrue (before p q) = test in ((h, all_through p q l h sorted.0), sorted)
    by false test again = (all_placed q p l (before_other p q lacks.0 test) sorted.0, again)

-- a node whose number is above all others'
pub below_lacks : (p : Spot) (l : List Spot) → AllBelow p.no l → Lacks p l
below_lacks p [] below = tt
below_lacks p (q ∷ l) below = let h = below.0 in (grind arith, below_lacks p l below.1)

pub below_up : (n m : ℕ) (l : List Spot) → n ≤ m → AllBelow n l → AllBelow m l
below_up n m [] up below = tt
below_up n m (q ∷ l) up below = (omega (arith, below.0, up), below_up n m l up below.1)

pub below_placed : (n : ℕ) (p : Spot) (l : List Spot) → p.no < n → AllBelow n l → AllBelow n (placed p l)
below_placed n p [] h below = (h, tt)
below_placed n p (q ∷ l) h below = by (before p q) (below_placed n p l h below.1)
  where
    by : (t : Bool) → AllBelow n (placed p l) → AllBelow n (cond t (p ∷ q ∷ l) (q ∷ placed p l))
    by true again = (h, below)
    by false again = (below.0, again)

pub length_placed : (p : Spot) (l : List Spot) → length (placed p l) ≡ length l + 1
length_placed p [] = omega arith
length_placed p (q ∷ l) = by (before p q) (length_placed p l)
  where
    by : (t : Bool) → length (placed p l) ≡ length l + 1 → length (cond t (p ∷ q ∷ l) (q ∷ placed p l)) ≡ length (q ∷ l) + 1
    by true again = omega arith
    by false again = omega (arith, again)

-- the first of a list that stands before a node, else the node
pub first_middle : (l : List Spot) (q : Spot) (r : List Spot) → slice_get (l ++ q ∷ r) 0 ≡ option_or (slice_get l 0) (Some q)
first_middle [] q r = refl
first_middle (p ∷ l) q r = refl

-- none begins before the first
behind_all : (k : ℕ) (p : Spot) (l : List Spot) → k < p.first → BeforeAll p l → AllBehind k l
behind_all k p [] late all = tt
behind_all k p (q ∷ l) late all = let h = all.0 in (grind arith, behind_all k p l late all.1)

pub first_behind : (k : ℕ) (l : List Spot) (p : Spot) → IsSorted l → slice_get l 0 ≡ Some p → k < p.first → AllBehind k l
first_behind k [] p sorted is late = tt
first_behind k (q ∷ l) p sorted is late =
    let one : q ≡ p = cc in
    let h : k < q.first = rw one late in
    (h, behind_all k q l h sorted.0)

-- none of those that begin behind an offset is left out
pub behind_filter : (k : ℕ) (l : List Spot) → AllBehind k l → filter (λ (s : Spot). nat_lt k s.first) l ≡ l
behind_filter k [] behind = refl
behind_filter k (p ∷ l) behind =
    let h = behind.0 in
    let test : nat_lt k p.first ≡ true = grind arith in
    rw test (ap (λ (m : List Spot). p ∷ m) (behind_filter k l behind.1))
