-- The nodes of a tree with the newest first.
use Rattle.std.proofs.Common.{◌≡◌, ℕ, ◌+◌, ◌<◌, ◌≤◌, cond, Bool, true, false, List, [], ◌∷◌, length, filter, refl, sym, ap, ◌∙◌, arith}
use Rattle.std.specs.Prelude.{nat_le}
use Rattle.segment_tree.specs.declared.spot.Spot.{Spot}
use Rattle.segment_tree.specs.Order.{AllBelow, before, insert_newest, newest_first, placed}

below_more : (n m : ℕ) (l : List Spot) → n ≤ m → AllBelow n l → AllBelow m l
below_more n m [] up below = tt
below_more n m (q ∷ l) up below = (omega (arith, below.0, up), below_more n m l up below.1)

below_newest : (n : ℕ) (p : Spot) (l : List Spot) → p.no < n → AllBelow n l → AllBelow n (insert_newest p l)
below_newest n p [] h below = (h, tt)
below_newest n p (q ∷ l) h below = by (nat_le q.no p.no) (below_newest n p l h below.1)
  where
    by : (t : Bool) → AllBelow n (insert_newest p l) → AllBelow n (cond t (p ∷ q ∷ l) (q ∷ insert_newest p l))
    by true again = (h, below)
    by false again = (below.0, again)

below_first : (n : ℕ) (l : List Spot) → AllBelow n l → AllBelow n (newest_first l)
below_first n [] below = tt
below_first n (p ∷ l) below = below_newest n p (newest_first l) below.0 (below_first n l below.1)

-- the newest of all comes to stand in front
in_front : (p : Spot) (l : List Spot) → AllBelow (p.no + 1) l → insert_newest p l ≡ p ∷ l
in_front p [] below = refl
in_front p (q ∷ l) below = let h = below.0 in let test : nat_le q.no p.no ≡ true = grind arith in rw test refl

-- a node that is newer than all others, put in its place in the tree, is the first of them
pub newest_placed : (p : Spot) (l : List Spot) → AllBelow p.no l → newest_first (placed p l) ≡ p ∷ newest_first l
newest_placed p [] below = refl
newest_placed p (q ∷ l) below = by (before p q) (newest_placed p l below.1)
  where
    by : (t : Bool) → newest_first (placed p l) ≡ p ∷ newest_first l → newest_first (cond t (p ∷ q ∷ l) (q ∷ placed p l)) ≡ p ∷ insert_newest q (newest_first l)
    by true again = in_front p (newest_first (q ∷ l)) (below_more p.no (p.no + 1) _ (omega arith) (below_first p.no (q ∷ l) below))
    by false again =
        let h = below.0 in
        let test : nat_le p.no q.no ≡ false = grind arith in
        ap (insert_newest q) again ∙ rw test refl

-- the numbers don't rise
abbrev pub Falls : List Spot → Type 0
Falls [] = Unit {0}
Falls (p ∷ l) = AllBelow (p.no + 1) l × Falls l

newest_falls : (p : Spot) (l : List Spot) → Falls l → Falls (insert_newest p l)
newest_falls p [] falls = (tt, tt)
newest_falls p (q ∷ l) falls = by (nat_le q.no p.no) refl (newest_falls p l falls.1)
  where
    by : (t : Bool) → nat_le q.no p.no ≡ t → Falls (insert_newest p l) → Falls (cond t (p ∷ q ∷ l) (q ∷ insert_newest p l))
    by true test again = ((grind arith, below_more (q.no + 1) (p.no + 1) l (grind arith) falls.0), falls)
    by false test again = (below_newest (q.no + 1) p l (grind arith) falls.0, again)

pub first_falls : (l : List Spot) → Falls (newest_first l)
first_falls [] = tt
first_falls (p ∷ l) = newest_falls p (newest_first l) (first_falls l)

below_some : (n : ℕ) (f : Spot → Bool) (l : List Spot) → AllBelow n l → AllBelow n (filter f l)
below_some n f [] below = tt
below_some n f (q ∷ l) below = by (f q) (below_some n f l below.1)
  where
    by : (t : Bool) → AllBelow n (filter f l) → AllBelow n (cond t (q ∷ filter f l) (filter f l))
    by true again = (below.0, again)
    by false again = again

filter_newest : (f : Spot → Bool) (p : Spot) (l : List Spot) → Falls l → filter f (insert_newest p l) ≡ cond (f p) (insert_newest p (filter f l)) (filter f l)
filter_newest f p [] falls = refl
filter_newest f p (q ∷ l) falls = by (nat_le q.no p.no) refl (filter_newest f p l falls.1)
  where
    low : nat_le q.no p.no ≡ true → (b : Bool) → AllBelow (p.no + 1) (cond b (q ∷ filter f l) (filter f l))
    low test true = (grind arith, below_some (p.no + 1) f l (below_more (q.no + 1) (p.no + 1) l (grind arith) falls.0))
    low test false = below_some (p.no + 1) f l (below_more (q.no + 1) (p.no + 1) l (grind arith) falls.0)

    front : nat_le q.no p.no ≡ true → (a b : Bool)
        → cond a (p ∷ cond b (q ∷ filter f l) (filter f l)) (cond b (q ∷ filter f l) (filter f l))
        ≡ cond a (insert_newest p (cond b (q ∷ filter f l) (filter f l))) (cond b (q ∷ filter f l) (filter f l))
    front test true b = sym (in_front p (cond b (q ∷ filter f l) (filter f l)) (low test b))
    front test false b = refl

    behind : nat_le q.no p.no ≡ false → (a b : Bool) → filter f (insert_newest p l) ≡ cond a (insert_newest p (filter f l)) (filter f l)
        → cond b (q ∷ filter f (insert_newest p l)) (filter f (insert_newest p l)) ≡ cond a (insert_newest p (cond b (q ∷ filter f l) (filter f l))) (cond b (q ∷ filter f l) (filter f l))
    behind test true true again = rw test (ap (λ (m : List Spot). q ∷ m) again)
    behind test false true again = ap (λ (m : List Spot). q ∷ m) again
    behind test a false again = again

    by : (t : Bool) → nat_le q.no p.no ≡ t → filter f (insert_newest p l) ≡ cond (f p) (insert_newest p (filter f l)) (filter f l)
        → filter f (cond t (p ∷ q ∷ l) (q ∷ insert_newest p l)) ≡ cond (f p) (insert_newest p (filter f (q ∷ l))) (filter f (q ∷ l))
    by true test again = front test (f p) (f q)
    by false test again = behind test (f p) (f q) again

-- nodes may be left out before or after
pub newest_filter : (f : Spot → Bool) (l : List Spot) → filter f (newest_first l) ≡ newest_first (filter f l)
newest_filter f [] = refl
newest_filter f (p ∷ l) = filter_newest f p (newest_first l) (first_falls l) ∙ by (f p) (newest_filter f l)
  where
    by : (t : Bool) → filter f (newest_first l) ≡ newest_first (filter f l)
        → cond t (insert_newest p (filter f (newest_first l))) (filter f (newest_first l)) ≡ newest_first (cond t (p ∷ filter f l) (filter f l))
    by true again = ap (insert_newest p) again
    by false again = again

-- as many, and with the same numbers
pub length_newest : (l : List Spot) → length (newest_first l) ≡ length l
length_newest [] = refl
length_newest (p ∷ l) = omega (arith, put p (newest_first l), length_newest l)
  where
    put : (p : Spot) (l : List Spot) → length (insert_newest p l) ≡ length l + 1
    put p [] = omega arith
    put p (q ∷ l) = by (nat_le q.no p.no) (put p l)
      where
        by : (t : Bool) → length (insert_newest p l) ≡ length l + 1 → length (cond t (p ∷ q ∷ l) (q ∷ insert_newest p l)) ≡ length (q ∷ l) + 1
        by true again = omega arith
        by false again = omega (arith, again)

below_put : (n : ℕ) (p : Spot) (l : List Spot) → AllBelow n (insert_newest p l) → (p.no < n) × AllBelow n l
below_put n p [] below = below
below_put n p (q ∷ l) below = by (nat_le q.no p.no) below (λ below. below_put n p l below)
  where
    by : (t : Bool) → AllBelow n (cond t (p ∷ q ∷ l) (q ∷ insert_newest p l)) → (AllBelow n (insert_newest p l) → (p.no < n) × AllBelow n l) → (p.no < n) × AllBelow n (q ∷ l)
    by true below again = below
    by false below again = let rest = again below.1 in (rest.0, (below.0, rest.1))

pub below_back : (n : ℕ) (l : List Spot) → AllBelow n (newest_first l) → AllBelow n l
below_back n [] below = tt
below_back n (p ∷ l) below = let rest = below_put n p (newest_first l) below in (rest.0, below_back n l rest.1)
