-- Of nodes with the newest first, the last that covers an offset is the one with the least number.
use Rattle.std.proofs.Common.{◌≡◌, ℕ, ◌+◌, ◌<◌, ◌≤◌, cond, Bool, true, false, List, [], ◌∷◌, Option, Some, None, refl, sym, ap, ◌∙◌, arith}
use Rattle.std.specs.Prelude.{nat_le, nat_lt, ◌||◌}
use Rattle.std.specs.Option.{is_some, option_or}
use Rattle.segment_tree.specs.declared.spot.Spot.{Spot}
use Rattle.segment_tree.specs.Order.{AllBelow, insert_newest, newest_first}
use Rattle.segment_tree.specs.Reads.{covers, earliest, is_covered, lesser}
use Rattle.segment_tree.proofs.Newest.{Falls, first_falls}
use Rattle.segment_tree.proofs.Reading.{lesser_none}

-- it, where it covers the offset
abbrev pub covering : ℕ → Spot → Option Spot
covering k s = cond (covers s k) (Some s) None

abbrev pub oldest_in : ℕ → List Spot → Option Spot
oldest_in k [] = None
oldest_in k (s ∷ l) = option_or (oldest_in k l) (covering k s)

some_is : (t : Bool) (s m : Spot) → cond t (Some s) None ≡ Some m → s ≡ m
some_is true s m e = cc
some_is false s m e = cc

oldest_low : (n k : ℕ) (l : List Spot) (m : Spot) → AllBelow n l → oldest_in k l ≡ Some m → m.no < n
oldest_low n k [] m below is = cc
oldest_low n k (s ∷ l) m below is = by (oldest_in k l) refl (λ e. oldest_low n k l m below.1 e) is
  where
    by : (o : Option Spot) → oldest_in k l ≡ o → (oldest_in k l ≡ Some m → m.no < n) → option_or o (covering k s) ≡ Some m → m.no < n
    by (Some x) rest again is = again (rest ∙ is)
    by None rest again is =
        let one : s ≡ m = some_is (covers s k) s m is in
        let h = below.0 in
        rw (sym one) h

oldest_put : (k : ℕ) (p : Spot) (l : List Spot) → Falls l → oldest_in k (insert_newest p l) ≡ lesser (covering k p) (oldest_in k l)
oldest_put k p [] falls = sym (lesser_none (covering k p))
oldest_put k p (q ∷ l) falls = by (nat_le q.no p.no) refl (oldest_put k p l falls.1)
  where
    -- it is newer than all others
    front : q.no ≤ p.no → (o : Option Spot) → oldest_in k (q ∷ l) ≡ o → (c : Bool) → option_or o (cond c (Some p) None) ≡ lesser (cond c (Some p) None) o
    front newer None is true = refl
    front newer None is false = refl
    front newer (Some m) is false = refl
    front newer (Some m) is true =
        let low = oldest_low (q.no + 1) k (q ∷ l) m (omega arith, falls.0) is in
        let test : nat_lt p.no m.no ≡ false = grind arith in
        rw test refl

    -- it is older than one
    behind : p.no < q.no → (o : Option Spot) (a b : Bool)
        → option_or (lesser (cond a (Some p) None) o) (cond b (Some q) None) ≡ lesser (cond a (Some p) None) (option_or o (cond b (Some q) None))
    behind older None false b = refl
    behind older None true false = refl
    behind older None true true = let test : nat_lt p.no q.no ≡ true = grind arith in rw test refl
    behind older (Some m) false b = refl
    behind older (Some m) true b = pick (nat_lt p.no m.no)
      where
        pick : (t : Bool) → option_or (cond t (Some p) (Some m)) (cond b (Some q) None) ≡ cond t (Some p) (Some m)
        pick true = refl
        pick false = refl

    by : (t : Bool) → nat_le q.no p.no ≡ t → oldest_in k (insert_newest p l) ≡ lesser (covering k p) (oldest_in k l)
        → oldest_in k (cond t (p ∷ q ∷ l) (q ∷ insert_newest p l)) ≡ lesser (covering k p) (oldest_in k (q ∷ l))
    by true test again = front (grind arith) (oldest_in k (q ∷ l)) refl (covers p k)
    by false test again = ap (λ (o : Option Spot). option_or o (covering k q)) again ∙ behind (grind arith) (oldest_in k l) (covers p k) (covers q k)

-- the least number, by the order of numbers
pub oldest_first : (k : ℕ) (l : List Spot) → oldest_in k (newest_first l) ≡ earliest k l
oldest_first k [] = refl
oldest_first k (p ∷ l) = oldest_put k p (newest_first l) (first_falls l) ∙ ap (lesser (covering k p)) (oldest_first k l)

-- an offset is covered where a node is found there
pub covered_some : (k : ℕ) (l : List Spot) → is_covered k l ≡ is_some (earliest k l)
covered_some k [] = refl
covered_some k (s ∷ l) = ap (λ (b : Bool). covers s k || b) (covered_some k l) ∙ by (covers s k) (earliest k l)
  where
    by : (c : Bool) (o : Option Spot) → c || is_some o ≡ is_some (lesser (cond c (Some s) None) o)
    by false o = refl
    by true None = refl
    by true (Some m) = pick (nat_lt s.no m.no)
      where
        pick : (t : Bool) → true ≡ is_some (cond t (Some s) (Some m))
        pick true = refl
        pick false = refl
