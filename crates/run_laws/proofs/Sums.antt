-- Sums over histories, roles and acts: a history counts for what the entries of each role count for, and a role's acts for what those on each
-- bucket count for.
use Rattle.std.proofs.Common.{◌≡◌, ℕ, zero, suc, ◌==◌, ◌+◌, ◌-◌, ◌<◌, ◌≤◌, nat_lt, Bool, true, false, cond, ◌&&◌, List, [], ◌∷◌, length, ⊎_elim, refl, sym, ◌∙◌, ap, arith, All}
use Rattle.std.proofs.lemmas.Bool.Decides.{eqb_tells, nat_tests}
use Rattle.std.proofs.lemmas.List.Elements.{All-head, All-tail}
use Rattle.run_laws.specs.Counts.{sum_below, tally}
use Rattle.run_laws.specs.Measures.{total}
use Rattle.run_rules.specs.Acts.{Act, are_within, on_bucket, on_pool, on_segments, part, place_of}
use Rattle.suri_base.specs.History.{entries_of, entry}
use Rattle.suri_base.specs.declared.entry.Entry.{Entry}
use Rattle.suri_base.specs.declared.entry.PoolNote.{PoolNote}
use Rattle.suri_base.specs.declared.entry.SegNote.{SegNote}

-- ranges

pub sum_same : (n : ℕ) (f g : ℕ → ℕ) → ((k : ℕ) → k < n → f k ≡ g k) → sum_below n f ≡ sum_below n g
sum_same zero f g h = refl
sum_same (suc n) f g h = omega (arith, h n (omega arith), sum_same n f g (λ k l. h k (omega arith)))

pub sum_plus : (n : ℕ) (f g : ℕ → ℕ) → sum_below n (λ k. f k + g k) ≡ sum_below n f + sum_below n g
sum_plus zero f g = refl
sum_plus (suc n) f g = omega (arith, sum_plus n f g)

pub sum_zero : (n : ℕ) → sum_below n (λ k. 0) ≡ 0
sum_zero zero = refl
sum_zero (suc n) = omega (arith, sum_zero n)

pub sum_swap : (n m : ℕ) (f : ℕ → ℕ → ℕ) → sum_below n (λ k. sum_below m (λ r. f k r)) ≡ sum_below m (λ r. sum_below n (λ k. f k r))
sum_swap zero m f = sym (sum_zero m)
sum_swap (suc n) m f = ap (λ (x : ℕ). x + sum_below m (λ r. f n r)) (sum_swap n m f) ∙ sym (sum_plus m (λ r. sum_below n (λ k. f k r)) (λ r. f n r))

-- one term of a range
pub sum_none : (n r x : ℕ) → n ≤ r → sum_below n (λ k. cond (r == k) x 0) ≡ 0
sum_none zero r x h = refl
sum_none (suc n) r x h = let i : cond (r == n) x 0 ≡ 0 = grind (arith, nat_tests) in omega (arith, i, sum_none n r x (omega arith))

last_term : (n r x : ℕ) (s : ℕ) → (r < n → s ≡ x) → (n ≤ r → s ≡ 0) → r < suc n → s + cond (r == n) x 0 ≡ x
last_term n r x s here past h = ⊎_elim
    (λ e. let z : s ≡ 0 = past (omega (arith, e.1)) in rw (z, e.0) (omega arith))
    (λ e. let z : s ≡ x = here (omega (arith, e.1)) in rw (z, e.0) (omega arith))
    (eqb_tells r n)

pub sum_one : (n r x : ℕ) → r < n → sum_below n (λ k. cond (r == k) x 0) ≡ x
sum_one zero r x h = absurd (omega arith)
sum_one (suc n) r x h = last_term n r x (sum_below n (λ k. cond (r == k) x 0)) (λ l. sum_one n r x l) (λ l. sum_none n r x l) h

-- tests

pub both : (p q : Bool) → (p && q) ≡ true → (p ≡ true) × (q ≡ true)
both true q h = (refl, h)
both false q h = cc

pub below : (a b : ℕ) → nat_lt a b ≡ true → a < b
below a b h = grind (arith, nat_tests)

pub same_number : (a b : ℕ) → (a == b) ≡ true → a ≡ b
same_number a b h = grind (arith, nat_tests)

-- entries by role

module _ {N : Type 0} (m : N → ℕ) where
  times_cond : (b : Bool) (e : Entry N) (h : List (Entry N)) → tally m (cond b (e ∷ h) h) ≡ cond b (m e.note) 0 + tally m h
  times_cond true e h = refl
  times_cond false e h = omega arith

  pub by_role : (n : ℕ) (h : List (Entry N)) → All (λ (e : Entry N). e.role < n) h → tally m h ≡ sum_below n (λ r. tally m (entries_of r h))
  by_role n [] a = sym (sum_zero n)
  by_role n (e ∷ h) a =
      let here : e.role < n = All-head (λ (d : Entry N). d.role < n) e h a in
      let one = sum_one n e.role (m e.note) here in
      let rest = by_role n h (All-tail (λ (d : Entry N). d.role < n) e h a) in
      let each = sum_same n (λ r. tally m (entries_of r (e ∷ h))) (λ r. cond (e.role == r) (m e.note) 0 + tally m (entries_of r h)) (λ r l. times_cond (e.role == r) e (entries_of r h)) in
      let two = sum_plus n (λ r. cond (e.role == r) (m e.note) 0) (λ r. tally m (entries_of r h)) in
      omega (arith, one, rest, each, two)

-- the acts of a role

module _ (m : Act → ℕ) (role : ℕ) where
  part_cond : (b : Bool) (e : Entry Act) (h : List (Entry Act)) → tally m (cond b (e ∷ h) h) ≡ cond b (m e.note) 0 + tally m h
  part_cond true e h = refl
  part_cond false e h = omega arith

  -- what a part counts for
  pub times_part : (place : ℕ) (acts : List Act) → tally m (part role place acts) ≡ total (λ a. cond (place_of a == place) (m a) 0) acts
  times_part place [] = refl
  times_part place (a ∷ acts) = part_cond (place_of a == place) (entry role (length acts) a) (part role place acts) ∙ ap (λ (x : ℕ). cond (place_of a == place) (m a) 0 + x) (times_part place acts)

pub total_same : (m k : Act → ℕ) (acts : List Act) → ((a : Act) → m a ≡ k a) → total m acts ≡ total k acts
total_same m k [] h = refl
total_same m k (a ∷ acts) h = omega (arith, h a, total_same m k acts h)

-- a measure of the acts on buckets: summed over the buckets it is the measure of all acts
shifted : (n p x : ℕ) → 2 ≤ p → nat_lt p (n + 2) ≡ true → sum_below n (λ b. cond (p == b + 2) x 0) ≡ x
shifted n p x h l =
    sum_same n (λ b. cond (p == b + 2) x 0) (λ b. cond (p - 2 == b) x 0) (λ b i. let e : (p == b + 2) ≡ (p - 2 == b) = grind (arith, nat_tests) in ap (λ (t : Bool). cond t x 0) e)
    ∙ sum_one n (p - 2) x (omega (arith, below p (n + 2) l))

cond_zero : (t : Bool) (x : ℕ) → x ≡ 0 → cond t x 0 ≡ 0
cond_zero true x h = h
cond_zero false x h = refl

off_bucket : (n p x : ℕ) → x ≡ 0 → sum_below n (λ b. cond (p == b + 2) x 0) ≡ x
off_bucket n p x h = sum_same n (λ b. cond (p == b + 2) x 0) (λ b. 0) (λ b k. cond_zero (p == b + 2) x h) ∙ (sum_zero n ∙ sym h)

one_bucket : (m : Act → ℕ) → ((n : PoolNote) (i : ℕ) → m (on_pool n i) ≡ 0) → ((n : SegNote) → m (on_segments n) ≡ 0) → (n : ℕ) (a : Act) → nat_lt (place_of a) (n + 2) ≡ true
    → sum_below n (λ b. cond (place_of a == b + 2) (m a) 0) ≡ m a
one_bucket m p s n (on_pool x i) l = off_bucket n 0 (m (on_pool x i)) (p x i)
one_bucket m p s n (on_segments x) l = off_bucket n 1 (m (on_segments x)) (s x)
one_bucket m p s n (on_bucket b x left) l = shifted n (b + 2) (m (on_bucket b x left)) (omega arith) l

pub by_bucket : (m : Act → ℕ) → ((n : PoolNote) (i : ℕ) → m (on_pool n i) ≡ 0) → ((n : SegNote) → m (on_segments n) ≡ 0) → (role n : ℕ) (acts : List Act) → are_within (n + 2) acts ≡ true
    → sum_below n (λ b. tally m (part role (b + 2) acts)) ≡ total m acts
by_bucket m p s role n [] l = sum_zero n
by_bucket m p s role n (a ∷ acts) l =
    let k = both (nat_lt (place_of a) (n + 2)) (are_within (n + 2) acts) l in
    let one = one_bucket m p s n a k.0 in
    let rest = by_bucket m p s role n acts k.1 in
    let each = sum_same n (λ b. tally m (part role (b + 2) (a ∷ acts))) (λ b. cond (place_of a == b + 2) (m a) 0 + tally m (part role (b + 2) acts))
    (λ b i. part_cond m role (place_of a == b + 2) (entry role (length acts) a) (part role (b + 2) acts)) in
    let two = sum_plus n (λ b. cond (place_of a == b + 2) (m a) 0) (λ b. tally m (part role (b + 2) acts)) in
    omega (arith, one, rest, each, two)
