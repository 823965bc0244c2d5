-- What is known of a tree, from what its nodes state.
use Rattle.std.proofs.Common.{◌≡◌, ◌<◌, ◌≤◌, ◌+◌, ◌-◌, ◌*◌, Bool, true, false, ℕ, zero, suc, max, List, [], ◌∷◌, ◌++◌, length, Option, refl, subst}
use Rattle.std.proofs.Common.{arith, length-append}
use Rattle.std.specs.Prelude.{Box, nat_lt}
use Rattle.std.specs.declared.alloc.Global.{Global}
use Rattle.suri_base.specs.Linked.{Below, Fork, Linked, Nothing, behind}
use Rattle.segment_tree.specs.declared.spot.Spot.{Spot}
use Rattle.segment_tree.specs.Order.{greatest_end}
use Rattle.segment_tree.specs.Spots.{spot_of}
use Rattle.segment_tree.specs.Tree.{DifferByAtMost, IsAbove, IsTree, IsTreeBelow, height, height_below, reach, reach_below, spots, spots_below}
use Rattle.segment_tree.proofs.Reading.{AllFit, fit_both}

-- the greatest end of lists that stand together
greatest_both : (l m : List Spot) → greatest_end (l ++ m) ≡ max (greatest_end l) (greatest_end m)
greatest_both [] m = omega arith
greatest_both (s ∷ l) m = omega (arith, greatest_both l m)

-- what a node states as reach is the greatest end
reach_is_below : (b : Below) → IsTreeBelow b → reach_below b ≡ greatest_end (spots_below b)
reach_is_below Nothing good = refl
reach_is_below (Fork node less more) good =
    omega (arith, good.4, reach_is_below less good.5, reach_is_below more good.6, greatest_both (spots_below less) (spot_of node ∷ spots_below more))

pub reach_is : (tree : Option (Box Linked Global)) → IsTree tree → reach tree ≡ greatest_end (spots tree)
reach_is tree good = reach_is_below (behind tree) good

-- the least number of nodes, and one more, for a height; at two levels more it is at least twice as many
grow : ℕ → ℕ
grow zero = 1
grow (suc zero) = 2
grow (suc (suc h)) = 2 * grow h

grow_next : (h : ℕ) → grow h ≤ grow (suc h)
unfolding grow
grow_next zero = omega arith
grow_next (suc zero) = omega arith
grow_next (suc (suc h)) = omega (arith, grow_next h)

grow_more : (h d : ℕ) → grow h ≤ grow (d + h)
grow_more h zero = let e : zero + h ≡ h = omega arith in rw e (omega arith)
grow_more h (suc d) = let e : suc d + h ≡ suc (d + h) = omega arith in rw e (omega (arith, grow_more h d, grow_next (d + h)))

grow_level : (h : ℕ) → grow (suc h) ≤ grow h + grow h
unfolding grow
grow_level zero = omega arith
grow_level (suc h) = omega (arith, grow_next h)

grow_lean : (h : ℕ) → grow (suc (suc h)) ≤ grow h + grow (suc h)
unfolding grow
grow_lean h = omega (arith, grow_next h)

grow_sides : (h l r : ℕ) → IsAbove h l r → DifferByAtMost 1 l r → grow h ≤ grow l + grow r
grow_sides h l r above near = by (nat_lt l r) refl (nat_lt r l) refl
  where
    by : (a : Bool) → nat_lt l r ≡ a → (b : Bool) → nat_lt r l ≡ b → grow h ≤ grow l + grow r
    by true a b tb =
        let p = above.is in
        let i : r ≡ suc l = grind arith in
        let k : h ≡ suc (suc l) = grind arith in
        rw (i, k) (grow_lean l)
    by false a true tb =
        let p = above.is in
        let i : l ≡ suc r = grind arith in
        let k : h ≡ suc (suc r) = grind arith in
        rw (i, k) (omega (arith, grow_lean r))
    by false a false tb =
        let p = above.is in
        let i : l ≡ r = grind arith in
        let k : h ≡ suc r = grind arith in
        rw (i, k) (grow_level r)

-- a tree has as many nodes as its height asks for
grows : (b : Below) → IsTreeBelow b → grow (height_below b) ≤ length (spots_below b) + 1
unfolding grow
grows Nothing good = omega arith
grows (Fork node less more) good =
    omega (
      arith,
      grow_sides node.height (height_below less) (height_below more) good.2 good.3,
      grows less good.5,
      grows more good.6,
      length-append (spots_below less) (spot_of node ∷ spots_below more),
    )

-- of fewer than 2 ^ 32 nodes no tree is higher than this
low_enough : (h n : ℕ) → grow h ≤ n + 1 → n < 4294967296 → h < 66
unfolding grow
low_enough h n enough few = by (nat_lt h 66) refl
  where
    by : (t : Bool) → nat_lt h 66 ≡ t → h < 66
    by true test = grind arith
    by false test =
        let e : h - 66 + 66 ≡ h = grind arith in
        let more : grow 66 ≤ grow h = subst (λ (k : ℕ). grow 66 ≤ grow k) e (grow_more 66 (h - 66)) in
        let is : grow 66 ≡ 8589934592 = refl in
        absurd (omega (arith, more, is, enough, few))

pub low : (tree : Option (Box Linked Global)) → IsTree tree → length (spots tree) < 4294967296 → height tree < 66
low tree good few = low_enough (height tree) (length (spots tree)) (grows (behind tree) good) few

-- all ends are offsets
fits_below : (b : Below) → IsTreeBelow b → AllFit (spots_below b)
fits_below Nothing good = tt
fits_below (Fork node less more) good = fit_both (spots_below less) (spot_of node ∷ spots_below more) (fits_below less good.5) (good.0, fits_below more good.6)

pub all_fit : (tree : Option (Box Linked Global)) → IsTree tree → AllFit (spots tree)
all_fit tree good = fits_below (behind tree) good
