-- Nodes in a tree. What stands behind the link `less` comes before a node, and what stands behind `more` after it.
use Rattle.std.specs.Prelude.{◌≡◌, ℕ, ◌+◌, ◌<◌, ◌≤◌, ◌^◌, max, List, [], ◌∷◌, ◌++◌, Option, Box}
use Rattle.std.specs.declared.alloc.Global.{Global}
use Rattle.suri_base.specs.Linked.{Below, Fork, Linked, Nothing, behind}
use Rattle.segment_tree.specs.Spots.{spot_of}
use Rattle.segment_tree.specs.declared.spot.Spot.{Spot}

-- what the nodes say, in the tree's order
abbrev pub spots_below : Below → List Spot
spots_below Nothing = []
spots_below (Fork node less more) = spots_below less ++ spot_of node ∷ spots_below more

-- the height that a tree states
abbrev pub height_below : Below → ℕ
height_below Nothing = 0
height_below (Fork node less more) = node.height

-- the greatest end that a tree states
abbrev pub reach_below : Below → ℕ
reach_below Nothing = 0
reach_below (Fork node less more) = node.reach

-- neither height is more than this above the other
abbrev pub DifferByAtMost : ℕ → ℕ → ℕ → Type 0
DifferByAtMost by l r = (l ≤ r + by) × (r ≤ l + by)

-- one more than the greater of two heights
pub record IsAbove (high l r : ℕ) : Type 0 where
  pub is : high ≡ max l r + 1

-- at each node: its end is an offset; its height is a byte, and one more than the greater one of its sides, which differ by at
-- most one; and what it states as reach is the greatest end of its own and its sides'
abbrev pub IsTreeBelow : Below → Type 0
IsTreeBelow Nothing = Unit {0}
IsTreeBelow (Fork node less more) =
    (node.first + node.len < 2 ^ 32)
    × (node.height < 256)
    × IsAbove node.height (height_below less) (height_below more)
    × DifferByAtMost 1 (height_below less) (height_below more)
    × (node.reach ≡ max (node.first + node.len) (max (reach_below less) (reach_below more)))
    × IsTreeBelow less
    × IsTreeBelow more

-- the same of a node with what stands behind its links
abbrev pub spots_from : Linked → List Spot
spots_from a = spots_below (Fork a.node a.less a.more)

abbrev pub height_of : Linked → ℕ
height_of a = a.node.height

abbrev pub reach_of : Linked → ℕ
reach_of a = a.node.reach

abbrev pub IsTreeFrom : Linked → Type 0
IsTreeFrom a = IsTreeBelow (Fork a.node a.less a.more)

-- the same of what stands behind a link
abbrev pub spots : Option (Box Linked Global) → List Spot
spots tree = spots_below (behind tree)

abbrev pub height : Option (Box Linked Global) → ℕ
height tree = height_below (behind tree)

abbrev pub reach : Option (Box Linked Global) → ℕ
reach tree = reach_below (behind tree)

abbrev pub IsTree : Option (Box Linked Global) → Type 0
IsTree tree = IsTreeBelow (behind tree)
