-- A member is newer than what waits, and no more wait than there are members.
use Rattle.std.proofs.Common.{◌≡◌, ℕ, ◌<◌, ◌≤◌, cond, Bool, true, false, List, [], ◌∷◌, length, map, Option, Some, None, sym, ap, subst, arith}
use Rattle.std.specs.Prelude.{nat_lt, IfSome}
use Rattle.std.proofs.lemmas.List.{length-map}
use Rattle.segment_tree.specs.declared.spot.Spot.{Spot}
use Rattle.segment_tree.specs.Order.{AllBelow, end_of, newest_first}
use Rattle.segment_tree.proofs.Newest.{below_back, length_newest}
use Rattle.reassembly.specs.Kept.{Rises, newest_of, spot_in}
use Rattle.reassembly.specs.Members.{Member, part_of}
use Rattle.reassembly.specs.Nodes.{MayWait}
use Rattle.reassembly.specs.Parts.{Part, beyond, frontier_of, needs_segment, stored_of, waiting_of}

-- frame numbers below one
members_below : (n depth base : ℕ) (members : List Member) → Rises members → newest_of members < n → AllBelow n (map spot_in (map (part_of depth base) members))
members_below n depth base [] rises later = tt
members_below n depth base (m ∷ older) rises later = (later, members_below n depth base older rises.1 (omega (arith, rises.0, later)))

stored_below : (n depth : ℕ) (parts : List Part) → AllBelow n (map spot_in parts) → AllBelow n (map spot_in (stored_of depth parts))
stored_below n depth [] below = tt
stored_below n depth (p ∷ older) below = by (needs_segment depth older p) (stored_below n depth older below.1)
  where
    by : (t : Bool) → AllBelow n (map spot_in (stored_of depth older)) → AllBelow n (map spot_in (cond t (p ∷ stored_of depth older) (stored_of depth older)))
    by true again = (below.0, again)
    by false again = again

beyond_below : (n k : ℕ) (parts : List Part) → AllBelow n (map spot_in parts) → AllBelow n (map spot_in (beyond k parts))
beyond_below n k [] below = tt
beyond_below n k (p ∷ parts) below = by (nat_lt k p.first) (beyond_below n k parts below.1)
  where
    by : (t : Bool) → AllBelow n (map spot_in (beyond k parts)) → AllBelow n (map spot_in (cond t (p ∷ beyond k parts) (beyond k parts)))
    by true again = (below.0, again)
    by false again = again

pub waiting_below : (n depth base : ℕ) (members : List Member) → Rises members → newest_of members < n
    → AllBelow n (map spot_in (waiting_of depth (map (part_of depth base) members)))
waiting_below n depth base members rises later =
    let parts = map (part_of depth base) members in
    beyond_below n (frontier_of depth parts) (stored_of depth parts) (stored_below n depth parts (members_below n depth base members rises later))

-- how many there are
rises_few : (members : List Member) → Rises members → length members ≤ newest_of members
rises_few [] rises = omega arith
rises_few (m ∷ older) rises = omega (arith, rises.0, rises_few older rises.1)

stored_few : (depth : ℕ) (parts : List Part) → length (stored_of depth parts) ≤ length parts
stored_few depth [] = omega arith
stored_few depth (p ∷ older) = by (needs_segment depth older p) (stored_few depth older)
  where
    by : (t : Bool) → length (stored_of depth older) ≤ length older → length (cond t (p ∷ stored_of depth older) (stored_of depth older)) ≤ length (p ∷ older)
    by true again = omega (arith, again)
    by false again = omega (arith, again)

beyond_few : (k : ℕ) (parts : List Part) → length (beyond k parts) ≤ length parts
beyond_few k [] = omega arith
beyond_few k (p ∷ parts) = by (nat_lt k p.first) (beyond_few k parts)
  where
    by : (t : Bool) → length (beyond k parts) ≤ length parts → length (cond t (p ∷ beyond k parts) (beyond k parts)) ≤ length (p ∷ parts)
    by true again = omega (arith, again)
    by false again = omega (arith, again)

pub waiting_few : (depth base : ℕ) (members : List Member) → Rises members → length (map spot_in (waiting_of depth (map (part_of depth base) members))) ≤ newest_of members
waiting_few depth base members rises =
    let parts = map (part_of depth base) members in
    omega (
      arith,
      length-map (waiting_of depth parts) spot_in,
      beyond_few (frontier_of depth parts) (stored_of depth parts),
      stored_few depth parts,
      length-map members (part_of depth base),
      rises_few members rises,
    )

-- a place that may wait still may where none waits
pub may_alone : (old waiting : List Spot) (o : Option Spot) → waiting ≡ [] → IfSome o (λ s. MayWait old s) → IfSome o (λ s. MayWait waiting s)
may_alone old waiting None none may = tt
may_alone old waiting (Some s) none may = let fits = may.fits in subst (λ (l : List Spot). MayWait l s) (sym none) (record { newer = tt; fits = fits; few = omega arith })

-- nor does it matter where none is asked for
pub may_none : (waiting : List Spot) (o : Option Spot) → o ≡ None → IfSome o (λ s. MayWait waiting s)
may_none waiting o none = subst (λ (x : Option Spot). IfSome x (λ s. MayWait waiting s)) (sym none) tt

-- the place of a member that comes after some others may
pub may_wait : (n depth base : ℕ) (waiting : List Spot) (spot : Spot) (members : List Member) → Rises members → newest_of members < n → n < 4294967296
    → newest_first waiting ≡ map spot_in (waiting_of depth (map (part_of depth base) members)) → spot.no ≡ n → end_of spot < 4294967296
    → MayWait waiting spot
may_wait n depth base waiting spot members rises later low is number fits = record {
  newer = subst (λ (k : ℕ). AllBelow k waiting) (sym number)
      (below_back n waiting (subst (AllBelow n) (sym is) (waiting_below n depth base members rises later)));
  fits = fits;
  few = omega (arith, length_newest waiting, ap length is, waiting_few depth base members rises, later, low);
}
