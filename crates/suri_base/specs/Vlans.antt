-- The VLAN ids of a frame.
use Rattle.std.specs.Prelude.{◌≡◌, ℕ, ◌<◌, ◌≤◌, List, [], ◌∷◌, take}
use Rattle.suri_base.specs.declared.key.Vlans.{Vlans}

-- there are at most three, with 0 in the places that are not used
pub record AreVlans (v : Vlans) : Type 0 where
  pub few : v.count ≤ 3
  pub first_unused : v.count < 1 → v.first ≡ 0
  pub second_unused : v.count < 2 → v.second ≡ 0
  pub third_unused : v.count < 3 → v.third ≡ 0

-- as a list, the outermost first
abbrev pub vlan_list : Vlans → List ℕ
vlan_list v = take v.count (v.first ∷ v.second ∷ v.third ∷ [])
