-- The order of nodes in a tree, on lists of what they say: by first offset, then by frame number.
use Rattle.std.specs.Prelude.{ℕ, ◌+◌, ◌<◌, max, Bool, ◌||◌, ◌&&◌, ◌==◌, if◌then◌else◌, IsTrue, nat_le, nat_lt, List, [], ◌∷◌}
use Rattle.segment_tree.specs.declared.spot.Spot.{Spot}

-- the offset behind the last byte
abbrev pub end_of : Spot → ℕ
end_of s = s.first + s.len

-- it begins earlier, or with the same offset it has the less number
abbrev pub before : Spot → Spot → Bool
before p q = nat_lt p.first q.first || (p.first == q.first && nat_lt p.no q.no)

-- before each of them
abbrev pub BeforeAll : Spot → List Spot → Type 0
BeforeAll p [] = Unit {0}
BeforeAll p (q ∷ spots) = IsTrue (before p q) × BeforeAll p spots

-- each before all that follow it
abbrev pub IsSorted : List Spot → Type 0
IsSorted [] = Unit {0}
IsSorted (p ∷ spots) = BeforeAll p spots × IsSorted spots

-- put in its place
abbrev pub placed : Spot → List Spot → List Spot
placed p [] = p ∷ []
placed p (q ∷ spots) = if before p q then p ∷ q ∷ spots else q ∷ placed p spots

-- no node has this first offset and this number
abbrev pub Lacks : Spot → List Spot → Type 0
Lacks p [] = Unit {0}
Lacks p (q ∷ spots) = IsTrue (before p q || before q p) × Lacks p spots

-- the greatest end; 0 where there is no node
abbrev pub greatest_end : List Spot → ℕ
greatest_end [] = 0
greatest_end (p ∷ spots) = max (end_of p) (greatest_end spots)

-- all frame numbers are below one
abbrev pub AllBelow : ℕ → List Spot → Type 0
AllBelow n [] = Unit {0}
AllBelow n (p ∷ spots) = (p.no < n) × AllBelow n spots

-- all begin behind an offset
abbrev pub AllBehind : ℕ → List Spot → Type 0
AllBehind k [] = Unit {0}
AllBehind k (p ∷ spots) = (k < p.first) × AllBehind k spots

-- put among nodes whose numbers don't rise
abbrev pub insert_newest : Spot → List Spot → List Spot
insert_newest p [] = p ∷ []
insert_newest p (q ∷ spots) = if nat_le q.no p.no then p ∷ q ∷ spots else q ∷ insert_newest p spots

-- the same nodes, with the newest first
abbrev pub newest_first : List Spot → List Spot
newest_first [] = []
newest_first (p ∷ spots) = insert_newest p (newest_first spots)
