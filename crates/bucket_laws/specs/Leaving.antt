-- The runs that an entry lets go, in their order.
use Rattle.std.specs.Prelude.{ℕ, ◌+◌, ◌<◌, nat_lt, if◌then◌else◌, List, [], ◌∷◌, All, filter, map}
use Rattle.suri_base.specs.declared.entry.BucketNote.{BucketNote}
use Rattle.suri_base.specs.declared.entry.Entry.{Entry}
use Rattle.bucket_rules.specs.Row.{after, lets_go, made, row}
use Rattle.bucket_rules.specs.declared.fixed.Fixed.{Fixed}

-- a run that left, and how many nodes it took along
pub record Gone : Type 0 where
  pub run : ℕ
  pub nodes : ℕ

-- a number put in its place, and a list put in order
abbrev pub put : ℕ → List ℕ → List ℕ
put x [] = x ∷ []
put x (y ∷ ys) = if nat_lt y x then y ∷ put x ys else x ∷ y ∷ ys

abbrev pub rising : List ℕ → List ℕ
rising [] = []
rising (x ∷ xs) = put x (rising xs)

-- the runs that an entry lets go, by their numbers, each with the nodes that it holds then
abbrev pub gone : Fixed → List (Entry BucketNote) → BucketNote → List Gone
gone s past n = map (λ a. record { run = a; nodes = (after s a n (row s a past)).held }) (filter (λ a. lets_go s past n a) (rising (made past)))

abbrev pub runs : List Gone → List ℕ
runs gs = map (λ g. g.run) gs

-- each number is above those before it
abbrev pub AreRising : List ℕ → Type 0
AreRising [] = Unit {0}
AreRising (x ∷ xs) = All (λ (y : ℕ). x < y) xs × AreRising xs

-- the nodes of some runs
abbrev pub sum_nodes : List Gone → ℕ
sum_nodes [] = 0
sum_nodes (g ∷ gs) = g.nodes + sum_nodes gs
