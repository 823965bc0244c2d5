-- What the acts of a role count for.
use Rattle.std.specs.Prelude.{ℕ, ◌+◌, List, [], ◌∷◌}
use Rattle.bucket_laws.specs.Counts.{begins, one_if}
use Rattle.bucket_laws.specs.Leaving.{Gone, sum_nodes}
use Rattle.bucket_laws.specs.Nodes.{frees, stores}
use Rattle.run_rules.specs.Acts.{Act, on_pool, on_segments, on_bucket}
use Rattle.run_laws.specs.Counts.{is, gets, gives, node_took, nodes_given}

abbrev pub total : (Act → ℕ) → List Act → ℕ
total m [] = 0
total m (a ∷ before) = m a + total m before

-- how often a run is among those that left
abbrev pub count_run : ℕ → List Gone → ℕ
count_run a [] = 0
count_run a (g ∷ gs) = is g.run a + count_run a gs

-- the same over some hands, and the nodes in them
abbrev pub count_hands : ℕ → List (List Gone) → ℕ
count_hands a [] = 0
count_hands a (h ∷ hs) = count_run a h + count_hands a hs

abbrev pub hand_nodes : List (List Gone) → ℕ
hand_nodes [] = 0
hand_nodes (h ∷ hs) = sum_nodes h + hand_nodes hs

-- an act gets, gives back, begins or lets go run a
abbrev pub got_by : ℕ → Act → ℕ
got_by a (on_pool n i) = gets a n
got_by a _ = 0

abbrev pub given_by : ℕ → Act → ℕ
given_by a (on_pool n i) = gives a n
given_by a _ = 0

abbrev pub begun_by : ℕ → Act → ℕ
begun_by a (on_bucket b n left) = one_if (begins n a)
begun_by a _ = 0

abbrev pub left_by : ℕ → Act → ℕ
left_by a (on_bucket b n left) = count_run a left
left_by a _ = 0

-- the nodes that an act takes, gives back or stores
abbrev pub took_by : Act → ℕ
took_by (on_segments n) = node_took n
took_by _ = 0

abbrev pub gave_by : Act → ℕ
gave_by (on_segments n) = nodes_given n
gave_by _ = 0

abbrev pub stored_by : Act → ℕ
stored_by (on_bucket b n left) = stores n
stored_by _ = 0

-- the nodes that come out of a bucket: those that a close frees, and those of the runs that leave
abbrev pub freed_by : Act → ℕ
freed_by (on_bucket b n left) = frees n + sum_nodes left
freed_by _ = 0
