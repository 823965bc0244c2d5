-- How frames are dealt out to rounds, and keys to workers and buckets.
use Rattle.std.specs.Prelude.{ℕ, ◌*◌, ◌-◌, ◌/◌, ◌%◌, List, slice_index}
use Rattle.suri_base.specs.Hash.{fnv1a, key_bytes}
use Rattle.suri_base.specs.declared.key.Key.{Key}

-- the round of the frame of this number, counted from 1, where each round has so many frames
abbrev pub round_of : ℕ → ℕ → ℕ
round_of number round = (number - 1) / round

-- the clock of a round, where these are the clocks at all frames: that of its first frame
abbrev pub round_clock : List ℕ → ℕ → ℕ → ℕ
round_clock clocks size round = slice_index clocks (round * size)

abbrev pub worker_of : Key → ℕ → ℕ
worker_of k workers = fnv1a (key_bytes k) % workers

abbrev pub bucket_of : Key → ℕ → ℕ
bucket_of k rows = fnv1a (key_bytes k) / 256 % rows
