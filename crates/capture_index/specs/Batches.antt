-- The rounds of a capture, and the batches of frames that a worker takes in a round.
use Rattle.std.specs.Prelude.{ℕ, ◌+◌, ◌==◌, zero, suc, List, filter, length, map}
use Rattle.std.specs.Fork.{slice_chunk}
use Rattle.std.specs.Int.{div_ceil}
use Rattle.std.specs.List.{range_with_len}
use Rattle.suri_base.specs.Capture.{packets_in}
use Rattle.suri_base.specs.Dealing.{round_of, worker_of}
use Rattle.suri_base.specs.declared.layout.Layout.{Layout}
use Rattle.suri_base.specs.declared.seen.Seen.{Seen}

-- how many rounds so many frames have, where each round has so many: the last one is that of the last frame
abbrev pub rounds_of : ℕ → ℕ → ℕ
rounds_of zero size = 0
rounds_of (suc before) size = round_of (suc before) size + 1

-- the numbers of the frames that a worker takes among some frames, in file order: those that bear a flow whose key is the worker's
abbrev pub taken_among : Layout → ℕ → List Seen → List ℕ
taken_among l worker seen = map (λ f. f.no) (filter (λ f. worker_of f.key l.workers == worker) (packets_in seen))

-- the same among the frames of a round
abbrev pub taken_in : Layout → List Seen → ℕ → ℕ → List ℕ
taken_in l seen worker round = taken_among l worker (slice_chunk seen l.round round)

-- a list in pieces of so many, of which the last may be shorter
abbrev pub cut_into : ℕ → List ℕ → List (List ℕ)
cut_into size numbers = map (λ i. slice_chunk numbers size i) (range_with_len 0 (div_ceil (length numbers) size))

-- the batches of a worker in a round: the frames that it takes, so many at a time
abbrev pub batches_of : Layout → List Seen → ℕ → ℕ → List (List ℕ)
batches_of l seen worker round = cut_into l.batch (taken_in l seen worker round)
