-- A pool, as clauses name it.
use Rattle.std.specs.Prelude.{◌≡◌, ℕ, ◌+◌, List}
use Rattle.suri_base.specs.declared.entry.Entry.{Entry}
use Rattle.suri_base.specs.declared.entry.SegNote.{SegNote}
use Rattle.segment_pool.specs.declared.calls.SegCall.{SegCall}
use Rattle.segment_pool.specs.declared.calls.SegReply.{SegReply}
use Rattle.segment_pool.specs.Counting.{out_of, Answered, MayCall}
use Rattle.segment_pool.specs.declared.pool.SegmentPool.{SegmentPool}

-- how many nodes there are, out and at home: the pool's fixed part
abbrev pub limit_of : SegmentPool → ℕ
limit_of pool = pool.limit

-- how many nodes are at home
abbrev pub spare_of : SegmentPool → ℕ
spare_of pool = pool.spare

-- the nodes that aren't at home are those out after this history
abbrev pub CountsFor : SegmentPool → List (Entry SegNote) → Type 0
CountsFor pool past = out_of past + spare_of pool ≡ limit_of pool

-- some history tells how many of the pool's nodes are out
abbrev pub HasPast : SegmentPool → Type 0
HasPast pool = (past : List (Entry SegNote)) × CountsFor pool past

-- each role may make a call at any time, where its nodes can be noted
abbrev pub PoolMay : ℕ → ℕ → List (Entry SegNote) → SegCall → Type 0
PoolMay limit role past call = MayCall call

-- what a call is answered hangs on how many nodes are out, whoever calls
abbrev pub PoolAnswers : ℕ → List (Entry SegNote) → ℕ → SegCall → SegReply → SegNote → Type 0
PoolAnswers limit past role call reply note = Answered limit (out_of past) call reply note
