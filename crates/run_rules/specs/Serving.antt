-- How runs that left are finished, one after another: the nodes of the run in front go back, where it has any, and then its object.
use Rattle.std.specs.Prelude.{ℕ, ◌==◌, nat_le, Bool, false, ◌&&◌, if◌then◌else◌, List, [], ◌∷◌, Option, Some, None}
use Rattle.suri_base.specs.declared.entry.PoolNote.{PoolNote}
use Rattle.suri_base.specs.declared.entry.PoolNote.TheVariants.{Put, Turn}
use Rattle.suri_base.specs.declared.entry.SegNote.{SegNote}
use Rattle.suri_base.specs.declared.entry.SegNote.TheVariants as seg
use Rattle.bucket_laws.specs.Leaving.{Gone}
use Rattle.run_rules.specs.Acts.{Act, on_pool, on_segments, on_bucket}

abbrev pub only : {A : Type 0} → Bool → A → Option A
only b s = if b then Some s else None

-- the run in front has no node any more
abbrev pub emptied : List Gone → List Gone
emptied [] = []
emptied (g ∷ hand) = record { run = g.run; nodes = 0 } ∷ hand

abbrev pub front_holds : ℕ → List Gone → Bool
front_holds n [] = false
front_holds n (g ∷ hand) = g.nodes == n

-- the run in front is this one, and has no node
abbrev pub front_is : ℕ → List Gone → Bool
front_is run [] = false
front_is run (g ∷ hand) = (g.run == run) && (g.nodes == 0)

abbrev pub behind : List Gone → List Gone
behind [] = []
behind (g ∷ hand) = hand

abbrev pub serve_pool : List Gone → PoolNote → Option (List Gone)
serve_pool queue (Put run) = only (front_is run queue) (behind queue)
serve_pool queue _ = None

abbrev pub serve_segments : List Gone → SegNote → Option (List Gone)
serve_segments queue (seg.Gave n) = only (nat_le 1 n && front_holds n queue) (emptied queue)
serve_segments queue _ = None

-- what waits after one act more of the recycler; none where its script has no such act
abbrev pub serve : List Gone → Act → Option (List Gone)
serve queue (on_pool n i) = serve_pool queue n
serve queue (on_segments n) = serve_segments queue n
serve queue (on_bucket b n left) = None

abbrev pub served : Act → Option (List Gone) → Option (List Gone)
served a None = None
served a (Some queue) = serve queue a

-- what waits after these acts, the newest first
abbrev pub queue_after : List Gone → List Act → Option (List Gone)
queue_after queue [] = Some queue
queue_after queue (a ∷ before) = served a (queue_after queue before)

-- the runs that acts finished, the newest first: those whose object was given back, or turned to another run
abbrev pub finished_on : Act → List ℕ → List ℕ
finished_on (on_pool (Put run) i) runs = run ∷ runs
finished_on (on_pool (Turn run f) i) runs = run ∷ runs
finished_on _ runs = runs

abbrev pub finished : List Act → List ℕ
finished [] = []
finished (a ∷ before) = finished_on a (finished before)
