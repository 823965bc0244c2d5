-- What an object in a hand or a queue stands for, and the lines of the runs that were finished.
use Rattle.std.specs.Prelude.{◌≡◌, ℕ, ◌<◌, true, Bool, List, ◌∷◌, length}
use Rattle.bucket_laws.specs.Leaving.{Gone}
use Rattle.bucket_rules.specs.Row.{Row, row, lets_go, detached, off}
use Rattle.flow_bucket.specs.LetGo.{IsEnded}
use Rattle.flow_object.specs.Ending.{EndedFlow}
use Rattle.flow_object.specs.Line.{line_of}
use Rattle.flow_object.specs.Object.{nodes_in}
use Rattle.flow_object.specs.declared.outcome.FlowLine.{FlowLine}
use Rattle.flow_sum.specs.Run.{Run}
use Rattle.lock_rows.specs.Rows.{Pairs}
use Rattle.run_rules.specs.Histories.{Histories, bucket_at}
use Rattle.run_rules.specs.Setup.{Setup, fixed_at}
use Rattle.suri_base.specs.History.{Begins}
use Rattle.suri_base.specs.declared.entry.BucketNote.{BucketNote}
use Rattle.suri_base.specs.declared.entry.Entry.{Entry}
use Rattle.suri_base.specs.declared.reason.Reason.{Reason}

-- what an object in a hand stands for in the script: its run, and the nodes that it took along
abbrev pub gone_of : EndedFlow → Gone
gone_of e = record { run = e.run; nodes = nodes_in e.obj }

-- in these histories the run left a bucket, at the entry that stands right after `past`
pub record HasLeft (w : Setup) (t : Histories) (run : ℕ) : Type 0 where
  pub bucket : ℕ
  pub real : bucket < length t.buckets
  pub at : Entry BucketNote
  pub past : List (Entry BucketNote)
  pub stands : Begins (at ∷ past) (bucket_at bucket t.buckets)
  pub left : lets_go (fixed_at w bucket) past at.note run ≡ true

-- the row of a run at the entry where it left
abbrev pub row_then : (w : Setup) (t : Histories) (run : ℕ) → HasLeft w t run → Row
row_then w t run h = row (fixed_at w h.bucket) run (h.at ∷ h.past)

-- the object is what that entry let go: the run's, with its nodes, its reason and its record there
pub record IsItem (w : Setup) (t : Histories) (g : Gone) (e : EndedFlow) : Type 0 where
  pub leaving : HasLeft w t g.run
  pub run : e.run ≡ g.run
  pub nodes : g.nodes ≡ (row_then w t g.run leaving).held
  pub ended : IsEnded (fixed_at w leaving.bucket) (row_then w t g.run leaving) e

-- item by item
abbrev pub Items : Setup → Histories → List Gone → List EndedFlow → Type 0
Items w t gs es = Pairs (λ g e. IsItem w t g e) gs es

-- the line of a run, read off its row at the entry where it left
pub record IsLine (w : Setup) (t : Histories) (run : ℕ) (l : FlowLine) : Type 0 where
  pub leaving : HasLeft w t run
  pub reason : Reason
  pub emergency : Bool
  pub place : (row_then w t run leaving).place ≡ detached (off reason emergency)
  pub packets : Run
  pub members : (row_then w t run leaving).members ≡ packets.newest ∷ packets.older
  pub is : l ≡ line_of w.layout.depth (row_then w t run leaving).stops w.capture.bytes packets (row_then w t run leaving).judged reason emergency

-- the lines of these runs, one by one
abbrev pub LinesOf : Setup → Histories → List ℕ → List FlowLine → Type 0
LinesOf w t runs ls = Pairs (λ a l. IsLine w t a l) runs ls
