-- What an entry lets go.
use Rattle.std.specs.Prelude.{◌≡◌, ℕ, ◌<◌, Bool, false, All, List, [], ◌∷◌, map}
use Rattle.suri_base.specs.declared.reason.Reason.{Reason}
use Rattle.suri_base.specs.declared.entry.Entry.{Entry}
use Rattle.flow_sum.specs.Run.{Run}
use Rattle.flow_object.specs.Object.{Object, nodes_in, stops_in}
use Rattle.flow_object.specs.Ending.{EndedFlow}
use Rattle.bucket_rules.specs.declared.fixed.Fixed.{Fixed}
use Rattle.suri_base.specs.declared.entry.BucketNote.{BucketNote}
use Rattle.bucket_rules.specs.Row.{Row, row, after, lets_go, has, detached, off}
use Rattle.bucket_flow.specs.Held.{StandsIf}

-- the object is that of the run's members, of the verdicts at its closes, of its stops and its nodes, with the layout's setting
pub record IsObject (s : Fixed) (w : Row) (o : Object) : Type 0 where
  pub run : Run
  pub members : w.members ≡ run.newest ∷ run.older
  pub depth : o.depth ≡ s.layout.depth
  pub stops : stops_in o ≡ w.stops
  pub nodes : nodes_in o ≡ w.held
  pub stands : StandsIf w.asks o s.capture.bytes run w.judged

-- a flow that left, with its reason and its object, in which each packet was settled
pub record IsEnded (s : Fixed) (w : Row) (e : EndedFlow) : Type 0 where
  pub place : w.place ≡ detached (off e.reason e.emergency)
  pub settled : w.asks ≡ false
  pub object : IsObject s w e.obj

abbrev pub runs : List EndedFlow → List ℕ
runs es = map (λ (e : EndedFlow). e.run) es

abbrev pub Below : ℕ → List ℕ → Type 0
Below x [] = Unit {0}
Below x (y ∷ ys) = x < y

abbrev pub AreRising : List ℕ → Type 0
AreRising [] = Unit {0}
AreRising (x ∷ xs) = Below x xs × AreRising xs

-- just the runs that the entry lets go, by rising number
pub record IsLetGo (s : Fixed) (past : List (Entry BucketNote)) (n : BucketNote) (es : List EndedFlow) : Type 0 where
  pub rise : AreRising (runs es)
  pub whole : (a : ℕ) → has (runs es) a ≡ lets_go s past n a
  pub each : All (λ (e : EndedFlow). IsEnded s (after s e.run n (row s e.run past)) e) es

-- what is told of a flow that left, but for its object
pub record Told : Type 0 where
  pub run : ℕ
  pub reason : Reason
  pub emergency : Bool

abbrev pub told : EndedFlow → Told
told e = record { run = e.run; reason = e.reason; emergency = e.emergency }
