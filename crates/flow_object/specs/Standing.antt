-- When an object stands for a run of packets and the verdicts on them. The run's members stand with the newest first, and the
-- stops of the streams are those that the object tells.
use Rattle.std.specs.Prelude.{◌≡◌, ◌≤◌, ℕ, Bool, true, false, if◌then◌else◌, List, [], ◌∷◌, ◌⊎◌}
use Rattle.reassembly.specs.Kept.{AllLieIn, Asks, IsBlank, KeptStream, Stands, newest_of}
use Rattle.reassembly.specs.Members.{Member}
use Rattle.suri_base.specs.App.{first_verdict}
use Rattle.suri_base.specs.Keys.{is_side}
use Rattle.suri_base.specs.declared.app.App.{App}
use Rattle.flow_sum.specs.Run.{Run, first_of}
use Rattle.flow_sum.specs.Sums.{client_of, sums_of}
use Rattle.flow_object.specs.Object.{Object, Stops, session_of}
use Rattle.flow_object.specs.Streams.{to_client, to_server}

-- the object keeps sums, session and verdict of a run and of the verdicts on its packets, the newest first; the payloads of the
-- run's segments lie in the bytes, and none is later than the newest packet
pub record StandsBeside (o : Object) (bytes : List ℕ) (r : Run) (judged : List App) : Type 0 where
  pub sums : o.sums ≡ sums_of r
  pub state : o.state ≡ session_of r
  pub app : o.app ≡ first_verdict judged
  pub ts_depth : o.ts.depth ≡ o.depth
  pub tc_depth : o.tc.depth ≡ o.depth
  pub ts_lies : AllLieIn bytes (to_server bytes r)
  pub tc_lies : AllLieIn bytes (to_client bytes r)
  pub ts_before : newest_of (to_server bytes r) ≤ r.newest.no
  pub tc_before : newest_of (to_client bytes r) ≤ r.newest.no

-- the object stands for a run in a capture of these bytes, and for the verdicts on its packets
pub record StandsFor (o : Object) (bytes : List ℕ) (r : Run) (judged : List App) : Type 0 where
  pub beside : StandsBeside o bytes r judged
  pub ts : Stands o.ts (to_server bytes r)
  pub tc : Stands o.tc (to_client bytes r)

-- the newest of some members has this frame number, came last, and needs a node
abbrev pub NewestAsks : KeptStream → ℕ → List Member → Type 0
NewestAsks kept number [] = ⊥
NewestAsks kept number (m ∷ older) = (m.no ≡ number) × Asks kept m older

-- the newest packet of a run goes to the server
abbrev pub is_to_server : Run → Bool
is_to_server r = is_side r.newest.side (client_of (first_of r))

-- the object stands for a run but for the newest packet, which needs a node
pub record AsksFor (o : Object) (bytes : List ℕ) (r : Run) (judged : List App) : Type 0 where
  pub beside : StandsBeside o bytes r judged
  pub one : ((is_to_server r ≡ true) × NewestAsks o.ts r.newest.no (to_server bytes r) × Stands o.tc (to_client bytes r))
      ⊎ ((is_to_server r ≡ false) × Stands o.ts (to_server bytes r) × NewestAsks o.tc r.newest.no (to_client bytes r))

-- the newest packet of a run that needs a node, and gets none, is the stop of its stream
abbrev pub stopped_at_newest : Run → Stops → Stops
stopped_at_newest r stops =
    if is_to_server r then record stops { to_server = r.newest.no } else record stops { to_client = r.newest.no }

-- the object is that of no run, with this setting
pub record IsBlankObject (depth : ℕ) (o : Object) : Type 0 where
  pub setting : o.depth ≡ depth
  pub ts : IsBlank depth o.ts
  pub tc : IsBlank depth o.tc
