-- A bucket's flows stand for a history; what may be called, and what is answered.
use Rattle.std.specs.Prelude.{◌≡◌, ℕ, ◌≤◌, true, false, List, [], ◌∷◌, length, map, Option, Some, None}
use Rattle.std.specs.Prelude.{Box}
use Rattle.std.specs.declared.alloc.Global.{Global}
use Rattle.std.specs.Option.{option_to_list, is_some}
use Rattle.suri_base.specs.Linked.{Linked}
use Rattle.suri_base.specs.declared.stream.Offer.{Offer}
use Rattle.suri_base.specs.Chain.{IsAlone}
use Rattle.suri_base.specs.declared.entry.Entry.{Entry}
use Rattle.flow_object.specs.Ending.{EndedFlow}
use Rattle.flow_object.specs.Object.{Object, nodes_in}
use Rattle.bucket_rules.specs.declared.fixed.Fixed.{Fixed}
use Rattle.suri_base.specs.declared.entry.BucketNote.{BucketNote}
use Rattle.suri_base.specs.declared.entry.BucketNote.TheVariants as note
use Rattle.bucket_rules.specs.Row.{Row, row, after, has, is_here, is_begun}
use Rattle.bucket_rules.specs.Own.{awaits, owes}
use Rattle.bucket_rules.specs.Rule.{MayLook, MayClose, MayEvict, MaySweep, MayDrain, Rule, IsLegal}
use Rattle.bucket_flow.specs.Held.{Held}
use Rattle.bucket_flow.specs.Flows.{find_in, IsDistinct}
use Rattle.flow_bucket.specs.LetGo.{IsObject, IsLetGo, Told, told}
use Rattle.flow_bucket.specs.declared.calls.BucketCall.{BucketCall}
use Rattle.flow_bucket.specs.declared.calls.BucketCall.TheVariants as call
use Rattle.flow_bucket.specs.declared.calls.BucketReply.{BucketReply}
use Rattle.flow_bucket.specs.declared.calls.BucketReply.TheVariants as reply

-- a flow keeps what the row says of its run
pub record IsFlow (s : Fixed) (w : Row) (f : Held) : Type 0 where
  pub place : f.place ≡ w.place
  pub begun : is_begun f.place ≡ true
  pub uses : (u : ℕ) → has f.uses u ≡ has w.uses u
  pub object : IsObject s w f.obj
  pub here : is_here w ≡ true

-- a run that isn't in the bucket has no flow, and one that is has one
abbrev pub IsHeld : Fixed → Row → Option Held → Type 0
IsHeld s w None = is_here w ≡ false
IsHeld s w (Some f) = IsFlow s w f

-- the flows are those of this history
pub record Stands (s : Fixed) (past : List (Entry BucketNote)) (flows : List Held) : Type 0 where
  pub workers : 1 ≤ s.layout.workers
  pub legal : IsLegal s past
  pub held : (a : ℕ) → IsHeld s (row s a past) (find_in flows a)
  pub distinct : IsDistinct flows

-- an entry's doing: the flows after it, and those that it let go
pub record Did (s : Fixed) (past : List (Entry BucketNote)) (n : BucketNote) (next : List Held) (es : List EndedFlow) : Type 0 where
  pub held : (a : ℕ) → IsHeld s (after s a n (row s a past)) (find_in next a)
  pub distinct : IsDistinct next
  pub gone : IsLetGo s past n es

-- an object that is handed in has no node, and the layout's setting
abbrev pub MayMake : Fixed → List (Entry BucketNote) → ℕ → ℕ → Object → Type 0
MayMake s past role f o = (awaits role f past ≡ true) × (nodes_in o ≡ 0) × (o.depth ≡ s.layout.depth)

-- a node that is handed in has no links
abbrev pub MaySettle : List (Entry BucketNote) → ℕ → ℕ → Option (Box Linked Global) → Type 0
MaySettle past role f None = owes role past ≡ Some f
MaySettle past role f (Some node) = (owes role past ≡ Some f) × IsAlone node.value

-- what a role may call after a history
abbrev pub BucketMay : Fixed → ℕ → List (Entry BucketNote) → BucketCall → Type 0
BucketMay s role past (call.Look f emergency seen) = MayLook s past role f
BucketMay s role past (call.Make f obj) = MayMake s past role f obj.value
BucketMay s role past (call.Refuse f) = awaits role f past ≡ true
BucketMay s role past (call.Segment f node) = MaySettle past role f node
BucketMay s role past (call.Close f app) = MayClose past role f
BucketMay s role past (call.Evict f) = MayEvict s past role
BucketMay s role past (call.Sweep round emergency seen) = MaySweep s role round
BucketMay s role past call.Drain = MayDrain s past role

abbrev pub run_of : Option EndedFlow → ℕ
run_of None = 0
run_of (Some e) = e.run

-- the note of a call and its reply
abbrev pub Noted : BucketCall → BucketReply → BucketNote → Type 0
Noted (call.Look f emergency seen) (reply.Found run said) n = n ≡ note.Found f emergency seen run said
Noted (call.Look f emergency seen) (reply.Missing ended) n = n ≡ note.Missing f emergency seen (run_of ended)
Noted (call.Make f obj) (reply.Made said) n = n ≡ note.Made f said
Noted (call.Refuse f) reply.Refused n = n ≡ note.Refused f
Noted (call.Segment f (Some node)) reply.Stored n = n ≡ note.Stored f
Noted (call.Segment f None) reply.Stopped n = n ≡ note.Stopped f
Noted (call.Close f app) (reply.Closed run freed ended) n = n ≡ note.Closed f app run (length freed) (is_some ended)
Noted (call.Close f app) reply.Idle n = n ≡ note.Idle f app
Noted (call.Evict f) (reply.Victim e) n = n ≡ note.Victim f e.run
Noted (call.Evict f) (reply.AllInUse count) n = n ≡ note.AllInUse f count
Noted (call.Sweep round emergency seen) (reply.Swept es) n = n ≡ note.Swept round emergency seen (length es.items)
Noted call.Drain (reply.Drained es) n = n ≡ note.Drained (length es.items)
Noted c r n = ⊥

-- the flows that a reply hands out
abbrev pub ended_in : BucketReply → List EndedFlow
ended_in (reply.Missing ended) = option_to_list ended
ended_in (reply.Closed run freed ended) = option_to_list ended
ended_in (reply.Victim e) = e ∷ []
ended_in (reply.Swept es) = es.items
ended_in (reply.Drained es) = es.items
ended_in _ = []

-- after this history the role's call has this reply and this note
pub record BucketAnswers (s : Fixed) (past : List (Entry BucketNote)) (role : ℕ) (a : BucketCall) (r : BucketReply) (n : BucketNote) : Type 0 where
  pub rule : Rule s past role n
  pub noted : Noted a r n
  pub gone : IsLetGo s past n (ended_in r)

-- what a call does to the flows, and what it answers
pub record Done (s : Fixed) (past : List (Entry BucketNote)) (role : ℕ) (a : BucketCall) (r : BucketReply) (n : BucketNote) (next : List Held) : Type 0 where
  pub rule : Rule s past role n
  pub noted : Noted a r n
  pub did : Did s past n next (ended_in r)

-- what a reply says, but for the contents of objects and nodes
pub data Said : Type 0 where
  found : ℕ → Offer → Said
  missing : List Told → Said
  made : Offer → Said
  refused : Said
  stored : Said
  stopped : Said
  closed : ℕ → ℕ → List Told → Said
  idle : Said
  victim : List Told → Said
  all_in_use : ℕ → Said
  swept : List Told → Said
  drained : List Told → Said

abbrev pub said_in : BucketReply → Said
said_in (reply.Found run said) = found run said
said_in (reply.Missing ended) = missing (map told (option_to_list ended))
said_in (reply.Made said) = made said
said_in reply.Refused = refused
said_in reply.Stored = stored
said_in reply.Stopped = stopped
said_in (reply.Closed run freed ended) = closed run (length freed) (map told (option_to_list ended))
said_in reply.Idle = idle
said_in (reply.Victim ended) = victim (told ended ∷ [])
said_in (reply.AllInUse count) = all_in_use count
said_in (reply.Swept es) = swept (map told es.items)
said_in (reply.Drained es) = drained (map told es.items)

-- two replies are the same but for the contents of objects and nodes
abbrev pub BucketAlike : BucketReply → BucketReply → Type 0
BucketAlike r q = said_in r ≡ said_in q
