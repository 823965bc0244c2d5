-- How many flow objects are out, whether there is an emergency, what a call of the pool answers, and the rules that a pool's history keeps.
use Rattle.std.specs.Prelude.{◌≡◌, ℕ, ◌+◌, ◌-◌, ◌<◌, ◌&&◌, not, Bool, true, false, List, [], ◌∷◌}
use Rattle.suri_base.specs.declared.entry.Entry.{Entry}
use Rattle.suri_base.specs.declared.entry.PoolNote.{PoolNote}
use Rattle.suri_base.specs.declared.entry.PoolNote.TheVariants as note
use Rattle.emergency_mode.specs.Mode.{Mode, ends}
use Rattle.flow_object.specs.Object.{Object, nodes_in}
use Rattle.flow_pool.specs.declared.calls.PoolCall.{PoolCall}
use Rattle.flow_pool.specs.declared.calls.PoolCall.TheVariants as call
use Rattle.flow_pool.specs.declared.calls.PoolReply.{PoolReply}
use Rattle.flow_pool.specs.declared.calls.PoolReply.TheVariants as reply
use Rattle.flow_pool.specs.declared.calls.PoolSetting.{PoolSetting}

-- the objects out after one more entry: one more for one taken, one fewer for one that came back, never below 0
abbrev pub flows_out_after : ℕ → PoolNote → ℕ
flows_out_after out (note.Took frame) = out + 1
flows_out_after out (note.Put run) = out - 1
flows_out_after out said = out

abbrev pub flows_out : List (Entry PoolNote) → ℕ
flows_out [] = 0
flows_out (e ∷ past) = flows_out_after (flows_out past) e.note

-- an emergency begins where no object is left, and is over after the round that ended it
abbrev pub is_on_after : Bool → PoolNote → Bool
is_on_after on (note.Full frame out limit) = true
is_on_after on (note.Over round ended) = on && not ended
is_on_after on said = on

-- there is an emergency where the newest entry that is a Full, or a round that ended one, is a Full
abbrev pub is_on : List (Entry PoolNote) → Bool
is_on [] = false
is_on (e ∷ past) = is_on_after (is_on past) e.note

-- the mode of a pool, on or off
abbrev pub mode_of : PoolSetting → Bool → Mode
mode_of s on = record { memcap = s.memcap; recovery = s.recovery; on = on }

-- an object that the pool may keep: it has no node, and the pool's depth
abbrev pub IsIdle : PoolSetting → Object → Type 0
IsIdle s o = (nodes_in o ≡ 0) × (o.depth ≡ s.depth)

-- an object that is handed in is one that the pool may keep
abbrev pub MayCall : PoolSetting → PoolCall → Type 0
MayCall s (call.Take frame) = Unit {0}
MayCall s (call.Put run obj) = IsIdle s obj.value
MayCall s (call.Turn run frame obj) = IsIdle s obj.value
MayCall s call.Mode = Unit {0}
MayCall s (call.Over round) = Unit {0}

-- the reply and the note of a call, where so many objects are out and the mode is on or off
abbrev pub Answered : PoolSetting → ℕ → Bool → PoolCall → PoolReply → PoolNote → Type 0
Answered s out on (call.Take frame) (reply.Obj o) said = (out < s.memcap) × IsIdle s o.value × (said ≡ note.Took frame)
Answered s out on (call.Take frame) (reply.Full m l) said = (out ≡ s.memcap) × (m ≡ s.memcap) × (l ≡ s.memcap) × (said ≡ note.Full frame s.memcap s.memcap)
Answered s out on (call.Put run obj) reply.Done said = said ≡ note.Put run
Answered s out on (call.Turn run frame obj) (reply.Turned o) said = (o.value ≡ obj.value) × IsIdle s o.value × (said ≡ note.Turn run frame)
Answered s out on call.Mode (reply.On b) said = (b ≡ on) × (said ≡ note.Mode on)
Answered s out on (call.Over round) (reply.Ended b) said = (b ≡ ends (mode_of s on) out) × (said ≡ note.Over round b)
Answered s out on c r said = ⊥

-- two replies are the same but for what is in an object
abbrev pub AreAlike : PoolReply → PoolReply → Type 0
AreAlike (reply.Obj o) (reply.Obj p) = Unit {0}
AreAlike (reply.Full m l) (reply.Full n k) = (m ≡ n) × (l ≡ k)
AreAlike reply.Done reply.Done = Unit {0}
AreAlike (reply.Turned o) (reply.Turned p) = Unit {0}
AreAlike (reply.On a) (reply.On b) = a ≡ b
AreAlike (reply.Ended a) (reply.Ended b) = a ≡ b
AreAlike r s = ⊥

-- a note as it must be where so many objects are out and the mode is on or off: an object is taken exactly where fewer than memcap are out
abbrev pub StandsAt : PoolSetting → ℕ → Bool → PoolNote → Type 0
StandsAt s out on (note.Took frame) = out < s.memcap
StandsAt s out on (note.Full frame n l) = (out ≡ s.memcap) × (n ≡ s.memcap) × (l ≡ s.memcap)
StandsAt s out on (note.Mode told) = told ≡ on
StandsAt s out on (note.Over round ended) = ended ≡ ends (mode_of s on) out
StandsAt s out on said = Unit {0}

-- each entry is as it must be after the entries before it
abbrev pub FlowPoolRules : PoolSetting → List (Entry PoolNote) → Type 0
FlowPoolRules s [] = Unit {0}
FlowPoolRules s (e ∷ past) = StandsAt s (flows_out past) (is_on past) e.note × FlowPoolRules s past
