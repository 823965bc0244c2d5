-- How many nodes are out, what a call of the pool answers, and the rules of counting that a pool's history keeps.
use Rattle.std.specs.Prelude.{◌≡◌, ℕ, ◌+◌, ◌-◌, ◌<◌, ◌^◌, List, [], ◌∷◌, length}
use Rattle.suri_base.specs.Chain.{IsAlone}
use Rattle.suri_base.specs.declared.entry.Entry.{Entry}
use Rattle.suri_base.specs.declared.entry.SegNote.{SegNote}
use Rattle.suri_base.specs.declared.entry.SegNote.TheVariants as note
use Rattle.segment_pool.specs.declared.calls.SegCall.{SegCall}
use Rattle.segment_pool.specs.declared.calls.SegCall.TheVariants as call
use Rattle.segment_pool.specs.declared.calls.SegReply.{SegReply}
use Rattle.segment_pool.specs.declared.calls.SegReply.TheVariants as reply

-- the nodes out after one more entry: one more for a node taken, and fewer by those given, never below 0
abbrev pub out_after : ℕ → SegNote → ℕ
out_after out (note.Took frame) = out + 1
out_after out (note.Full frame n limit) = out
out_after out (note.Gave count) = out - count

-- the nodes out after this history: those taken less those kept when they were given
abbrev pub out_of : List (Entry SegNote) → ℕ
out_of [] = 0
out_of (e ∷ past) = out_after (out_of past) e.note

-- a chain that is given has a length that a note can hold
abbrev pub MayCall : SegCall → Type 0
MayCall (call.Take frame) = Unit {0}
MayCall (call.Give nodes) = length nodes < 2 ^ 32

-- the reply and the note of a call, where so many nodes are out
abbrev pub Answered : ℕ → ℕ → SegCall → SegReply → SegNote → Type 0
Answered limit out (call.Take frame) (reply.Node n) said = (out < limit) × IsAlone n.value × (said ≡ note.Took frame)
Answered limit out (call.Take frame) (reply.Full m l) said = (out ≡ limit) × (m ≡ limit) × (l ≡ limit) × (said ≡ note.Full frame limit limit)
Answered limit out (call.Give nodes) reply.Gave said = said ≡ note.Gave (length nodes)
Answered limit out c r said = ⊥

-- two replies are the same but for what is in a node
abbrev pub AreAlike : SegReply → SegReply → Type 0
AreAlike (reply.Node n) (reply.Node m) = Unit {0}
AreAlike (reply.Full m l) (reply.Full n k) = (m ≡ n) × (l ≡ k)
AreAlike reply.Gave reply.Gave = Unit {0}
AreAlike r s = ⊥

-- a note as it must be where so many nodes are out: a node is taken exactly where fewer than the limit are out
abbrev pub StandsAt : ℕ → ℕ → SegNote → Type 0
StandsAt limit out (note.Took frame) = out < limit
StandsAt limit out (note.Full frame n l) = (out ≡ limit) × (n ≡ limit) × (l ≡ limit)
StandsAt limit out (note.Gave count) = Unit {0}

-- each entry is as it must be after the entries before it
abbrev pub KeepsRules : ℕ → List (Entry SegNote) → Type 0
KeepsRules limit [] = Unit {0}
KeepsRules limit (e ∷ past) = StandsAt limit (out_of past) e.note × KeepsRules limit past
