-- A bucket, as clauses name it.
use Rattle.std.specs.Prelude.{◌≡◌, ℕ, ◌<◌, ◌≤◌, List, Option, Some, None, true, length, slice_get, vec_capacity}
use Rattle.suri_base.specs.declared.entry.Entry.{Entry}
use Rattle.suri_base.specs.declared.facts.Facts.{Facts}
use Rattle.bucket_rules.specs.declared.fixed.Fixed.{Fixed}
use Rattle.suri_base.specs.declared.entry.BucketNote.{BucketNote}
use Rattle.bucket_rules.specs.Packets.{bearing}
use Rattle.flow_bucket.specs.declared.bucket.FlowBucket.{FlowBucket}
use Rattle.flow_bucket.specs.declared.calls.BucketCall.{BucketCall}
use Rattle.flow_bucket.specs.declared.calls.BucketCall.TheVariants as call
use Rattle.bucket_flow.specs.Held.{Held, linked_with}
use Rattle.bucket_flow.specs.Flows.{AreUsed, IsVictim}
use Rattle.flow_table.specs.Slots.{Table, filled}
use Rattle.flow_bucket.specs.Stands.{Stands}

-- what no call changes
abbrev pub fixed_of : FlowBucket → Fixed
fixed_of b = record { capture = b.capture.now; layout = b.layout; number = b.number }

abbrev pub BucketStands : FlowBucket → List (Entry BucketNote) → Type 0
BucketStands b past = Stands (fixed_of b) past (filled b.flows.slots)

-- a flow that a frame may join has room for one more use, and the table for that of it, whatever the history is
abbrev pub HasUse : Fixed → ℕ → Table → Type 0
HasUse s f t = (past : List (Entry BucketNote)) → Stands s past (filled t.slots) → (u : Facts) (at : ℕ) (g : Held) → bearing s.capture f ≡ Some u
    → slice_get t.slots at ≡ Some (Some g) → linked_with u.key g ≡ true → (0 < g.room) × (0 < t.joins)

-- all flows may leave
abbrev pub HasEnds : FlowBucket → Type 0
HasEnds b = length (filled b.flows.slots) ≤ vec_capacity b.gone

-- the run that would be evicted, or none where each is used
abbrev pub IsNextVictim : List Held → Option ℕ → Type 0
IsNextVictim flows None = AreUsed flows (length flows)
IsNextVictim flows (Some run) = (at : ℕ) × (v : IsVictim flows (length flows) at) × (run ≡ v.flow.run)

abbrev pub HasRoom : FlowBucket → BucketCall → Type 0
HasRoom b (call.Look f emergency seen) = HasUse (fixed_of b) f b.flows
HasRoom b (call.Make f obj) = (0 < b.flows.begins) × (0 < b.uses.room)
HasRoom b (call.Refuse f) = Unit {0}
HasRoom b (call.Segment f _) = Unit {0}
HasRoom b (call.Close f app) = Unit {0}
HasRoom b (call.Evict f) = Unit {0}
HasRoom b (call.Sweep round emergency seen) = HasEnds b
HasRoom b call.Drain = HasEnds b

-- these calls need no memory
abbrev pub NeedsNoRoom : BucketCall → Type 0
NeedsNoRoom (call.Look f emergency seen) = ⊥
NeedsNoRoom (call.Make f obj) = ⊥
NeedsNoRoom (call.Refuse f) = Unit {0}
NeedsNoRoom (call.Segment f _) = Unit {0}
NeedsNoRoom (call.Close f app) = Unit {0}
NeedsNoRoom (call.Evict f) = Unit {0}
NeedsNoRoom (call.Sweep round emergency seen) = ⊥
NeedsNoRoom call.Drain = ⊥
