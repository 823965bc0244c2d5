-- A flow that is taken out is one that no frame uses; and before a sweep each flow stays.
use Rattle.std.proofs.Common.{◌≡◌, ℕ, Bool, true, false, cond, List, Option, Some, None, refl, slice_get, sym, ◌∙◌, ap}
use Rattle.std.proofs.lemmas.Option.{same_Some}
use Rattle.suri_base.specs.declared.entry.Entry.{Entry}
use Rattle.suri_base.specs.declared.entry.BucketNote.{BucketNote}
use Rattle.bucket_rules.specs.declared.fixed.Fixed.{Fixed}
use Rattle.bucket_rules.specs.Row.{is_linked, is_none_of, row}
use Rattle.bucket_flow.specs.Held.{Held, gone_by, gone_place, is_unused_held}
use Rattle.bucket_flow.specs.declared.flow.Cause.{Cause}
use Rattle.flow_table.specs.Slots.{IsVictimSlot, NoneLeaves, SlotHolds, filled, rank}
use Rattle.flow_table.proofs.Slots.{get_rank}
use Rattle.flow_bucket.specs.Stands.{IsFlow, Stands}
use Rattle.flow_bucket.proofs.Doing.{flow_at}
use Rattle.flow_bucket.proofs.Looking.{and_split}
use Rattle.flow_bucket.proofs.Parting.{kept_stays, none_alike}

abbrev pub IsFree : Held → Type 0
IsFree f = is_none_of f.uses ≡ true

pub gone_free : (f : Held) (d : Cause) → gone_by f ≡ Some d → IsFree f
gone_free f d = by (is_none_of f.uses)
  where
    by : (b : Bool) → cond b (gone_place f.place) None ≡ Some d → b ≡ true
    by true e = refl
    by false e = cc

pub victim_free : (slots : List (Option Held)) (at : ℕ) → IsVictimSlot slots (Some at) → SlotHolds IsFree slots at
victim_free slots at h =
    let g = h.0.0 in
    let same : h.1.flow ≡ g = same_Some h.1.flow g (sym h.1.there ∙ get_rank slots at g h.0.1) in
    record { flow = g; there = h.0.1; holds = (and_split (is_linked g.place) (is_none_of g.uses) (ap is_unused_held (sym same) ∙ h.1.unused)).1 }

-- a flow in the bucket is linked or used, as its row says
pub none_leaves : (s : Fixed) (past : List (Entry BucketNote)) (slots : List (Option Held)) → Stands s past (filled slots) → NoneLeaves slots
none_leaves s past slots st = λ i f there.
    let k : IsFlow s (row s f.run past) f = flow_at s past (filled slots) (rank slots i) f st (get_rank slots i f there) in
    kept_stays (row s f.run past) f k.place (none_alike f.uses (row s f.run past).uses k.uses) k.here
