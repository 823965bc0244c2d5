-- Calls that change a slot of the table, against their entries.
use Rattle.std.proofs.Common.{◌≡◌, ℕ, Bool, true, false, List, length, slice_get, slice_set, remove, Option, Some, None, IfSome, IfNone, refl, sym, ◌∙◌, ap, subst}
use Rattle.std.specs.Prelude.{Box}
use Rattle.std.specs.declared.alloc.Global.{Global}
use Rattle.suri_base.specs.Linked.{Linked}
use Rattle.suri_base.specs.Node.{Node}
use Rattle.suri_base.specs.declared.app.App.{App}
use Rattle.suri_base.specs.declared.entry.Entry.{Entry}
use Rattle.suri_base.specs.declared.entry.BucketNote.{BucketNote}
use Rattle.suri_base.specs.declared.entry.BucketNote.TheVariants as note
use Rattle.suri_base.specs.declared.facts.Facts.{Facts}
use Rattle.suri_base.specs.declared.reason.Reason.TheVariants.{Forced}
use Rattle.suri_base.specs.declared.stream.Offer.{Offer}
use Rattle.flow_object.specs.Ending.{EndedFlow}
use Rattle.bucket_rules.specs.declared.fixed.Fixed.{Fixed}
use Rattle.bucket_rules.specs.Packets.{bearing}
use Rattle.bucket_rules.specs.Row.{is_none_of, off}
use Rattle.bucket_rules.specs.Own.{owes}
use Rattle.bucket_rules.specs.Rule.{MayClose, MayEvict, MayLook}
use Rattle.bucket_rules.proofs.Words.{some_is}
use Rattle.bucket_flow.specs.declared.flow.Cause.{Cause}
use Rattle.bucket_flow.specs.Held.{Held, Closed, IsMade, Joined, Settled, cut_at, ended_by, gone_by, linked_with, off_by, used_by}
use Rattle.bucket_flow.specs.Flows.{IsVictim}
use Rattle.flow_table.specs.Slots.{HasBegun, HasLeft, IsChanged, SlotPasses, filled, rank}
use Rattle.flow_table.proofs.Places.{set_set}
use Rattle.flow_table.proofs.Slots.{changed_there, cut_is, cut_rank, get_rank, one_in, set_is, set_rank}
use Rattle.flow_bucket.specs.declared.calls.BucketCall.TheVariants as call
use Rattle.flow_bucket.specs.declared.calls.BucketReply.TheVariants as reply
use Rattle.flow_bucket.specs.Stands.{Done, MayMake, MaySettle, Stands, run_of}
use Rattle.flow_bucket.proofs.Closing.{close_leaves, close_stays, make_done, stopped_done, stored_done}
use Rattle.flow_bucket.proofs.Ending.{evict_some}
use Rattle.flow_bucket.proofs.LookCalls.{look_found, look_left, look_off}

module _ (s : Fixed) (past : List (Entry BucketNote)) (slots next : List (Option Held)) (st : Stands s past (filled slots)) (role f : ℕ) where
  pub begin_done : (t : Facts) (said : Offer) (obj : Box _ Global) → MayMake s past role f obj.value → bearing s.capture f ≡ Some t → t.no ≡ f
      → HasBegun (λ g. IsMade s.capture.bytes t obj.value.depth said g) slots next → Done s past role (call.Make f obj) (reply.Made said) (note.Made f said) (filled next)
  begin_done t said obj may b n k =
      subst (λ (l : List Held). Done s past role (call.Make f obj) (reply.Made said) (note.Made f said) l) (sym k.comes)
      (make_done s past (filled slots) st role f t said obj k.flow k.place k.within may b n k.holds)

  pub evict_done : (i : ℕ) (e : EndedFlow) → MayEvict s past role → IsVictim (filled slots) (length (filled slots)) (rank slots i) → HasLeft (off Forced false) slots i next e
      → Done s past role (call.Evict f) (reply.Victim e) (note.Victim f e.run) (filled next)
  evict_done i e may v k =
      let same : k.flow ≡ v.flow = some_is (get_rank slots i k.flow k.there) v.there in
      subst (λ (l : List Held). Done s past role (call.Evict f) (reply.Victim e) (note.Victim f e.run) l) (sym (cut_is slots i next e k))
      (evict_some s past role f (filled slots) (rank slots i) e st may v (k.ended ∙ ap (λ (g : Held). ended_by (off Forced false) g) same))

  -- the flow that the frame uses
  module _ (i : ℕ) (u : SlotPasses (used_by f) slots i) where
    place : slice_get (filled slots) (rank slots i) ≡ Some u.flow
    place = get_rank slots i u.flow u.there

    pub settle_stored : (node : Box Linked Global) → owes role past ≡ Some f → MaySettle past role f (Some node)
        → IsChanged (λ g h. (bytes : List ℕ) → Settled bytes true g h) slots i next → Done s past role (call.Segment f (Some node)) reply.Stored (note.Stored f) (filled next)
    settle_stored node owed may k =
        let same : k.flow ≡ u.flow = one_in slots i k.flow u.flow k.there u.there in
        subst (λ (l : List Held). Done s past role (call.Segment f (Some node)) reply.Stored (note.Stored f) l) (sym (set_is slots i next k))
        (stored_done s past (filled slots) st f (rank slots i) u.flow k.now place u.passes role owed node may (subst (λ (g : Held). Settled s.capture.bytes true g k.now) same (k.did s.capture.bytes)))

    pub settle_stopped : owes role past ≡ Some f → MaySettle past role f None
        → IsChanged (λ g h. (bytes : List ℕ) → Settled bytes false g h) slots i next → Done s past role (call.Segment f None) reply.Stopped (note.Stopped f) (filled next)
    settle_stopped owed may k =
        let same : k.flow ≡ u.flow = one_in slots i k.flow u.flow k.there u.there in
        subst (λ (l : List Held). Done s past role (call.Segment f None) reply.Stopped (note.Stopped f) l) (sym (set_is slots i next k))
        (stopped_done s past (filled slots) st f (rank slots i) u.flow k.now place u.passes role owed may (subst (λ (g : Held). Settled s.capture.bytes false g k.now) same (k.did s.capture.bytes)))

    -- its close, after which it is read again
    module _ (app : App) (nodes : List Node) (may : MayClose past role f) (k : IsChanged (λ g h. Closed f app (length nodes) g h) slots i next) (run : ℕ) (first : Held) (read : slice_get slots i ≡ Some (Some first)) (named : run ≡ first.run)
        (h : Held) (again : slice_get next i ≡ Some (Some h)) where
      now_is : k.now ≡ h
      now_is = one_in next i k.now h (changed_there slots i next k) again

      closed_is : Closed f app (length nodes) u.flow h
      closed_is = subst (λ (x : Held). Closed f app (length nodes) u.flow x) now_is (subst (λ (g : Held). Closed f app (length nodes) g k.now) (one_in slots i k.flow u.flow k.there u.there) k.did)

      run_is : run ≡ u.flow.run
      run_is = named ∙ ap (λ (x : Held). x.run) (one_in slots i first u.flow read u.there)

      pub slot_stays : gone_by h ≡ None → Done s past role (call.Close f app) (reply.Closed run nodes None) (note.Closed f app run (length nodes) false) (filled next)
      slot_stays gone =
          subst (λ (r : ℕ). Done s past role (call.Close f app) (reply.Closed r nodes None) (note.Closed f app r (length nodes) false) (filled next)) (sym run_is)
          (subst (λ (l : List Held). Done s past role (call.Close f app) (reply.Closed u.flow.run nodes None) (note.Closed f app u.flow.run (length nodes) false) l) (sym (set_is slots i next k ∙ ap (λ (x : Held). slice_set (filled slots) (rank slots i) x) now_is))
          (close_stays s past (filled slots) st f (rank slots i) u.flow h place u.passes role app may (length nodes) closed_is nodes refl gone))

      pub slot_leaves : (d : Cause) (last : List (Option Held)) (e : EndedFlow) → gone_by h ≡ Some d → HasLeft (off d.reason d.emergency) next i last e
          → Done s past role (call.Close f app) (reply.Closed run nodes (Some e)) (note.Closed f app run (length nodes) true) (filled last)
      slot_leaves d last e gone left =
          let ended : e ≡ ended_by (off d.reason d.emergency) h = left.ended ∙ ap (λ (x : Held). ended_by (off d.reason d.emergency) x) (one_in next i left.flow h left.there again) in
          let cut : filled last ≡ remove (filled slots) (rank slots i)
          = ap (λ (l : List (Option Held)). filled l) (left.cut ∙ ap (λ (l : List (Option Held)). slice_set l i None) k.set ∙ set_set slots i (Some k.now) None) ∙ cut_rank slots i u.flow u.there in
          subst (λ (x : EndedFlow). Done s past role (call.Close f app) (reply.Closed run nodes (Some x)) (note.Closed f app run (length nodes) true) (filled last)) (sym ended)
          (subst (λ (r : ℕ). Done s past role (call.Close f app) (reply.Closed r nodes (Some (ended_by (off d.reason d.emergency) h))) (note.Closed f app r (length nodes) true) (filled last)) (sym run_is)
          (subst (λ (l : List Held). Done s past role (call.Close f app) (reply.Closed u.flow.run nodes (Some (ended_by (off d.reason d.emergency) h))) (note.Closed f app u.flow.run (length nodes) true) l) (sym cut)
          (close_leaves s past (filled slots) st f (rank slots i) u.flow h place u.passes role app may (length nodes) closed_is nodes refl d gone)))

  -- the flow that a look finds
  module _ (t : Facts) (b : bearing s.capture f ≡ Some t) (may : MayLook s past role f) (emergency : Bool) (seen i : ℕ) (u : SlotPasses (linked_with t.key) slots i) where
    pub join_done : (run : ℕ) (said : Offer) → cut_at u.flow.obj t emergency ≡ None → t.no ≡ f → IsChanged (λ g h. Joined s.capture.bytes t said g h) slots i next → run ≡ u.flow.run
        → Done s past role (call.Look f emergency seen) (reply.Found run said) (note.Found f emergency seen run said) (filled next)
    join_done run said cut n k r =
        subst (λ (l : List Held). Done s past role (call.Look f emergency seen) (reply.Found run said) (note.Found f emergency seen run said) l) (sym (set_is slots i next k))
        (look_found s past (filled slots) f t st b role may emergency seen (rank slots i) u.flow (get_rank slots i u.flow u.there) u.passes run said k.now cut n
        (subst (λ (g : Held). Joined s.capture.bytes t said g k.now) (one_in slots i k.flow u.flow k.there u.there) k.did) r)

    pub cut_done : (d : Cause) (ended : Option EndedFlow) → cut_at u.flow.obj t emergency ≡ Some d
        → IfSome ended (λ x. (y : Held) → slice_get slots i ≡ Some (Some y) → (is_none_of y.uses ≡ true) × (x ≡ ended_by (off d.reason d.emergency) y) × (next ≡ slice_set slots i None))
        → IfNone ended ((y : Held) → slice_get slots i ≡ Some (Some y) → (is_none_of y.uses ≡ false) × (next ≡ slice_set slots i (Some (off_by d y))))
        → Done s past role (call.Look f emergency seen) (reply.Missing ended) (note.Missing f emergency seen (run_of ended)) (filled next)
    cut_done d None cut some none =
        let k = none u.flow u.there in
        subst (λ (l : List Held). Done s past role (call.Look f emergency seen) (reply.Missing None) (note.Missing f emergency seen 0) l)
        (sym (ap (λ (l : List (Option Held)). filled l) k.1 ∙ set_rank slots i u.flow (off_by d u.flow) u.there))
        (look_off s past (filled slots) f t st b role may emergency seen (rank slots i) u.flow (get_rank slots i u.flow u.there) u.passes d cut k.0)
    cut_done d (Some x) cut some none =
        let k = some u.flow u.there in
        subst (λ (z : EndedFlow). Done s past role (call.Look f emergency seen) (reply.Missing (Some z)) (note.Missing f emergency seen z.run) (filled next)) (sym k.1)
        (subst (λ (l : List Held). Done s past role (call.Look f emergency seen) (reply.Missing (Some (ended_by (off d.reason d.emergency) u.flow))) (note.Missing f emergency seen u.flow.run) l)
        (sym (ap (λ (l : List (Option Held)). filled l) k.2 ∙ cut_rank slots i u.flow u.there))
        (look_left s past (filled slots) f t st b role may emergency seen (rank slots i) u.flow (get_rank slots i u.flow u.there) u.passes d cut k.0))
