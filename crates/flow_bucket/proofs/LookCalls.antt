-- What a look is, against its entry.
use Rattle.std.proofs.Common.{◌≡◌, ℕ, ◌<◌, Bool, true, false, List, slice_get, slice_set, remove, Some, None, refl, sym, ◌∙◌, ap, subst, arith}
use Rattle.suri_base.specs.Capture.{IsCapture}
use Rattle.suri_base.specs.declared.entry.Entry.{Entry}
use Rattle.suri_base.specs.declared.facts.Facts.{Facts}
use Rattle.suri_base.specs.declared.key.Key.{Key}
use Rattle.suri_base.specs.declared.stream.Offer.{Offer}
use Rattle.flow_object.specs.Standing.{StandsFor}
use Rattle.flow_sum.specs.Run.{first_of}
use Rattle.flow_sum.specs.declared.sums.Sums.{Sums}
use Rattle.bucket_rules.specs.declared.fixed.Fixed.{Fixed}
use Rattle.suri_base.specs.declared.entry.BucketNote.{BucketNote}
use Rattle.suri_base.specs.declared.entry.BucketNote.TheVariants as note
use Rattle.bucket_rules.specs.Packets.{bearing}
use Rattle.suri_base.specs.Dealing.{worker_of}
use Rattle.bucket_rules.specs.Row.{row, has, is_none_of, off, offer_of}
use Rattle.bucket_rules.specs.Own.{is_fresh}
use Rattle.bucket_rules.specs.Rule.{MayLook}
use Rattle.bucket_rules.specs.Sound.{IsNewest, IfRun}
use Rattle.flow_bucket.specs.declared.calls.BucketCall.{BucketCall}
use Rattle.flow_bucket.specs.declared.calls.BucketCall.TheVariants as call
use Rattle.flow_bucket.specs.declared.calls.BucketReply.{BucketReply}
use Rattle.flow_bucket.specs.declared.calls.BucketReply.TheVariants as reply
use Rattle.bucket_flow.specs.declared.flow.Cause.{Cause}
use Rattle.bucket_flow.specs.Held.{Held, Joined, cut_at, ended_by, linked_with, off_by, used_by}
use Rattle.flow_bucket.proofs.Doing.{flow_at}
use Rattle.bucket_flow.specs.Flows.{NonePasses}
use Rattle.flow_bucket.specs.Stands.{Stands, Done}
use Rattle.bucket_flow.proofs.Captured.{bearing_number}
use Rattle.flow_bucket.proofs.Knowing.{beside_of, last_same, mine_settled, offer_same}
use Rattle.flow_bucket.proofs.Looking.{Target, target, rule_missing, none_joins, did_none, found_takes, cut_joins, did_off, did_left, did_found, stood}
use Rattle.bucket_rules.proofs.Soundness.{sound}
use Rattle.bucket_rules.proofs.Words.{some_is}

pub done_at : (s : Fixed) (past : List (Entry BucketNote)) (role : ℕ) (a : BucketCall) (r q : BucketReply) (n m : BucketNote) (next : List Held)
    → r ≡ q → n ≡ m → Done s past role a q m next → Done s past role a r n next
done_at s past role a r q n m next e k d = subst (λ (x : BucketReply). Done s past role a x n next) (sym e) (subst (λ (x : BucketNote). Done s past role a q x next) (sym k) d)

module _ (s : Fixed) (past : List (Entry BucketNote)) (flows : List Held) (f : ℕ) (t : Facts) (st : Stands s past flows) (b : bearing s.capture f ≡ Some t) (role : ℕ) (may : MayLook s past role f) where
  pub look_none : (emergency : Bool) (seen : ℕ) → NonePasses (linked_with t.key) flows
      → Done s past role (call.Look f emergency seen) (reply.Missing None) (note.Missing f emergency seen 0) flows
  look_none emergency seen none =
      let did = did_none s past flows f t st b emergency seen 0 none in
      record { rule = rule_missing s past flows f t st b role emergency seen flows None may (none_joins s past flows f t st b emergency none) did; noted = refl; did = did }

  own_packet : may.own.packet ≡ t
  own_packet = some_is may.own.bears b

  worker : role ≡ worker_of t.key s.layout.workers
  worker = may.own.worker ∙ ap (λ (x : Facts). worker_of x.key s.layout.workers) own_packet

  -- the packet comes after the run's last
  pub later : IsCapture s.capture → (g : Held) → Target s past flows f t st b g → t.no ≡ f → g.obj.sums.last_no < t.no
  later is g k n =
      let o = k.flow.object in
      let newest : IsNewest s past o.run = subst (λ (ms : List Facts). IfRun ms (λ u. IsNewest s past u)) o.members ((sound s past st.legal).newest g.run) in
      let key : (first_of o.run).key ≡ t.key = ap (λ (x : Sums). x.key) (sym (beside_of s (row s g.run past) g.obj o).sums) ∙ k.same in
      let mine : role ≡ worker_of (first_of o.run).key s.layout.workers = worker ∙ ap (λ (x : Key). worker_of x s.layout.workers) (sym key) in
      let below = newest.old f (subst (λ (x : ℕ). is_fresh x f past ≡ true) mine may.fresh) in
      let same = bearing_number s.capture newest.frame o.run.newest is newest.bears in
      let last = last_same s (row s g.run past) g.obj o in
      omega (arith, below, same, last, n)

  -- each packet of the run was settled, since the role is the worker of its key
  pub settled : (g : Held) → Target s past flows f t st b g → (row s g.run past).asks ≡ false
  settled g k = mine_settled s past st.workers st.legal role g.run t.key k.key worker may.settled

  pub known : (g : Held) → (k : Target s past flows f t st b g) → StandsFor g.obj s.capture.bytes k.flow.object.run (row s g.run past).judged
  known g k = stood s past flows f t st b false g k (settled g k)

  -- and uses no run yet
  pub unused : t.no ≡ f → NonePasses (used_by t.no) flows
  unused n k g e =
      (flow_at s past flows k g st e).uses t.no ∙ ap (λ (x : ℕ). has (row s g.run past).uses x) n ∙ ((sound s past st.legal).fresh role f may.own may.fresh).unused g.run

  module _ (emergency : Bool) (seen i : ℕ) (g : Held) (e : slice_get flows i ≡ Some g) (passes : linked_with t.key g ≡ true) where
    own : Target s past flows f t st b g
    own = target s past flows f t st b i g e passes

    pub look_found : (run : ℕ) (said : Offer) (h : Held) → cut_at g.obj t emergency ≡ None → t.no ≡ f → Joined s.capture.bytes t said g h
        → run ≡ g.run
        → Done s past role (call.Look f emergency seen) (reply.Found run said) (note.Found f emergency seen run said) (slice_set flows i h)
    look_found run said h cut n j r =
        subst (λ (x : ℕ). Done s past role (call.Look f emergency seen) (reply.Found x said) (note.Found f emergency seen x said) (slice_set flows i h)) (sym r)
        (record {
          rule = (
            may,
            found_takes s past flows f t st b emergency g own cut,
            j.offer own.flow.object.run (row s g.run past).judged (known g own) ∙ offer_same s (row s g.run past) g.obj t own.flow.object ∙ ap (λ (x : Facts). offer_of s (row s g.run past) x) (sym own_packet),
          );
          noted = refl;
          did = did_found s past flows f t st b emergency g own seen i said h e n (settled g own) j;
        })

    -- the run is cut, and stays while it is used
    pub look_off : (d : Cause) → cut_at g.obj t emergency ≡ Some d → is_none_of g.uses ≡ false
        → Done s past role (call.Look f emergency seen) (reply.Missing None) (note.Missing f emergency seen 0) (slice_set flows i (off_by d g))
    look_off d cut used =
        let did = did_off s past flows f t st b emergency g own seen 0 i d e cut used in
        record { rule = rule_missing s past flows f t st b role emergency seen (slice_set flows i (off_by d g)) None may (cut_joins s past flows f t st b emergency g own d cut) did; noted = refl; did = did }

    -- or leaves
    pub look_left : (d : Cause) → cut_at g.obj t emergency ≡ Some d → is_none_of g.uses ≡ true
        → Done s past role (call.Look f emergency seen) (reply.Missing (Some (ended_by (off d.reason d.emergency) g))) (note.Missing f emergency seen g.run) (remove flows i)
    look_left d cut free =
        let y = ended_by (off d.reason d.emergency) g in
        let did = did_left s past flows f t st b emergency g own seen y.run i d e cut free in
        record { rule = rule_missing s past flows f t st b role emergency seen (remove flows i) (Some y) may (cut_joins s past flows f t st b emergency g own d cut) did; noted = refl; did = did }
