-- First packets and closes, against their entries.
use Rattle.std.proofs.Common.{◌≡◌, ℕ, ◌==◌, ◌-◌, ◌≤◌, Bool, true, false, not, cond, ◌&&◌, ◌||◌, List, [], ◌∷◌, length, slice_get, slice_set, insert, remove, Option, Some, None, ⊎_elim, refl, sym, ◌∙◌, ap, subst, arith, eq-eqb}
use Rattle.std.specs.Prelude.{Box, ◌+◌}
use Rattle.std.specs.declared.alloc.Global.{Global}
use Rattle.suri_base.specs.App.{payload_of}
use Rattle.suri_base.specs.Dealing.{worker_of}
use Rattle.suri_base.specs.Node.{Node}
use Rattle.suri_base.specs.declared.app.App.{App}
use Rattle.suri_base.specs.declared.entry.Entry.{Entry}
use Rattle.suri_base.specs.declared.facts.Facts.{Facts}
use Rattle.suri_base.specs.Linked.{Linked}
use Rattle.suri_base.specs.declared.stream.Offer.{Offer}
use Rattle.reassembly.specs.Kept.{waiting_among}
use Rattle.segment_tree.specs.declared.spot.Spot.{Spot}
use Rattle.flow_sum.specs.Run.{alone}
use Rattle.flow_object.specs.Object.{Stops, no_stops, nodes_in, stops_in}
use Rattle.flow_object.specs.Standing.{AsksFor, StandsFor, stopped_at_newest}
use Rattle.flow_object.specs.Streams.{first_offer, to_client, to_server}
use Rattle.bucket_rules.specs.declared.fixed.Fixed.{Fixed}
use Rattle.suri_base.specs.declared.entry.BucketNote.{BucketNote}
use Rattle.suri_base.specs.declared.entry.BucketNote.TheVariants as note
use Rattle.bucket_rules.specs.Packets.{bearing, has_key}
use Rattle.bucket_rules.specs.Row.{Row, Place, unbegun, linked, detached, off, blank, row, after, has, without, is_here, is_linked, is_none_of, is_begun, offer_of, waiting_of, with_packet}
use Rattle.bucket_rules.specs.Own.{awaits, is_needing, owes}
use Rattle.bucket_rules.specs.Rule.{MayClose}
use Rattle.bucket_rules.specs.Sound.{IsOwing, IsOpened, IsUse, IsWait}
use Rattle.bucket_rules.specs.Streams.{stops_after, waiting_after}
use Rattle.bucket_rules.proofs.Words.{cond_other, cond_this, none_some, some_is}
use Rattle.flow_uses.proofs.Sets.{has-without}
use Rattle.flow_bucket.specs.declared.calls.BucketCall.TheVariants as call
use Rattle.flow_bucket.specs.declared.calls.BucketReply.TheVariants as reply
use Rattle.bucket_flow.specs.declared.flow.Cause.{Cause}
use Rattle.suri_base.specs.Keys.{same_key}
use Rattle.flow_table.specs.Slots.{IsNewRun}
use Rattle.bucket_flow.specs.Held.{Held, linked_with, IsMade, Closed, Settled, StandsIf, gone_by, gone_place, ended_by, used_by, cause}
use Rattle.bucket_flow.specs.Flows.{NonePasses, find_in}
use Rattle.flow_bucket.specs.LetGo.{IsObject, IsEnded}
use Rattle.flow_bucket.specs.Stands.{IsFlow, IsHeld, MaySettle, Stands, Did, Done, MayMake}
use Rattle.bucket_flow.proofs.FlowMap.{place_of_run}
use Rattle.flow_bucket.proofs.Knowing.{beside_of, first_settled, key_same, mine_settled}
use Rattle.bucket_rules.proofs.Soundness.{sound}
use Rattle.flow_bucket.proofs.Doing.{flow_at, did_same, did_set, did_remove, did_insert, away_none}
use Rattle.flow_bucket.proofs.Parting.{none_alike}

pub may_owes : (past : List (Entry BucketNote)) (role f : ℕ) (node : Option (Box Linked Global)) → MaySettle past role f node
    → owes role past ≡ Some f
may_owes past role f None may = may
may_owes past role f (Some node) may = may.0

module _ (s : Fixed) (past : List (Entry BucketNote)) (flows : List Held) (st : Stands s past flows) where
  pub refuse_done : (role f : ℕ) → awaits role f past ≡ true → Done s past role (call.Refuse f) reply.Refused (note.Refused f) flows
  refuse_done role f w = record { rule = w; noted = refl; did = did_same s past (note.Refused f) flows st (λ a. refl) }

  -- the first packet of a run
  made_row : (f : ℕ) (t : Facts) (said : Offer) → bearing s.capture f ≡ Some t → after s f (note.Made f said) (row s f past)
      ≡ record { place = linked; members = t ∷ []; uses = f ∷ []; judged = []; asks = is_needing said; stops = no_stops; held = 0 }
  made_row f t said b = cond_this f (record { place = linked; members = with_packet (bearing s.capture f) []; uses = f ∷ []; judged = []; asks = is_needing said; stops = no_stops; held = 0 }) (row s f past)
      ∙ ap (λ (o : Option Facts). record { place = linked; members = with_packet o []; uses = f ∷ []; judged = []; asks = is_needing said; stops = no_stops; held = 0 }) b

  -- its frame bears a flow
  pub made_bears : (role f : ℕ) → awaits role f past ≡ true → bearing s.capture f ≡ None → ⊥
  made_bears role f may none = none_some none ((sound s past st.legal).waits role f may).own.bears

  pub make_done : (role f : ℕ) (t : Facts) (said : Offer) (obj : Box _ Global) (h : Held) (place : ℕ) → place ≤ length flows → MayMake s past role f obj.value
      → bearing s.capture f ≡ Some t → t.no ≡ f → IsMade s.capture.bytes t obj.value.depth said h
      → Done s past role (call.Make f obj) (reply.Made said) (note.Made f said) (insert flows place h)
  make_done role f t said obj h place within may b n m =
      let snd = sound s past st.legal in
      let w = snd.waits role f may.0 in
      let run : h.run ≡ f = m.run ∙ n in
      let none : row s f past ≡ blank = snd.begun f w.new.unmade in
      let payload = payload_of s.capture.bytes t in
      let answer : said ≡ first_offer s.layout.depth t.pay_at payload t = m.offer ∙ ap (λ (d : ℕ). first_offer d t.pay_at payload t) may.2 in
      let needs : false ≡ is_needing said = sym (ap is_needing answer ∙ first_settled s.layout.depth t.pay_at payload t) in
      record {
        rule = (may.0, λ u e. answer ∙ first_alike u (some_is b e) ∙ ap (λ (v : Row). offer_of s v u) (sym none));
        noted = refl;
        did = did_insert s past (note.Made f said) flows place h st within
            (subst (λ (x : ℕ). is_here (row s x past) ≡ false) (sym run) (ap is_here none))
            (subst (λ (x : ℕ). IsFlow s (after s x (note.Made f said) (row s x past)) h) (sym run)
            (subst (λ (v : Row). IsFlow s v h) (sym (made_row f t said b))
            (record {
              place = m.place;
              begun = ap is_begun m.place;
              uses = λ u. m.uses u ∙ ap (λ (x : ℕ). (x == u) || false) n;
              object = record {
                run = alone t;
                members = refl;
                depth = m.depth ∙ may.2;
                stops = m.stops;
                nodes = m.nodes;
                stands = subst (λ (x : Bool). StandsIf x h.obj s.capture.bytes (alone t) []) needs m.object;
              };
              here = refl;
            })))
            (λ a ne. cond_other f a _ (row s a past) (λ e. ne (run ∙ e)));
      }
    where
      first_alike : (u : Facts) → t ≡ u → first_offer s.layout.depth t.pay_at (payload_of s.capture.bytes t) t ≡ offer_of s blank u
      first_alike u e = ap (λ (x : Facts). first_offer s.layout.depth x.pay_at (payload_of s.capture.bytes x) x) e

  -- the run that it begins is a new one
  module _ (role f : ℕ) (t : Facts) (may : awaits role f past ≡ true) (b : bearing s.capture f ≡ Some t) (n : t.no ≡ f) where
    waits : IsWait s past role f
    waits = (sound s past st.legal).waits role f may

    packet_same : waits.own.packet ≡ t
    packet_same = some_is waits.own.bears b

    no_key : NonePasses (linked_with t.key) flows
    no_key k g e = by (is_linked g.place) (same_key g.obj.sums.key t.key) refl refl
      where
        flow : IsFlow s (row s g.run past) g
        flow = flow_at s past flows k g st e

        by : (l m : Bool) → is_linked g.place ≡ l → same_key g.obj.sums.key t.key ≡ m → (is_linked g.place && same_key g.obj.sums.key t.key) ≡ false
        by false m u v = ap (λ (x : Bool). x && same_key g.obj.sums.key t.key) u
        by true false u v = ap (λ (x : Bool). x && same_key g.obj.sums.key t.key) u ∙ v
        by true true u v =
            let p = waits.none g.run (ap is_linked (sym flow.place) ∙ u) in
            let q : has_key (row s g.run past).members waits.own.packet.key ≡ true = ap (λ (x : Facts). has_key (row s g.run past).members x.key) packet_same ∙ key_same s (row s g.run past) g.obj t.key flow.object ∙ v in cc

    no_use : NonePasses (used_by t.no) flows
    no_use k g e =
        let flow : IsFlow s (row s g.run past) g = flow_at s past flows k g st e in
        flow.uses t.no ∙ ap (λ (x : ℕ). has (row s g.run past).uses x) n ∙ waits.new.unused g.run

    pub new_run : IsNewRun t flows
    new_run = record {
      key = no_key;
      run = away_none s past flows t.no st (ap (λ (x : ℕ). is_here (row s x past)) n ∙ ap is_here ((sound s past st.legal).begun f waits.new.unmade));
      unused = no_use;
    }

  -- no flow is used by the frame
  module _ (f : ℕ) (none : NonePasses (used_by f) flows) where
    used_here : (us : List ℕ) → has us f ≡ true → is_none_of us ≡ false
    used_here [] h = cc
    used_here (u ∷ us) h = refl

    or_not : (p q : Bool) → q ≡ false → (p || not q) ≡ true
    or_not true q e = refl
    or_not false q e = ap not e

    nobody : (a : ℕ) → has (row s a past).uses f ≡ true → ⊥
    nobody a h = by (find_in flows a) refl (st.held a)
      where
        by : (o : Option Held) → find_in flows a ≡ o → IsHeld s (row s a past) o → ⊥
        by None e k = let m : is_here (row s a past) ≡ true = or_not (is_linked (row s a past).place) (is_none_of (row s a past).uses) (used_here (row s a past).uses h) in let n : is_here (row s a past) ≡ false = k in cc
        by (Some g) e k =
            let p = place_of_run flows a g e in
            let m = none p.0 g p.1 in
            let n = k.uses f ∙ h in cc

    pub close_idle : (role : ℕ) (app : App) → MayClose past role f → Done s past role (call.Close f app) reply.Idle (note.Idle f app) flows
    close_idle role app may = record {
      rule = (may, ⊎_elim (λ h. h) (λ h. absurd (nobody h.0 h.1)) ((sound s past st.legal).opened role f may.answered).answered);
      noted = refl;
      did = did_same s past (note.Idle f app) flows st (λ a. refl);
    }

    -- whose offer has to be settled uses one
    pub unsettled : (role : ℕ) (node : Option (Box Linked Global)) → MaySettle past role f node → ⊥
    unsettled role node may =
        let o : IsOwing s past role f = (sound s past st.legal).owing role f (may_owes past role f node may) in
        nobody o.run o.uses

  -- the flow that the frame uses
  module _ (f i : ℕ) (g h : Held) (e : slice_get flows i ≡ Some g) (passes : used_by f g ≡ true) where
    pub own : IsFlow s (row s g.run past) g
    own = flow_at s past flows i g st e

    uses_it : has (row s g.run past).uses f ≡ true
    uses_it = sym (own.uses f) ∙ passes

    use_of : IsUse s past g.run f
    use_of = (sound s past st.legal).uses g.run f uses_it

    -- the newest packet, which the role has to settle
    module _ (role : ℕ) (owed : owes role past ≡ Some f) where
      debt : IsOwing s past role f
      debt = (sound s past st.legal).owing role f owed

      run_is : g.run ≡ debt.run
      run_is = use_of.only debt.run debt.uses

      asks_it : (row s g.run past).asks ≡ true
      asks_it = subst (λ (a : ℕ). (row s a past).asks ≡ true) (sym run_is) debt.asks

      newest_it : (row s g.run past).members ≡ debt.own.packet ∷ debt.older
      newest_it = subst (λ (a : ℕ). (row s a past).members ≡ debt.own.packet ∷ debt.older) (sym run_is) debt.newest

      pub asks_for : AsksFor g.obj s.capture.bytes own.object.run (row s g.run past).judged
      asks_for = subst (λ (x : Bool). StandsIf x g.obj s.capture.bytes own.object.run (row s g.run past).judged) asks_it own.object.stands

      unused_else : (a : ℕ) → (g.run ≡ a → ⊥) → has (row s a past).uses f ≡ false
      unused_else a ne = by (has (row s a past).uses f) refl
        where
          by : (b : Bool) → has (row s a past).uses f ≡ b → b ≡ false
          by false m = refl
          by true m = absurd (ne (use_of.only a m))

      uses_kept : (stored : Bool) → Settled s.capture.bytes stored g h → (u : ℕ) → has h.uses u ≡ has (row s g.run past).uses u
      uses_kept stored k u = ap (λ (us : List ℕ). has us u) k.uses ∙ own.uses u

      pub stored_done : (node : Box Linked Global) → MaySettle past role f (Some node) → Settled s.capture.bytes true g h
          → Done s past role (call.Segment f (Some node)) reply.Stored (note.Stored f) (slice_set flows i h)
      stored_done node may k =
          let w = row s g.run past in
          let o = own.object in
          let now : after s g.run (note.Stored f) w ≡ record w { asks = false; held = w.held + 1 } = ap (λ (b : Bool). cond b (record w { asks = false; held = w.held + 1 }) w) uses_it in
          record {
            rule = owed;
            noted = refl;
            did = did_set s past (note.Stored f) flows i g h st e k.run
                (subst (λ (v : Row). IsFlow s v h) (sym now)
                (record {
                  place = k.place ∙ own.place;
                  begun = ap is_begun k.place ∙ own.begun;
                  uses = uses_kept true k;
                  object = record {
                    run = o.run;
                    members = o.members;
                    depth = k.depth ∙ o.depth;
                    stops = k.stops o.run w.judged asks_for ∙ o.stops;
                    nodes = k.nodes ∙ ap (λ (n : ℕ). n + 1) o.nodes;
                    stands = k.object o.run w.judged asks_for;
                  };
                  here = own.here;
                }))
                (λ a ne. ap (λ (b : Bool). cond b (record (row s a past) { asks = false; held = (row s a past).held + 1 }) (row s a past)) (unused_else a ne));
          }

      -- where the stream stops
      packet_is : own.object.run.newest ≡ debt.own.packet
      packet_is = first_one (sym own.object.members ∙ newest_it)
        where
          first_one : {m n : Facts} {ms ns : List Facts} → m ∷ ms ≡ n ∷ ns → m ≡ n
          first_one q = cc

      stops_are : (row s g.run past).stops ≡ stops_in g.obj
          → stops_after (bearing s.capture f) (row s g.run past).members (row s g.run past).stops ≡ stopped_at_newest own.object.run (stops_in g.obj)
      stops_are same =
          let r = own.object.run in
          ap (λ (o : Option Facts). stops_after o (row s g.run past).members (row s g.run past).stops) (debt.own.bears ∙ ap Some (sym packet_is))
          ∙ ap (λ (ms : List Facts). stops_after (Some r.newest) ms (row s g.run past).stops) own.object.members
          ∙ ap (λ (x : Stops). stops_after (Some r.newest) (r.newest ∷ r.older) x) same

      pub stopped_done : MaySettle past role f None → Settled s.capture.bytes false g h
          → Done s past role (call.Segment f None) reply.Stopped (note.Stopped f) (slice_set flows i h)
      stopped_done may k =
          let w = row s g.run past in
          let o = own.object in
          let stops = stops_after (bearing s.capture f) w.members w.stops in
          let now : after s g.run (note.Stopped f) w ≡ record w { asks = false; stops = stops } = ap (λ (b : Bool). cond b (record w { asks = false; stops = stops }) w) uses_it in
          record {
            rule = owed;
            noted = refl;
            did = did_set s past (note.Stopped f) flows i g h st e k.run
                (subst (λ (v : Row). IsFlow s v h) (sym now)
                (record {
                  place = k.place ∙ own.place;
                  begun = ap is_begun k.place ∙ own.begun;
                  uses = uses_kept false k;
                  object = record {
                    run = o.run;
                    members = o.members;
                    depth = k.depth ∙ o.depth;
                    stops = k.stops o.run w.judged asks_for ∙ sym (stops_are (sym o.stops));
                    nodes = k.nodes ∙ no_more (nodes_in g.obj) ∙ o.nodes;
                    stands = k.object o.run w.judged asks_for;
                  };
                  here = own.here;
                }))
                (λ a ne. ap (λ (b : Bool). cond b (record (row s a past) { asks = false; stops = stops_after (bearing s.capture f) (row s a past).members (row s a past).stops }) (row s a past)) (unused_else a ne));
          }
        where
          no_more : (n : ℕ) → n + 0 ≡ n
          no_more n = omega arith

    -- the close of a use
    module _ (role : ℕ) (app : App) (may : MayClose past role f) (count : ℕ) (c : Closed f app count g h) where
      opened : IsOpened s past role f
      opened = (sound s past st.legal).opened role f may.answered

      -- each packet of the run was settled, since the role is the worker of its key
      settled : (row s g.run past).asks ≡ false
      settled = mine_settled s past st.workers st.legal role g.run use_of.packet.key use_of.key
          (opened.own.worker ∙ ap (λ (x : Facts). worker_of x.key s.layout.workers) (some_is opened.own.bears use_of.bears)) may.settled

      stood : StandsFor g.obj s.capture.bytes own.object.run (row s g.run past).judged
      stood = subst (λ (x : Bool). StandsIf x g.obj s.capture.bytes own.object.run (row s g.run past).judged) settled own.object.stands

      closed_row : (freed : ℕ) (ended : Bool) → after s g.run (note.Closed f app g.run freed ended) (row s g.run past)
          ≡ record (row s g.run past) { uses = without f (row s g.run past).uses; judged = app ∷ (row s g.run past).judged; held = (row s g.run past).held - freed }
      closed_row freed ended = cond_this g.run _ (row s g.run past)

      uses_same : (u : ℕ) → has h.uses u ≡ has (without f (row s g.run past).uses) u
      uses_same u = c.uses u ∙ ap (λ (b : Bool). b && not (u == f)) (own.uses u) ∙ sym (has-without f u (row s g.run past).uses)

      object : IsObject s (record (row s g.run past) { uses = without f (row s g.run past).uses; judged = app ∷ (row s g.run past).judged; held = (row s g.run past).held - count }) h.obj
      object =
          let o = own.object in
          record {
            run = o.run;
            members = o.members;
            depth = c.depth ∙ o.depth;
            stops = c.stops ∙ o.stops;
            nodes = omega (arith, c.nodes, o.nodes);
            stands = subst (λ (x : Bool). StandsIf x h.obj s.capture.bytes o.run (app ∷ (row s g.run past).judged)) (sym settled) (c.object s.capture.bytes o.run (row s g.run past).judged stood);
          }

      -- those that no longer wait are handed out
      waiting : waiting_of s (row s g.run past) ≡ length g.obj.ts.waiting + length g.obj.tc.waiting
      waiting =
          let o = own.object in
          let bytes = s.capture.bytes in
          let depth = s.layout.depth in
          let is = beside_of s (row s g.run past) g.obj o in
          let ts : length g.obj.ts.waiting ≡ length (waiting_among depth (row s g.run past).stops.to_server (to_server bytes o.run))
          = ap (λ (l : List Spot). length l) stood.ts.waiting
          ∙ ap (λ (d : ℕ). length (waiting_among d g.obj.ts.stop (to_server bytes o.run))) (is.ts_depth ∙ o.depth)
          ∙ ap (λ (x : Stops). length (waiting_among depth x.to_server (to_server bytes o.run))) o.stops in
          let tc : length g.obj.tc.waiting ≡ length (waiting_among depth (row s g.run past).stops.to_client (to_client bytes o.run))
          = ap (λ (l : List Spot). length l) stood.tc.waiting
          ∙ ap (λ (d : ℕ). length (waiting_among d g.obj.tc.stop (to_client bytes o.run))) (is.tc_depth ∙ o.depth)
          ∙ ap (λ (x : Stops). length (waiting_among depth x.to_client (to_client bytes o.run))) o.stops in
          ap (λ (ms : List Facts). waiting_after depth bytes (row s g.run past).stops ms) o.members ∙ sums_to ts tc
        where
          sums_to : {a b x y : ℕ} → a ≡ x → b ≡ y → x + y ≡ a + b
          sums_to p q = omega (arith, p, q)

      freed_is : count ≡ (row s g.run past).held - waiting_of s (row s g.run past)
      freed_is =
          let o = own.object in
          let w = waiting in
          omega (arith, c.freed, o.nodes, w)

      gone_split : (b : Bool) (p : Place) → is_begun p ≡ true → cond b (gone_place p) None ≡ None → (is_linked p || not b) ≡ true
      gone_split false p k q = or_true (is_linked p)
        where
          or_true : (v : Bool) → (v || true) ≡ true
          or_true true = refl
          or_true false = refl
      gone_split true linked k q = refl
      gone_split true unbegun k q = cc
      gone_split true (detached o) k q = cc

      gone_why : (b : Bool) (p : Place) (d : Cause) → cond b (gone_place p) None ≡ Some d → (b ≡ true) × (p ≡ detached (off d.reason d.emergency))
      gone_why false p d q = cc
      gone_why true linked d q = cc
      gone_why true unbegun d q = cc
      gone_why true (detached o) d q = let m : cause o ≡ d = cc in (refl, ap (λ (x : Cause). detached (off x.reason x.emergency)) m)

      others : (freed : ℕ) (ended : Bool) (a : ℕ) → (g.run ≡ a → ⊥) → after s a (note.Closed f app g.run freed ended) (row s a past) ≡ row s a past
      others freed ended a ne = cond_other g.run a _ (row s a past) ne

      did_stay : (ended : Bool) → gone_by h ≡ None → Did s past (note.Closed f app g.run count ended) (slice_set flows i h) []
      did_stay ended q = did_set s past (note.Closed f app g.run count ended) flows i g h st e c.run
          (subst (λ (v : Row). IsFlow s v h) (sym (closed_row count ended))
          (record {
            place = c.place ∙ own.place;
            begun = ap is_begun c.place ∙ own.begun;
            uses = uses_same;
            object = object;
            here = ap (λ (p : Place). is_linked p || not (is_none_of (without f (row s g.run past).uses))) (sym (c.place ∙ own.place))
                ∙ ap (λ (b : Bool). is_linked h.place || not b) (sym (none_alike h.uses (without f (row s g.run past).uses) uses_same))
                ∙ gone_split (is_none_of h.uses) h.place (ap is_begun c.place ∙ own.begun) q;
          }))
          (others count ended)

      did_leave : (ended : Bool) (d : Cause) → gone_by h ≡ Some d
          → Did s past (note.Closed f app g.run count ended) (remove flows i) (ended_by (off d.reason d.emergency) h ∷ [])
      did_leave ended d q =
          let y = gone_why (is_none_of h.uses) h.place d q in
          did_remove s past (note.Closed f app g.run count ended) flows i g (ended_by (off d.reason d.emergency) h) st e c.run
          (ap is_here (closed_row count ended)
          ∙ ap (λ (p : Place). is_linked p || not (is_none_of (without f (row s g.run past).uses))) (sym (c.place ∙ own.place) ∙ y.1)
          ∙ ap not (sym (none_alike h.uses (without f (row s g.run past).uses) uses_same) ∙ y.0))
          (subst (λ (v : Row). IsEnded s v (ended_by (off d.reason d.emergency) h)) (sym (closed_row count ended)) (record { place = sym (c.place ∙ own.place) ∙ y.1; settled = settled; object = object }))
          (others count ended)

      pub close_stays : (nodes : List Node) → count ≡ length nodes → gone_by h ≡ None
          → Done s past role (call.Close f app) (reply.Closed g.run nodes None) (note.Closed f app g.run count false) (slice_set flows i h)
      close_stays nodes same q = let did = did_stay false q in record {
        rule = (may, use_of.unrefused, uses_it, freed_is, did.gone.whole g.run);
        noted = ap (λ (n : ℕ). note.Closed f app g.run n false) same;
        did = did;
      }

      pub close_leaves : (nodes : List Node) → count ≡ length nodes → (d : Cause) → gone_by h ≡ Some d
          → Done s past role (call.Close f app) (reply.Closed g.run nodes (Some (ended_by (off d.reason d.emergency) h))) (note.Closed f app g.run count true) (remove flows i)
      close_leaves nodes same d q = let did = did_leave true d q in record {
        rule = (may, use_of.unrefused, uses_it, freed_is, sym (ap (λ (b : Bool). b || false) (eq-eqb h.run g.run c.run)) ∙ did.gone.whole g.run);
        noted = ap (λ (n : ℕ). note.Closed f app g.run n true) same;
        did = did;
      }
