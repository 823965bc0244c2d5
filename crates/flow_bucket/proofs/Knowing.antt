-- What a legal history says of a run, and an object of its run.
use Rattle.std.proofs.Common.{◌≡◌, ℕ, ◌==◌, ◌≤◌, Bool, true, false, ◌&&◌, ◌||◌, if◌then◌else◌, List, [], ◌∷◌, Option, Some, None, refl, sym, ◌∙◌, ap, subst, arith}
use Rattle.std.proofs.lemmas.Bool.Decides.{nat_tests}
use Rattle.suri_base.specs.Dealing.{worker_of}
use Rattle.suri_base.specs.Keys.{same_key, is_side}
use Rattle.suri_base.proofs.SameKeys.{same_key-is}
use Rattle.suri_base.specs.Protocols.{is_tcp}
use Rattle.suri_base.specs.App.{payload_of}
use Rattle.suri_base.specs.declared.app.App.{App}
use Rattle.suri_base.specs.declared.entry.Entry.{Entry}
use Rattle.suri_base.specs.declared.entry.BucketNote.{BucketNote}
use Rattle.suri_base.specs.declared.facts.Facts.{Facts}
use Rattle.suri_base.specs.declared.facts.TcpFacts.{TcpFacts}
use Rattle.suri_base.specs.declared.key.Key.{Key}
use Rattle.suri_base.specs.declared.stream.Offer.{Offer}
use Rattle.suri_base.specs.declared.stream.Offer.TheVariants as offer
use Rattle.tcp_session.specs.Session.{class_of}
use Rattle.tcp_session.specs.declared.classes.Class.{Class}
use Rattle.tcp_session.specs.declared.classes.Class.TheVariants as class
use Rattle.tcp_session.specs.declared.state.State.{State}
use Rattle.timeout_table.specs.Expiry.{has_expired}
use Rattle.timeout_table.specs.Table.{timeout_of}
use Rattle.reassembly.specs.Kept.{KeptStream}
use Rattle.reassembly.specs.Members.{Member, member}
use Rattle.reassembly.specs.Members as stream
use Rattle.reassembly.proofs.Standing.{first_never}
use Rattle.flow_sum.specs.Run.{Run, first_of}
use Rattle.flow_sum.specs.Sums.{client_of, sums_of}
use Rattle.flow_sum.specs.declared.sums.Sums.{Sums}
use Rattle.flow_object.specs.Object.{Object, Stops, class_in, class_of_run}
use Rattle.flow_object.specs.Standing.{StandsBeside}
use Rattle.flow_object.specs.Streams.{first_offer, offer_in, offer_to, to_client, to_server}
use Rattle.flow_expiry.specs.Expiry.{is_closed, object_expired, object_reused, opens}
use Rattle.bucket_rules.specs.declared.fixed.Fixed.{Fixed}
use Rattle.bucket_rules.specs.Own.{is_needing, owes}
use Rattle.bucket_rules.specs.Packets.{has_key, is_expired, is_reused}
use Rattle.bucket_rules.specs.Row.{Place, Row, has, is_none_of, offer_of, row}
use Rattle.bucket_rules.specs.Rule.{IsLegal}
use Rattle.bucket_rules.specs.Sound.{IsAsking, IsOwing, IsUse}
use Rattle.bucket_rules.specs.Streams.{answer_to, offer_after}
use Rattle.flow_bucket.specs.LetGo.{IsObject}
use Rattle.bucket_flow.proofs.Small.{beside_if}
use Rattle.bucket_rules.proofs.Soundness.{sound}
use Rattle.bucket_rules.proofs.Words.{none_some, some_is}

pub differs : (g f : ℕ) → (g ≡ f → ⊥) → (g == f) ≡ false
differs g f n = grind (arith, nat_tests)

none_used : (us : List ℕ) (f : ℕ) → is_none_of us ≡ true → has us f ≡ true → ⊥
none_used [] f n h = cc
none_used (u ∷ us) f n h = cc

-- keys that a run has are one
pub key_alike : (ms : List Facts) (k l : Key) → has_key ms k ≡ true → has_key ms l ≡ true → k ≡ l
key_alike [] k l h j = cc
key_alike (m ∷ ms) k l h j = sym (same_key-is (first_of (record { newest = m; older = ms })).key k h) ∙ same_key-is (first_of (record { newest = m; older = ms })).key l j

module _ (s : Fixed) (past : List (Entry BucketNote)) (workers : 1 ≤ s.layout.workers) (legal : IsLegal s past) where
  -- where nobody uses a run, each of its packets was settled
  pub unused_settled : (a : ℕ) → is_none_of (row s a past).uses ≡ true → (row s a past).asks ≡ false
  unused_settled a none = by (row s a past).asks refl
    where
      by : (b : Bool) → (row s a past).asks ≡ b → b ≡ false
      by false e = refl
      by true e = let k : IsAsking s past a = (sound s past legal).asking workers a e in absurd (none_used (row s a past).uses k.frame none k.uses)

  -- so it is where the worker of its key has nothing to settle
  pub mine_settled : (role a : ℕ) (k : Key) → has_key (row s a past).members k ≡ true → role ≡ worker_of k s.layout.workers
      → owes role past ≡ None → (row s a past).asks ≡ false
  mine_settled role a k h mine none = by (row s a past).asks refl
    where
      by : (b : Bool) → (row s a past).asks ≡ b → b ≡ false
      by false e = refl
      by true e =
          let snd = sound s past legal in
          let q : IsAsking s past a = snd.asking workers a e in
          let o : IsOwing s past q.role q.frame = snd.owing q.role q.frame q.owes in
          let u : IsUse s past a q.frame = snd.uses a q.frame q.uses in
          let packet : u.packet ≡ o.own.packet = some_is u.bears o.own.bears in
          let key : u.packet.key ≡ k = key_alike (row s a past).members u.packet.key k u.key h in
          let same : q.role ≡ role = o.own.worker ∙ ap (λ (x : Facts). worker_of x.key s.layout.workers) (sym packet) ∙ ap (λ (x : Key). worker_of x s.layout.workers) key ∙ sym mine in
          absurd (none_some none (subst (λ (x : ℕ). owes x past ≡ Some q.frame) same q.owes))

-- sums and class are those of the run, whether its newest packet asks or not

pub beside_of : (s : Fixed) (w : Row) (o : Object) → (k : IsObject s w o) → StandsBeside o s.capture.bytes k.run w.judged
beside_of s w o k = beside_if w.asks o s.capture.bytes k.run w.judged k.stands

-- what does not change an object's row
pub moved : (s : Fixed) (w : Row) (p : Place) (o : Object) → IsObject s w o → IsObject s (record w { place = p }) o
moved s w p o k = record { run = k.run; members = k.members; depth = k.depth; stops = k.stops; nodes = k.nodes; stands = k.stands }

pub last_same : (s : Fixed) (w : Row) (o : Object) → (k : IsObject s w o) → o.sums.last_no ≡ k.run.newest.no
last_same s w o k = ap (λ (x : Sums). x.last_no) (beside_of s w o k).sums

pub clock_last : (s : Fixed) (w : Row) (o : Object) → (k : IsObject s w o) → o.sums.last_clock ≡ k.run.newest.clock
clock_last s w o k = ap (λ (x : Sums). x.last_clock) (beside_of s w o k).sums

pub key_same : (s : Fixed) (w : Row) (o : Object) (k : Key) → IsObject s w o → has_key w.members k ≡ same_key o.sums.key k
key_same s w o k is = ap (λ (ms : List Facts). has_key ms k) is.members ∙ ap (λ (x : Sums). same_key x.key k) (sym (beside_of s w o is).sums)

-- a class, by the sums and the state of a session
abbrev class_told : Sums → State → Class
class_told s t = if is_tcp s.key.proto then class_of t else (if (s.ts.pkts == 0) || (s.tc.pkts == 0) then class.New else class.Established)

class_same : (o : Object) (bytes : List ℕ) (r : Run) (judged : List App) → StandsBeside o bytes r judged → class_in o ≡ class_of_run r
class_same o bytes r judged is = ap (λ (s : Sums). class_told s o.state) is.sums ∙ ap (λ (t : State). class_told (sums_of r) t) is.state

-- an object tells when its run expires
pub expired_same : (s : Fixed) (w : Row) (o : Object) (clock : ℕ) (emergency : Bool) → IsObject s w o
    → is_expired w.members clock emergency ≡ object_expired o clock emergency
expired_same s w o clock emergency k =
    let is = beside_of s w o k in
    ap (λ (ms : List Facts). is_expired ms clock emergency) k.members
    ∙ sym (ap (λ (x : Sums). has_expired x.last_clock clock (timeout_of x.key.proto (class_in o) emergency)) is.sums
    ∙ ap (λ (c : Class). has_expired k.run.newest.clock clock (timeout_of (first_of k.run).key.proto c emergency)) (class_same o s.capture.bytes k.run w.judged is))

pub reused_same : (s : Fixed) (w : Row) (o : Object) (t : Facts) → IsObject s w o → is_reused w.members t ≡ object_reused o t
reused_same s w o t k =
    ap (λ (ms : List Facts). is_reused ms t) k.members
    ∙ sym (ap (λ (c : Class). opens t.tcp && is_closed c) (class_same o s.capture.bytes k.run w.judged (beside_of s w o k)))

-- what an object answers is what the row says

offer_is : (tcp : Option TcpFacts) (number at : ℕ) (payload : List ℕ) (kept : KeptStream) (older : List Member) (depth stop : ℕ)
    → kept.depth ≡ depth → kept.stop ≡ stop
    → offer_to tcp number at payload kept older ≡ answer_to tcp depth stop number at payload older
offer_is None number at payload kept older depth stop d e = refl
offer_is (Some tcp) number at payload kept older depth stop d e =
    ap (λ (x : ℕ). stream.offer_of x kept.stop older (member number tcp at payload)) d ∙ ap (λ (x : ℕ). stream.offer_of depth x older (member number tcp at payload)) e

pub offer_same : (s : Fixed) (w : Row) (o : Object) (t : Facts) → (k : IsObject s w o) → offer_in o s.capture.bytes k.run t ≡ offer_of s w t
offer_same s w o t k =
    let is = beside_of s w o k in
    ap (λ (x : Offer). if is_side t.side (client_of (first_of k.run)) then x else offer_to t.tcp t.no t.pay_at (payload_of s.capture.bytes t) o.tc (to_client s.capture.bytes k.run))
    (offer_is t.tcp t.no t.pay_at (payload_of s.capture.bytes t) o.ts (to_server s.capture.bytes k.run) s.layout.depth w.stops.to_server (is.ts_depth ∙ k.depth) (ap (λ (x : Stops). x.to_server) k.stops))
    ∙ ap (λ (x : Offer). if is_side t.side (client_of (first_of k.run)) then answer_to t.tcp s.layout.depth w.stops.to_server t.no t.pay_at (payload_of s.capture.bytes t) (to_server s.capture.bytes k.run) else x)
    (offer_is t.tcp t.no t.pay_at (payload_of s.capture.bytes t) o.tc (to_client s.capture.bytes k.run) s.layout.depth w.stops.to_client (is.tc_depth ∙ k.depth) (ap (λ (x : Stops). x.to_client) k.stops))
    ∙ ap (λ (ms : List Facts). offer_after s.layout.depth s.capture.bytes w.stops ms t) (sym k.members)

not_needing : (said : Offer) → (said ≡ offer.NeedsSegment → ⊥) → is_needing said ≡ false
not_needing offer.InOrder n = refl
not_needing offer.Nothing n = refl
not_needing offer.NeedsSegment n = absurd (n refl)
not_needing offer.Stopped n = refl

first_by : (tcp : Option TcpFacts) (number at : ℕ) (payload : List ℕ) (depth : ℕ)
    → is_needing (elim tcp as (λ _. Offer) [ None ↦ offer.Nothing | Some tcp ↦ stream.offer_of depth 0 [] (member number tcp at payload) ]) ≡ false
first_by None number at payload depth = refl
first_by (Some tcp) number at payload depth = not_needing (stream.offer_of depth 0 [] (member number tcp at payload)) (first_never depth (member number tcp at payload))

-- a first packet needs no node
pub first_settled : (depth at : ℕ) (payload : List ℕ) (t : Facts) → is_needing (first_offer depth at payload t) ≡ false
first_settled depth at payload t = first_by t.tcp t.no at payload depth
