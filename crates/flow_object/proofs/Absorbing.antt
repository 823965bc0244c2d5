-- One packet more: the members of its direction grow, and those of the other stay.
use Rattle.std.proofs.Common.{◌≡◌, ◌≢◌, ℕ, ◌<◌, ◌≤◌, cond, Bool, true, false, List, [], ◌∷◌, Option, Some, None, refl, sym, ap, ◌∙◌, subst, inl, inr, arith}
use Rattle.std.specs.Prelude.{not}
use Rattle.reassembly.specs.Kept.{AllLieIn, KeptStream, Stands, newest_of}
use Rattle.reassembly.specs.Members.{Member}
use Rattle.suri_base.specs.App.{payload_of}
use Rattle.suri_base.specs.Keys.{is_side, other_side}
use Rattle.suri_base.specs.declared.app.App.{App}
use Rattle.suri_base.specs.declared.facts.Facts.{Facts}
use Rattle.suri_base.specs.declared.facts.TcpFacts.{TcpFacts}
use Rattle.suri_base.specs.declared.key.Side.{Side}
use Rattle.suri_base.specs.declared.key.Side.TheVariants.{FromA, FromB}
use Rattle.flow_sum.specs.Run.{Run, first_of, members, with_one_more}
use Rattle.flow_sum.specs.Sums.{client_of, sums_of}
use Rattle.flow_object.specs.Object.{segments_of, session_of, state_after, with_segment, Object}
use Rattle.flow_object.specs.Standing.{AsksFor, NewestAsks, StandsBeside, StandsFor}
use Rattle.flow_object.specs.Streams.{members_of, offer_in, offer_to, to_client, to_server, with_member}
use Rattle.flow_sum.specs.Sums.{way_of}
use Rattle.flow_sum.specs.declared.sums.Sums.{Sums}
use Rattle.suri_base.specs.declared.facts.Way.{Way}
use Rattle.suri_base.specs.declared.facts.Way.TheVariants.{ToServer, ToClient}
use Rattle.suri_base.specs.declared.stream.Offer.{Offer}
use Rattle.suri_base.specs.declared.stream.Offer.TheVariants.{NeedsSegment}
use Rattle.tcp_session.specs.Session as session
use Rattle.tcp_session.specs.Session.{state_of}

pub is_side-other : (s side : Side) → is_side s (other_side side) ≡ not (is_side s side)
is_side-other FromA FromA = refl
is_side-other FromA FromB = refl
is_side-other FromB FromA = refl
is_side-other FromB FromB = refl

-- what a stream sees of a packet lies in the bytes
abbrev pub BringsInside : List ℕ → Facts → Type 0
BringsInside bytes f = AllLieIn bytes (with_member f.tcp f.no f.pay_at (payload_of bytes f) [])

module _ (bytes : List ℕ) (f : Facts) (older : List Facts) (side : Side) where
  pub grown : is_side f.side side ≡ true
      → members_of bytes side (f ∷ older) ≡ with_member f.tcp f.no f.pay_at (payload_of bytes f) (members_of bytes side older)
  grown is = ap (λ (b : Bool). cond b (with_member f.tcp f.no f.pay_at (payload_of bytes f) (members_of bytes side older)) (members_of bytes side older)) is

  pub still : is_side f.side side ≡ false → members_of bytes side (f ∷ older) ≡ members_of bytes side older
  still is = ap (λ (b : Bool). cond b (with_member f.tcp f.no f.pay_at (payload_of bytes f) (members_of bytes side older)) (members_of bytes side older)) is

  with_lies : (tcp : Option TcpFacts) (ms : List Member) → AllLieIn bytes (with_member tcp f.no f.pay_at (payload_of bytes f) []) → AllLieIn bytes ms
      → AllLieIn bytes (with_member tcp f.no f.pay_at (payload_of bytes f) ms)
  with_lies None ms lies all = all
  with_lies (Some tcp) ms lies all = (lies.0, all)

  with_newest : (tcp : Option TcpFacts) (ms : List Member) → newest_of ms ≤ f.no → newest_of (with_member tcp f.no f.pay_at (payload_of bytes f) ms) ≤ f.no
  with_newest None ms h = h
  with_newest (Some tcp) ms h = omega arith

  pub more_lies : BringsInside bytes f → AllLieIn bytes (members_of bytes side older) → AllLieIn bytes (members_of bytes side (f ∷ older))
  more_lies lies all = by (is_side f.side side)
    where
      by : (b : Bool) → AllLieIn bytes
          (cond b (with_member f.tcp f.no f.pay_at (payload_of bytes f) (members_of bytes side older)) (members_of bytes side older))
      by true = with_lies f.tcp (members_of bytes side older) lies all
      by false = all

  pub more_newest : newest_of (members_of bytes side older) ≤ f.no → newest_of (members_of bytes side (f ∷ older)) ≤ f.no
  more_newest h = by (is_side f.side side)
    where
      by : (b : Bool) → newest_of
          (cond b (with_member f.tcp f.no f.pay_at (payload_of bytes f) (members_of bytes side older)) (members_of bytes side older)) ≤ f.no
      by true = with_newest f.tcp (members_of bytes side older) h
      by false = h

-- what is kept beside the streams
pub beside_more : (o new : Object) (bytes : List ℕ) (f : Facts) (r : Run) (judged : List App) → StandsBeside o bytes r judged → r.newest.no < f.no
    → BringsInside bytes f
    → new.sums ≡ sums_of (with_one_more f r) → new.state ≡ session_of (with_one_more f r) → new.app ≡ o.app → new.depth ≡ o.depth
    → new.ts.depth ≡ o.ts.depth → new.tc.depth ≡ o.tc.depth
    → StandsBeside new bytes (with_one_more f r) judged
beside_more o new bytes f r judged c later lies sums state app depth ts tc =
    let a = c.ts_before in
    let b = c.tc_before in
    record {
      sums = sums;
      state = state;
      app = app ∙ c.app;
      ts_depth = ts ∙ (c.ts_depth ∙ sym depth);
      tc_depth = tc ∙ (c.tc_depth ∙ sym depth);
      ts_lies = more_lies bytes f (members r) (client_of (first_of r)) lies c.ts_lies;
      tc_lies = more_lies bytes f (members r) (other_side (client_of (first_of r))) lies c.tc_lies;
      ts_before = more_newest bytes f (members r) (client_of (first_of r)) (omega arith);
      tc_before = more_newest bytes f (members r) (other_side (client_of (first_of r))) (omega arith);
    }

-- the packet goes to the server
module _ (o new : Object) (bytes : List ℕ) (f : Facts) (r : Run) (judged : List App) (s : StandsFor o bytes r judged)
    (beside : StandsBeside new bytes (with_one_more f r) judged) where
  other_not : is_side f.side (client_of (first_of r)) ≡ true → is_side f.side (other_side (client_of (first_of r))) ≡ false
  other_not is = is_side-other f.side (client_of (first_of r)) ∙ ap not is

  other_is : is_side f.side (client_of (first_of r)) ≡ false → is_side f.side (other_side (client_of (first_of r))) ≡ true
  other_is is = is_side-other f.side (client_of (first_of r)) ∙ ap not is

  pub server_stands : is_side f.side (client_of (first_of r)) ≡ true
      → Stands new.ts (with_member f.tcp f.no f.pay_at (payload_of bytes f) (to_server bytes r)) → new.tc ≡ o.tc
      → StandsFor new bytes (with_one_more f r) judged
  server_stands is ts tc = record {
    beside = beside;
    ts = subst (Stands new.ts) (sym (grown bytes f (members r) (client_of (first_of r)) is)) ts;
    tc = subst (λ (k : KeptStream). Stands k (to_client bytes (with_one_more f r))) (sym tc)
        (subst (Stands o.tc) (sym (still bytes f (members r) (other_side (client_of (first_of r))) (other_not is))) s.tc);
  }

  pub client_stands : is_side f.side (client_of (first_of r)) ≡ false
      → Stands new.tc (with_member f.tcp f.no f.pay_at (payload_of bytes f) (to_client bytes r)) → new.ts ≡ o.ts
      → StandsFor new bytes (with_one_more f r) judged
  client_stands is tc ts = record {
    beside = beside;
    ts = subst (λ (k : KeptStream). Stands k (to_server bytes (with_one_more f r))) (sym ts)
        (subst (Stands o.ts) (sym (still bytes f (members r) (client_of (first_of r)) is)) s.ts);
    tc = subst (Stands new.tc) (sym (grown bytes f (members r) (other_side (client_of (first_of r))) (other_is is))) tc;
  }

  pub server_asks : is_side f.side (client_of (first_of r)) ≡ true
      → NewestAsks new.ts f.no (with_member f.tcp f.no f.pay_at (payload_of bytes f) (to_server bytes r)) → new.tc ≡ o.tc
      → AsksFor new bytes (with_one_more f r) judged
  server_asks is ts tc = record {
    beside = beside;
    one = inl (
      is,
      subst (NewestAsks new.ts f.no) (sym (grown bytes f (members r) (client_of (first_of r)) is)) ts,
      subst (λ (k : KeptStream). Stands k (to_client bytes (with_one_more f r))) (sym tc)
          (subst (Stands o.tc) (sym (still bytes f (members r) (other_side (client_of (first_of r))) (other_not is))) s.tc),
    );
  }

  pub client_asks : is_side f.side (client_of (first_of r)) ≡ false
      → NewestAsks new.tc f.no (with_member f.tcp f.no f.pay_at (payload_of bytes f) (to_client bytes r)) → new.ts ≡ o.ts
      → AsksFor new bytes (with_one_more f r) judged
  client_asks is tc ts = record {
    beside = beside;
    one = inr (
      is,
      subst (λ (k : KeptStream). Stands k (to_server bytes (with_one_more f r))) (sym ts)
          (subst (Stands o.ts) (sym (still bytes f (members r) (client_of (first_of r)) is)) s.ts),
      subst (NewestAsks new.tc f.no) (sym (grown bytes f (members r) (other_side (client_of (first_of r))) (other_is is))) tc,
    );
  }

-- what became of the rest
pub record After (o new : Object) (f : Facts) : Type 0 where
  pub depth : new.depth ≡ o.depth
  pub app : new.app ≡ o.app
  pub sums : (r : Run) → o.sums ≡ sums_of r → new.sums ≡ sums_of (with_one_more f r)
  pub state : new.state ≡ state_after f.tcp (way_of new.sums.client f.side) o.state

-- what a stream says of one packet more
pub record Offered (old new : KeptStream) (bytes : List ℕ) (f : Facts) (answer : Offer) : Type 0 where
  pub setting : new.depth ≡ old.depth
  pub inside : BringsInside bytes f
  pub offer : (older : List Member) → Stands old older → AllLieIn bytes older → newest_of older < f.no
      → answer ≡ offer_to f.tcp f.no f.pay_at (payload_of bytes f) old older
  pub stands : (older : List Member) → Stands old older → AllLieIn bytes older → newest_of older < f.no → answer ≢ NeedsSegment
      → Stands new (with_member f.tcp f.no f.pay_at (payload_of bytes f) older)
  pub asks : (older : List Member) → Stands old older → AllLieIn bytes older → newest_of older < f.no → answer ≡ NeedsSegment
      → NewestAsks new f.no (with_member f.tcp f.no f.pay_at (payload_of bytes f) older)

pub record Absorbed (o new : Object) (bytes : List ℕ) (f : Facts) (r : Run) (judged : List App) (answer : Offer) : Type 0 where
  pub offer : answer ≡ offer_in o bytes r f
  pub stands : answer ≢ NeedsSegment → StandsFor new bytes (with_one_more f r) judged
  pub asks : answer ≡ NeedsSegment → AsksFor new bytes (with_one_more f r) judged

pub state_grows : (tcp : Option TcpFacts) (way : Way) (ms : List session.Member) → state_after tcp way (state_of ms) ≡ state_of (with_segment tcp way ms)
state_grows None way ms = refl
state_grows (Some tcp) way ms = refl

pub to_server_is : (b : Bool) → cond b ToServer ToClient ≡ ToServer → b ≡ true
to_server_is true e = refl
to_server_is false e = cc

pub to_client_is : (b : Bool) → cond b ToServer ToClient ≡ ToClient → b ≡ false
to_client_is false e = refl
to_client_is true e = cc

module _ (o new : Object) (bytes : List ℕ) (f : Facts) (r : Run) (judged : List App) (s : StandsFor o bytes r judged) (after : After o new f)
    (later : o.sums.last_no < f.no)
    (inside : BringsInside bytes f) where
  newer : r.newest.no < f.no
  newer = let e : o.sums.last_no ≡ r.newest.no = ap (λ (x : Sums). x.last_no) s.beside.sums in omega (arith, e, later)

  client : o.sums.client ≡ client_of (first_of r)
  client = ap (λ (x : Sums). x.client) s.beside.sums

  beside_after : new.ts.depth ≡ o.ts.depth → new.tc.depth ≡ o.tc.depth → StandsBeside new bytes (with_one_more f r) judged
  beside_after ts tc =
      let sums = after.sums r s.beside.sums in
      let way = ap (λ (x : Sums). state_after f.tcp (way_of x.client f.side) o.state) sums in
      let state = ap (state_after f.tcp (way_of (client_of (first_of r)) f.side)) s.beside.state in
      beside_more o new bytes f r judged s.beside newer inside sums (after.state
      ∙ (way ∙ (state ∙ state_grows f.tcp (way_of (client_of (first_of r)) f.side) (segments_of (client_of (first_of r)) (members r)))))
      after.app after.depth ts tc

  pub by_server : (stream : KeptStream) (answer : Offer) → way_of o.sums.client f.side ≡ ToServer → new.ts ≡ stream → new.tc ≡ o.tc
      → Offered o.ts stream bytes f answer → Absorbed o new bytes f r judged answer
  by_server stream answer way ts tc offered =
      let at : is_side f.side (client_of (first_of r)) ≡ true =
      to_server_is (is_side f.side (client_of (first_of r))) (ap (λ (c : Side). way_of c f.side) (sym client) ∙ way) in
      let a = s.beside.ts_before in
      let before : newest_of (to_server bytes r) < f.no = omega (arith, a, newer) in
      let beside = beside_after (ap (λ (k : KeptStream). k.depth) ts ∙ offered.setting) (ap (λ (k : KeptStream). k.depth) tc) in
      record {
        offer = offered.offer (to_server bytes r) s.ts s.beside.ts_lies before
            ∙ sym (ap (λ (b : Bool). cond b (offer_to f.tcp f.no f.pay_at (payload_of bytes f) o.ts (to_server bytes r))
            (offer_to f.tcp f.no f.pay_at (payload_of bytes f) o.tc (to_client bytes r))) at);
        stands = λ other. server_stands o new bytes f r judged s beside at
            (subst (λ (k : KeptStream). Stands k (with_member f.tcp f.no f.pay_at (payload_of bytes f) (to_server bytes r))) (sym ts)
            (offered.stands (to_server bytes r) s.ts s.beside.ts_lies before other)) tc;
        asks = λ needs. server_asks o new bytes f r judged s beside at
            (subst (λ (k : KeptStream). NewestAsks k f.no (with_member f.tcp f.no f.pay_at (payload_of bytes f) (to_server bytes r))) (sym ts)
            (offered.asks (to_server bytes r) s.ts s.beside.ts_lies before needs)) tc;
      }

  pub by_client : (stream : KeptStream) (answer : Offer) → way_of o.sums.client f.side ≡ ToClient → new.tc ≡ stream → new.ts ≡ o.ts
      → Offered o.tc stream bytes f answer → Absorbed o new bytes f r judged answer
  by_client stream answer way tc ts offered =
      let at : is_side f.side (client_of (first_of r)) ≡ false =
      to_client_is (is_side f.side (client_of (first_of r))) (ap (λ (c : Side). way_of c f.side) (sym client) ∙ way) in
      let a = s.beside.tc_before in
      let before : newest_of (to_client bytes r) < f.no = omega (arith, a, newer) in
      let beside = beside_after (ap (λ (k : KeptStream). k.depth) ts) (ap (λ (k : KeptStream). k.depth) tc ∙ offered.setting) in
      record {
        offer = offered.offer (to_client bytes r) s.tc s.beside.tc_lies before
            ∙ sym (ap (λ (b : Bool). cond b (offer_to f.tcp f.no f.pay_at (payload_of bytes f) o.ts (to_server bytes r))
            (offer_to f.tcp f.no f.pay_at (payload_of bytes f) o.tc (to_client bytes r))) at);
        stands = λ other. client_stands o new bytes f r judged s beside at
            (subst (λ (k : KeptStream). Stands k (with_member f.tcp f.no f.pay_at (payload_of bytes f) (to_client bytes r))) (sym tc)
            (offered.stands (to_client bytes r) s.tc s.beside.tc_lies before other)) ts;
        asks = λ needs. client_asks o new bytes f r judged s beside at
            (subst (λ (k : KeptStream). NewestAsks k f.no (with_member f.tcp f.no f.pay_at (payload_of bytes f) (to_client bytes r))) (sym tc)
            (offered.asks (to_client bytes r) s.tc s.beside.tc_lies before needs)) ts;
      }
