-- The first packet of a run.
use Rattle.std.proofs.Common.{◌≡◌, ◌≢◌, ℕ, ◌<◌, true, false, List, [], Option, Some, None, sym, ap, ◌∙◌, subst, arith}
use Rattle.std.specs.Prelude.{not}
use Rattle.reassembly.specs.Kept.{KeptStream, Stands}
use Rattle.reassembly.specs.Members.{member, offer_of}
use Rattle.reassembly.proofs.Standing.{first_never}
use Rattle.suri_base.specs.App.{payload_of}
use Rattle.suri_base.specs.Keys.{is_side, other_side}
use Rattle.suri_base.specs.declared.app.App.TheVariants as app
use Rattle.suri_base.specs.declared.facts.Facts.{Facts}
use Rattle.suri_base.specs.declared.facts.TcpFacts.{TcpFacts}
use Rattle.suri_base.specs.declared.facts.Way.TheVariants.{ToServer, ToClient}
use Rattle.suri_base.specs.declared.stream.Offer.{Offer}
use Rattle.suri_base.specs.declared.stream.Offer.TheVariants.{NeedsSegment, Nothing}
use Rattle.flow_sum.specs.Run.{alone}
use Rattle.flow_sum.specs.Sums.{client_of, sums_of, way_of}
use Rattle.flow_sum.specs.declared.sums.Sums.{Sums}
use Rattle.tcp_session.specs.declared.state.State.TheVariants as state
use Rattle.flow_object.specs.Object.{state_after, Object}
use Rattle.flow_object.specs.Standing.{StandsBeside, StandsFor}
use Rattle.flow_object.specs.Streams.{offer_to, to_client, to_server, with_member}
use Rattle.flow_object.proofs.Absorbing.{BringsInside, Offered, grown, is_side-other, more_lies, more_newest, state_grows, still, to_client_is, to_server_is}

-- what became of the rest
pub record Fresh (new : Object) (f : Facts) : Type 0 where
  pub sums : new.sums ≡ sums_of (alone f)
  pub state : new.state ≡ state_after f.tcp (way_of new.sums.client f.side) state.Nothing
  pub app : new.app ≡ app.None

-- a blank stream needs no node for the first packet
never : (kept : KeptStream) (bytes : List ℕ) (f : Facts) (tcp : Option TcpFacts) → kept.stop ≡ 0
    → offer_to tcp f.no f.pay_at (payload_of bytes f) kept [] ≢ NeedsSegment
never kept bytes f None none = λ e. clash e
  where
    clash : Nothing ≡ NeedsSegment → ⊥
    clash e = cc
never kept bytes f (Some tcp) none = λ needs.
    first_never kept.depth (member f.no tcp f.pay_at (payload_of bytes f))
    (subst (λ (s : ℕ). offer_of kept.depth s [] (member f.no tcp f.pay_at (payload_of bytes f)) ≡ NeedsSegment) none needs)

module _ (new : Object) (bytes : List ℕ) (f : Facts) (fresh : Fresh new f) (some : 0 < f.no) (inside : BringsInside bytes f) where
  beside : new.ts.depth ≡ new.depth → new.tc.depth ≡ new.depth → StandsBeside new bytes (alone f) []
  beside ts tc = record {
    sums = fresh.sums;
    state = fresh.state ∙ (ap (λ (x : Sums). state_after f.tcp (way_of x.client f.side) state.Nothing) fresh.sums
        ∙ state_grows f.tcp (way_of (client_of f) f.side) []);
    app = fresh.app;
    ts_depth = ts;
    tc_depth = tc;
    ts_lies = more_lies bytes f [] (client_of f) inside tt;
    tc_lies = more_lies bytes f [] (other_side (client_of f)) inside tt;
    ts_before = more_newest bytes f [] (client_of f) (omega arith);
    tc_before = more_newest bytes f [] (other_side (client_of f)) (omega arith);
  }

  took : (old stream : KeptStream) (answer : Offer) → Stands old [] → old.stop ≡ 0 → Offered old stream bytes f answer
      → Stands stream (with_member f.tcp f.no f.pay_at (payload_of bytes f) [])
  took old stream answer stands none offered =
      offered.stands [] stands tt some (λ needs. never old bytes f f.tcp none (sym (offered.offer [] stands tt some) ∙ needs))

  pub begun_server : (old stream : KeptStream) (answer : Offer) → way_of (client_of f) f.side ≡ ToServer → new.ts ≡ stream → Stands new.tc []
      → Stands old [] → old.stop ≡ 0 → Offered old stream bytes f answer
      → new.ts.depth ≡ new.depth → new.tc.depth ≡ new.depth → StandsFor new bytes (alone f) []
  begun_server old stream answer way ts tc stands none offered ts_depth tc_depth =
      let at : is_side f.side (client_of f) ≡ true = to_server_is (is_side f.side (client_of f)) way in
      record {
        beside = beside ts_depth tc_depth;
        ts = subst (λ (k : KeptStream). Stands k (to_server bytes (alone f))) (sym ts)
            (subst (Stands stream) (sym (grown bytes f [] (client_of f) at)) (took old stream answer stands none offered));
        tc = subst (Stands new.tc) (sym (still bytes f [] (other_side (client_of f)) (is_side-other f.side (client_of f) ∙ ap not at))) tc;
      }

  pub begun_client : (old stream : KeptStream) (answer : Offer) → way_of (client_of f) f.side ≡ ToClient → new.tc ≡ stream → Stands new.ts []
      → Stands old [] → old.stop ≡ 0 → Offered old stream bytes f answer
      → new.ts.depth ≡ new.depth → new.tc.depth ≡ new.depth → StandsFor new bytes (alone f) []
  begun_client old stream answer way tc ts stands none offered ts_depth tc_depth =
      let at : is_side f.side (client_of f) ≡ false = to_client_is (is_side f.side (client_of f)) way in
      record {
        beside = beside ts_depth tc_depth;
        ts = subst (Stands new.ts) (sym (still bytes f [] (client_of f) at)) ts;
        tc = subst (λ (k : KeptStream). Stands k (to_client bytes (alone f))) (sym tc)
            (subst (Stands stream) (sym (grown bytes f [] (other_side (client_of f)) (is_side-other f.side (client_of f) ∙ ap not at)))
            (took old stream answer stands none offered));
      }
