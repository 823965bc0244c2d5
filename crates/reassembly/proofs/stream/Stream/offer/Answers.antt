use Rattle.std.proofs.Common.{◌≡◌, ◌+◌, ◌++◌, ◌∷◌, ◌<◌, ℕ, List, length, refl, sym, ap, ◌∙◌, subst, arith}
use Rattle.std.specs.Option.{unwrap_or}
use Rattle.std.specs.Prelude.{nat_lt}
use Rattle.sha1.specs.Sha1.{Holds}
use Rattle.segment_tree.specs.Order.{newest_first}
use Rattle.segment_tree.specs.declared.spot.Spot.{Spot}
use Rattle.segment_tree.proofs.Newest.{length_newest, newest_filter}
use Rattle.reassembly.specs.Kept.{AllLieIn, KeptStream, Stands, held, newest_of}
use Rattle.reassembly.specs.Members.{base_of, member, offer_of, Member}
use Rattle.reassembly.specs.Parts.{answer_to}
use Rattle.reassembly.specs.contracts.stream.Stream.{the_view}
use Rattle.reassembly.proofs.Newer.{may_wait}
use Rattle.reassembly.proofs.Offering.{Given, Found, found_by, opened, seen, within, low, next_ends, next_is, answered, spot_is}
use Rattle.reassembly.proofs.Standing.{asks_of, brought, needs_payload, stands_nothing, stands_order}
use Rattle.reassembly.proofs.Steps.{answer_nothing}
use Rattle.reassembly.proofs.Turns.{seen_from}
use Rattle.reassembly.proofs.stream.Stream.offer.Goals.{After-answer-offer}
use Rattle.reassembly.proofs.stream.Stream.offer.Goals as goal

-- the members for which the stream stood, once the next one was answered
module _ (c : After-answer-offer) (members : List Member) (stands : Stands c.args.self.now members) (lie : AllLieIn c.args.bytes.now members)
    (later : newest_of members < c.args.no) where
  abbrev now : KeptStream
  now = the_view c.self.inside

  abbrev next : Member
  next = member c.args.no c.args.tcp.now c.args.pay_at c.args.payload.now

  given : Given now c.args.bytes.now next members
  given = record {
    stands = subst (λ (k : KeptStream). Stands k members) (sym c.self.view_is) stands;
    lie = lie;
    later = later;
    none = c.if-self-ne0.false;
  }

  found : Found now.depth next members c.or-base.result c.placed-first.result.0 c.placed-first.result.1.now
  found =
      found_by now.depth next members c.self.inside.base c.opening.result c.or-base.result c.unwrap_or.result c.sequence.result
      c.placed-first.result.0 c.placed-first.result.1.now
      (opened now c.args.bytes.now next members given).base c.opening.ensures c.or-base.ensures c.unwrap_or.ensures
      c.sequence.ensures c.placed-first.ensures.first c.placed-first.ensures.bytes

  -- the answer, seen from the members' parts
  answer : c.answer-offer.result ≡ answer_to now.depth (seen_from now.depth next members) (brought now.depth next members)
  answer =
      answered now c.args.bytes.now next members given c.or-base.result c.placed-first.result.0
      c.placed-first.result.1.now found c.answer-offer.result c.answer-offer.ensures

  offer_is : c.answer-offer.result ≡ offer_of c.args.self.now.depth c.args.self.now.stop members next
  offer_is =
      subst (λ (k : KeptStream). c.answer-offer.result ≡ offer_of k.depth k.stop members next) c.self.view_is
      (subst (λ (s : ℕ). c.answer-offer.result ≡ offer_of now.depth s members next) (sym given.none) answer)

pub answer-offer-requires-clause-within : goal.answer-offer-requires-clause-within
answer-offer-requires-clause-within c =
    let now = the_view c.self.inside in
    let m = member c.args.no c.args.tcp.now c.args.pay_at c.args.payload.now in
    let members = c.requires.known.0 in
    let g : Given now c.args.bytes.now m members = record {
      stands = subst (λ (k : KeptStream). Stands k members) (sym c.self.view_is) c.requires.known.1;
      lie = c.requires.known.2;
      later = c.requires.known.3;
      none = c.if-self-ne0.false;
    } in
    within now c.args.bytes.now m members g

pub take_stretches-self-inside-requires-clause-within : goal.take_stretches-self-inside-requires-clause-within
take_stretches-self-inside-requires-clause-within c =
    let at = (goal.at.take_stretches-self-inside-requires-clause-within c).After-answer-offer in
    let known = c.requires.known in
    within (the_view c.self.inside) c.args.bytes.now (next at known.0 known.1 known.2 known.3) known.0
    (given at known.0 known.1 known.2 known.3)

pub take_stretches-self-inside-requires-clause-below : goal.take_stretches-self-inside-requires-clause-below
take_stretches-self-inside-requires-clause-below c =
    let at = (goal.at.take_stretches-self-inside-requires-clause-below c).After-answer-offer in
    let known = c.requires.known in
    next_ends (the_view c.self.inside) c.args.bytes.now (next at known.0 known.1 known.2 known.3) known.0
    (given at known.0 known.1 known.2 known.3) c.or-base.result c.placed-first.result.0 c.placed-first.result.1.now
    (found at known.0 known.1 known.2 known.3)

pub take_stretches-self-inside-requires-clause-frontier : goal.take_stretches-self-inside-requires-clause-frontier
take_stretches-self-inside-requires-clause-frontier c =
    let at = (goal.at.take_stretches-self-inside-requires-clause-frontier c).After-answer-offer in
    let known = c.requires.known in
    low (the_view c.self.inside) c.args.bytes.now (next at known.0 known.1 known.2 known.3) known.0
    (given at known.0 known.1 known.2 known.3)

pub returns-in-NeedsSegment-clause-offer : goal.returns-in-NeedsSegment-clause-offer
returns-in-NeedsSegment-clause-offer c = offer_is (goal.at.returns-in-NeedsSegment-clause-offer c).After-answer-offer

pub returns-in-InOrder-clause-offer : goal.returns-in-InOrder-clause-offer
returns-in-InOrder-clause-offer c = offer_is (goal.at.returns-in-InOrder-clause-offer c).After-answer-offer

pub returns-in-Nothing-clause-offer : goal.returns-in-Nothing-clause-offer
returns-in-Nothing-clause-offer c = offer_is (goal.at.returns-in-Nothing-clause-offer c).After-answer-offer

pub returns-in-NeedsSegment-clause-asks : goal.returns-in-NeedsSegment-clause-asks
returns-in-NeedsSegment-clause-asks c = λ members stands lie later needs.
    let at = (goal.at.returns-in-NeedsSegment-clause-asks c).After-answer-offer in
    let m = next at members stands lie later in
    let g = given at members stands lie later in
    let f = found at members stands lie later in
    let is = sym (answer at members stands lie later) ∙ needs in
    asks_of (the_view c.self.inside) m members g.stands g.none later c.or-base.result f.is_base _
    (spot_is (the_view c.self.inside) c.args.bytes.now m members g c.or-base.result c.placed-first.result.0
    c.placed-first.result.1.now f is) is

pub returns-in-Nothing-clause-stands : goal.returns-in-Nothing-clause-stands
returns-in-Nothing-clause-stands c = λ members stands lie later other.
    let at = (goal.at.returns-in-Nothing-clause-stands c).After-answer-offer in
    let now = the_view c.self.inside in
    let m = next at members stands lie later in
    let g = given at members stands lie later in
    stands_nothing now m members g.none (later, g.stands.rises) (seen now c.args.bytes.now m members g) c.or-base.result
    (found at members stands lie later).is_base g.stands.settled
    (answer_nothing now.depth (seen_from now.depth m members) (brought now.depth m members) c.answer-offer.result (answer at members stands lie later) c.in-Nothing.is)

pub returns-in-InOrder-clause-stands : goal.returns-in-InOrder-clause-stands
returns-in-InOrder-clause-stands c = λ members stands lie later other.
    let at = (goal.at.returns-in-InOrder-clause-stands c).After-answer-offer in
    let now = the_view c.self.inside in
    let bytes = c.args.bytes.now in
    let m = next at members stands lie later in
    let g = given at members stands lie later in
    let f = found at members stands lie later in
    let brings = next_is now bytes m members g c.or-base.result c.placed-first.result.0 c.placed-first.result.1.now f in
    stands_order now m members g.none (later, g.stands.rises)
    (seen now bytes m members g) c.or-base.result c.take_stretches-self-inside.result c.take_stretches-self-inside.new.hasher
    (newest_first c.release.new.waiting) (length c.release.new.freed) f.is_base g.stands.settled
    (sym (answer at members stands lie later) ∙ c.in-InOrder.is)
    (c.take_stretches-self-inside.ensures.frontier ∙ ap (λ (l : List ℕ). now.frontier + length l) brings)
    (λ l h. subst (λ (x : List ℕ). Holds c.take_stretches-self-inside.new.hasher (l ++ x)) brings (c.take_stretches-self-inside.ensures.taken l h))
    (ap newest_first c.release.ensures.waiting ∙ sym (newest_filter (λ (s : Spot). nat_lt c.take_stretches-self-inside.result s.first) c.self.inside.waiting))

pub returns-in-NeedsSegment-clause-payload : goal.returns-in-NeedsSegment-clause-payload
returns-in-NeedsSegment-clause-payload c = λ needs.
    let now = c.args.self.now in
    let known = c.requires.known in
    let answer = returns-in-NeedsSegment-clause-offer c known.0 known.1 known.2 known.3 in
    needs_payload now.depth now.stop known.0 (member c.args.no c.args.tcp.now c.args.pay_at c.args.payload.now) (sym answer ∙ needs)

pub invariant_of-self : goal.invariant_of-self
invariant_of-self c =
    let at = (goal.at.invariant_of-self c).After-answer-offer in
    let now = the_view c.self.inside in
    let known = c.requires.known in
    let m = next at known.0 known.1 known.2 known.3 in
    let g = given at known.0 known.1 known.2 known.3 in (
      may_wait c.args.no now.depth (unwrap_or (base_of (m ∷ known.0)) 0) c.self.inside.waiting _ known.0 g.stands.rises known.3 c.ranges.no.fits
          (seen now c.args.bytes.now m known.0 g).waiting refl c.placed-first.ensures.fits,
      c.self.invariant.1,
    )

pub returns-in-InOrder-clause-nodes : goal.returns-in-InOrder-clause-nodes
returns-in-InOrder-clause-nodes c =
    omega (arith, length_newest c.release.new.waiting, c.release.ensures.freed, length_newest c.self.inside.waiting, ap held c.self.view_is)
