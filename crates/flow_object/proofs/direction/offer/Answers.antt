use Rattle.std.proofs.Common.{ℕ, List, [], Some, Option, length, refl, sym, ap, subst, arith}
use Rattle.std.specs.Prelude.{IsSome}
use Rattle.reassembly.specs.Kept.{AllLieIn, LiesIn, Stands}
use Rattle.suri_base.specs.App.{payload_of}
use Rattle.suri_base.specs.declared.facts.TcpFacts.{TcpFacts}
use Rattle.flow_object.specs.Streams.{with_member}
use Rattle.flow_object.proofs.Payloads.{payload_length, payload_lies}
use Rattle.flow_object.proofs.direction.offer.Goals as goal

pub offer-requires-clause-payload : goal.offer-requires-clause-payload
offer-requires-clause-payload c =
    let f = c.args.facts.now in
    let bytes = c.args.capture.now.bytes in
    let lies = payload_lies bytes f (c.payload-payload.ensures.inside f c.requires.facts) in
    let same = c.payload-payload.ensures.bytes f c.requires.facts in
    subst (λ (b : List ℕ). LiesIn b f.pay_at c.payload-payload.result.now) (sym c.bytes.ensures) (subst (LiesIn bytes f.pay_at) (sym same) lies)

pub returns-in-Some-clause-inside : goal.returns-in-Some-clause-inside
returns-in-Some-clause-inside c =
    let f = c.args.facts.now in
    let bytes = c.args.capture.now.bytes in
    let lies = payload_lies bytes f (c.payload-payload.ensures.inside f c.requires.facts) in
    subst (λ (t : Option TcpFacts). AllLieIn bytes (with_member t f.no f.pay_at (payload_of bytes f) [])) (sym c.in-Some.is) (lies, tt)

pub returns-in-Some-clause-stands : goal.returns-in-Some-clause-stands
returns-in-Some-clause-stands c = λ older stands lie later other.
    let f = c.args.facts.now in
    let same = c.payload-payload.ensures.bytes f c.requires.facts in
    subst (λ (t : Option TcpFacts). Stands c.offer.new.self (with_member t f.no f.pay_at (payload_of c.args.capture.now.bytes f) older)) (sym c.in-Some.is)
    (subst (λ (l : List ℕ). Stands c.offer.new.self (with_member (Some c.in-Some.tcp) f.no f.pay_at l older)) same
    (c.offer.ensures.stands older stands (subst (λ (b : List ℕ). AllLieIn b older) (sym c.bytes.ensures) lie) later other))

pub returns-in-Some-clause-payload : goal.returns-in-Some-clause-payload
returns-in-Some-clause-payload c = λ needs.
    let f = c.args.facts.now in
    let bytes = c.args.capture.now.bytes in
    let long = payload_length bytes f (c.payload-payload.ensures.inside f c.requires.facts) in
    let same = ap (λ (l : List ℕ). length l) (c.payload-payload.ensures.bytes f c.requires.facts) in
    let some = c.offer.ensures.payload needs in
    (subst IsSome (sym c.in-Some.is) refl, omega (arith, long, same, some))
