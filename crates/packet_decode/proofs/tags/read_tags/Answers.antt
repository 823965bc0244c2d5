use Rattle.std.proofs.Common.{◌≡◌, ◌%◌, true, false, refl, sym, ap, ◌∙◌, arith}
use Rattle.std.proofs.lemmas.Bool.Decides.{nat_tests}
use Rattle.std.proofs.lemmas.List.{length-drop, take_rest}
use Rattle.header_fields.specs.Fields.{number_at}
use Rattle.packet_decode.specs.Tags.{is_tag, with_id}
use Rattle.packet_decode.proofs.SoFar.{cut, deep, found, one_more, unknown}
use Rattle.packet_decode.proofs.tags.read_tags.Goals as goal

pub returns-then-vlans-eq-MAX_TAGS-clause-network : goal.returns-then-vlans-eq-MAX_TAGS-clause-network
returns-then-vlans-eq-MAX_TAGS-clause-network c =
    let tag : is_tag c.loop-rest.ethertype ≡ true = sym c.is_tag_type.ensures ∙ c.loop-rest-test.true in
    deep c.args.first c.args.bytes.now c.loop-rest.vlans c.loop-rest.ethertype c.loop-rest.rest.now c.loop-rest.invariant.so_far tag c.if-vlans-eq-MAX_TAGS.true

pub returns-then-rest-lt-TAG_LEN-clause-network : goal.returns-then-rest-lt-TAG_LEN-clause-network
returns-then-rest-lt-TAG_LEN-clause-network c =
    let tag : is_tag c.loop-rest.ethertype ≡ true = sym c.is_tag_type.ensures ∙ c.loop-rest-test.true in
    cut c.args.first c.args.bytes.now c.loop-rest.vlans c.loop-rest.ethertype c.loop-rest.rest.now c.loop-rest.invariant.so_far tag c.if-vlans-eq-MAX_TAGS.false
    c.if-rest-lt-TAG_LEN.true

pub loop-rest-preserved : goal.loop-rest-preserved
loop-rest-preserved c =
    let tag : is_tag c.loop-rest.ethertype ≡ true = sym c.is_tag_type.ensures ∙ c.loop-rest-test.true in
    let tagged : c.with_tag-vlans.result ≡ with_id c.loop-rest.vlans (number_at 2 0 c.loop-rest.rest.now % 4096) =
    c.with_tag-vlans.ensures.value ∙ ap (λ n. with_id c.loop-rest.vlans (n % 4096)) c.half_at.ensures.value in
    let step = one_more c.args.first c.args.bytes.now c.loop-rest.vlans c.with_tag-vlans.result c.loop-rest.ethertype c.loop-rest.rest.now
    c.loop-rest.invariant.so_far tag c.if-vlans-eq-MAX_TAGS.false c.if-rest-lt-TAG_LEN.false tagged in
    simp take_rest (rw c.half_at-ethertype.ensures.value record {
      so_far = step;
      tags = c.with_tag-vlans.ensures.tags;
      shorter = omega (arith, length-drop 4 c.loop-rest.rest.now, c.loop-rest.invariant.shorter);
    })

pub returns-in-2048-clause-network : goal.returns-in-2048-clause-network
returns-in-2048-clause-network c =
    let none : is_tag c.loop-rest.ethertype ≡ false = sym c.is_tag_type.ensures ∙ c.loop-rest-test.false in
    found c.args.first c.args.bytes.now c.loop-rest.vlans c.loop-rest.ethertype 4 c.loop-rest.rest.now c.loop-rest.invariant.so_far none (rw c.in-2048.is refl)

pub returns-in-34525-clause-network : goal.returns-in-34525-clause-network
returns-in-34525-clause-network c =
    let none : is_tag c.loop-rest.ethertype ≡ false = sym c.is_tag_type.ensures ∙ c.loop-rest-test.false in
    found c.args.first c.args.bytes.now c.loop-rest.vlans c.loop-rest.ethertype 6 c.loop-rest.rest.now c.loop-rest.invariant.so_far none (rw c.in-34525.is refl)

pub returns-in_default-clause-network : goal.returns-in_default-clause-network
returns-in_default-clause-network c =
    let none : is_tag c.loop-rest.ethertype ≡ false = sym c.is_tag_type.ensures ∙ c.loop-rest-test.false in
    unknown c.args.first c.args.bytes.now c.loop-rest.vlans c.loop-rest.ethertype c.loop-rest.rest.now c.loop-rest.invariant.so_far none (grind (arith, nat_tests, c.in_default))
