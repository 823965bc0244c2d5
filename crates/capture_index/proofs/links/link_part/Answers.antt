use Rattle.std.proofs.Common.{◌≡◌, ◌-◌, ◌++◌, refl, ◌∙◌, ap, length, length-set, subst, take, drop, map, arith}
use Rattle.std.proofs.lemmas.List.{length-map}
use Rattle.suri_base.specs.Slot.{packed}
use Rattle.suri_base.specs.declared.slot.Slot.{Slot}
use Rattle.capture_index.specs.Links.{Tells, linked_before}
use Rattle.capture_index.proofs.Nexts.{linking_more, linking_none}
use Rattle.capture_index.proofs.links.link_part.Goals as goal

pub loop-place-init : goal.loop-place-init
loop-place-init c = record {
  within = omega arith;
  count = refl;
  linking = λ seen behind kept at tells. linking_none behind seen _ c.args.slots.now c.args.firsts.now refl kept tells;
}

pub loop-place-preserved : goal.loop-place-preserved
loop-place-preserved c =
    let so = c.loop-place.invariant in
    record {
      within = omega (arith, so.within);
      count = length-set c.loop-place.slots (c.loop-place.place - 1) c.link_one.new.slot ∙ so.count;
      linking = λ seen behind kept at tells.
          let many : length c.args.slots.now ≡ length seen = ap (length {A = Slot}) kept ∙ length-map seen packed in
          linking_more behind seen c.args.first (c.loop-place.place - 1) c.loop-place.place _ c.loop-place.slots _ c.loop-place.firsts c.link_one.new.firsts _ _ c.link_one.new.slot (omega (arith, c.loop-place-test.true))
          (omega (arith, so.within, many, c.loop-place-test.true)) refl at (so.linking seen behind kept at tells) refl c.in_ok-link_one.ensures.value c.in_ok-link_one.ensures.told refl;
    }

pub returns-clause-value : goal.returns-clause-value
returns-clause-value c seen behind kept at tells =
    let none : c.loop-place.place ≡ 0 = omega (arith, c.loop-place-test.false) in
    subst (λ k. c.loop-place.slots ≡ map packed (take k seen ++ linked_before behind (drop k seen))) none (c.loop-place.invariant.linking seen behind kept at tells).done

pub returns-clause-told : goal.returns-clause-told
returns-clause-told c seen behind kept at tells =
    let none : c.loop-place.place ≡ 0 = omega (arith, c.loop-place-test.false) in
    subst (λ k. Tells c.loop-place.firsts (drop k seen ++ behind)) none (c.loop-place.invariant.linking seen behind kept at tells).told
