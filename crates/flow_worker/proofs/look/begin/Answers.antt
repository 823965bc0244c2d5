use Rattle.std.proofs.Common.{[], ◌∷◌, Box, Global, Option, refl, subst}
use Rattle.bucket_rules.specs.Own.{is_needing}
use Rattle.flow_object.specs.Object.{Object}
use Rattle.flow_worker.specs.Looking.{FoundObject}
use Rattle.flow_worker.specs.Places.{is_denied, is_granted, is_missed, to_denied, to_granted, to_next, to_settling}
use Rattle.flow_worker.proofs.Steps.{goes_on, may_on}
use Rattle.flow_worker.proofs.look.begin.Goals as goal

pub make-requires-clause-stands : goal.make-requires-clause-stands
make-requires-clause-stands g c =
    let o = subst (λ (o : Option (Box Object Global)). FoundObject c.args.shared.now c.args.worker.now c.find_object.new.worker c.args.no o) c.in-Some.is c.in_ok-obj.ensures in
    may_on c.args.shared.now c.args.worker.now c.find_object.new.worker (is_missed c.args.no) (is_granted c.args.no) (to_granted c.args.no) [] c.requires.stands o.1 (λ before st todo hand is there. refl)

pub refuse-requires-clause-stands : goal.refuse-requires-clause-stands
refuse-requires-clause-stands g c =
    let o = subst (λ (o : Option (Box Object Global)). FoundObject c.args.shared.now c.args.worker.now c.find_object.new.worker c.args.no o) c.in-None.is c.in_ok-obj.ensures in
    may_on c.args.shared.now c.args.worker.now c.find_object.new.worker (is_missed c.args.no) (is_denied c.args.no) (to_denied c.args.no) [] c.requires.stands o (λ before st todo hand is there. refl)

pub returns-in_ok-offer-in-Some : goal.returns-in_ok-offer-in-Some
returns-in_ok-offer-in-Some g c =
    let o = subst (λ (o : Option (Box Object Global)). FoundObject c.args.shared.now c.args.worker.now c.find_object.new.worker c.args.no o) c.in-Some.is c.in_ok-obj.ensures in
    (goes_on c.args.shared.now c.args.worker.now c.find_object.new.worker c.make.new.worker (is_missed c.args.no) (is_granted c.args.no) (to_granted c.args.no) (to_settling (is_needing c.in_ok-offer-in-Some.offer) c.args.no) [] [] o.1 c.in_ok-offer-in-Some.ensures.0 (λ before st todo hand is there. refl) (λ st todo p hand. refl), c.in_ok-offer-in-Some.ensures.1)

pub returns-in_ok-refuse-in-None : goal.returns-in_ok-refuse-in-None
returns-in_ok-refuse-in-None g c =
    let o = subst (λ (o : Option (Box Object Global)). FoundObject c.args.shared.now c.args.worker.now c.find_object.new.worker c.args.no o) c.in-None.is c.in_ok-obj.ensures in
    (goes_on c.args.shared.now c.args.worker.now c.find_object.new.worker c.refuse.new.worker (is_missed c.args.no) (is_denied c.args.no) (to_denied c.args.no) to_next [] (c.args.no ∷ []) o c.in_ok-refuse-in-None.ensures.0 (λ before st todo hand is there. refl) (λ st todo p hand. refl), c.in_ok-refuse-in-None.ensures.1)
