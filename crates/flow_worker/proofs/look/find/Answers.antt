use Rattle.std.proofs.Common.{[], Option, refl, subst}
use Rattle.flow_worker.specs.Looking.{Looked}
use Rattle.flow_worker.specs.Places.{is_looking, is_missed, to_missed}
use Rattle.flow_worker.proofs.Finding.{began_on}
use Rattle.flow_worker.proofs.Steps.{may_on}
use Rattle.flow_worker.proofs.look.find.Goals as goal
use Rattle.suri_base.specs.declared.stream.Offer.{Offer}

pub begin-requires-clause-stands : goal.begin-requires-clause-stands
begin-requires-clause-stands g c =
    let l = subst (λ (o : Option Offer). Looked c.args.shared.now c.args.worker.now c.look.new.worker c.args.no c.args.emergency c.args.seen o) c.in-None.is c.in_ok-offer.ensures in
    may_on c.args.shared.now c.args.worker.now c.look.new.worker (is_looking c.args.no c.args.emergency c.args.seen) (is_missed c.args.no) (to_missed c.args.no) [] c.requires.stands l (λ before st todo hand is there. refl)

pub returns-in-Some : goal.returns-in-Some
returns-in-Some g c = subst (λ (o : Option Offer). Looked c.args.shared.now c.args.worker.now c.look.new.worker c.args.no c.args.emergency c.args.seen o) c.in-Some.is c.in_ok-offer.ensures

pub returns-in_ok-said-in-None : goal.returns-in_ok-said-in-None
returns-in_ok-said-in-None g c =
    let l = subst (λ (o : Option Offer). Looked c.args.shared.now c.args.worker.now c.look.new.worker c.args.no c.args.emergency c.args.seen o) c.in-None.is c.in_ok-offer.ensures in
    began_on c.args.shared.now c.args.worker.now c.look.new.worker c.begin.new.worker c.args.no c.args.emergency c.args.seen c.in_ok-said-in-None.said l c.in_ok-said-in-None.ensures
