use Rattle.std.proofs.Common.{[], ◌∙◌, Bool, Option, ap, refl, subst, sym}
use Rattle.bucket_rules.specs.Own.{is_needing}
use Rattle.flow_worker.specs.Looking.{Found}
use Rattle.flow_worker.specs.Places.{is_asking, is_looking, to_next, to_settling}
use Rattle.flow_worker.proofs.Allowed.{bears_flow, home_in, mine_at, mine_of}
use Rattle.flow_worker.proofs.Telling.{told_on}
use Rattle.std.proofs.Common.{◌++◌, false}
use Rattle.flow_worker.proofs.Steps.{goes_as, goes_on, may_on}
use Rattle.flow_worker.proofs.look.look_up.Goals as goal
use Rattle.run_rules.specs.Worker.{held_at, settle_on}
use Rattle.suri_base.specs.declared.stream.Offer.{Offer}

pub home_of-home-requires-clause-packet : goal.home_of-home-requires-clause-packet
home_of-home-requires-clause-packet g c = let m = c.requires.stands in bears_flow c.args.shared.now c.args.worker.now c.requires.shared m.before m.stand m.is c.args.no m.todo m.there.stage

pub settle-requires-clause-stands : goal.settle-requires-clause-stands
settle-requires-clause-stands g c =
    let f = subst (λ (o : Option Offer). Found c.args.shared.now c.args.worker.now c.find.new.worker c.args.no c.args.emergency c.args.seen o) c.in-Some.is c.in_ok-offer.ensures in
    may_on c.args.shared.now c.args.worker.now c.find.new.worker (is_looking c.args.no c.args.emergency c.args.seen) (is_asking c.args.no) (to_settling (is_needing c.in-Some.offer) c.args.no) [] c.requires.stands f.0
    (λ before st todo hand is there. ap (λ (b : Bool). settle_on b c.args.no st.batch todo) (sym c.needs_node.ensures ∙ c.if-needs_node.true))

pub returns-then-needs_node : goal.returns-then-needs_node
returns-then-needs_node g c =
    let f = subst (λ (o : Option Offer). Found c.args.shared.now c.args.worker.now c.find.new.worker c.args.no c.args.emergency c.args.seen o) c.in-Some.is c.in_ok-offer.ensures in (
      goes_on c.args.shared.now c.args.worker.now c.find.new.worker c.settle.new.worker (is_looking c.args.no c.args.emergency c.args.seen) (is_asking c.args.no) (to_settling (is_needing c.in-Some.offer) c.args.no) to_next [] [] f.0 c.in_ok-settle-in-Some.ensures
          (λ before st todo hand is there. ap (λ (b : Bool). settle_on b c.args.no st.batch todo) (sym c.needs_node.ensures ∙ c.if-needs_node.true)) (λ st todo p hand. refl),
      let m = c.requires.stands in
          let mid = f.0 m.before m.stand m.todo m.is m.there in
          let end = c.in_ok-settle-in-Some.ensures (mid.now ++ m.before) (held_at (to_settling (is_needing c.in-Some.offer) c.args.no m.stand m.todo) mid.hand m.stand) m.todo mid.is (ap (λ (b : Bool). settle_on b c.args.no m.stand.batch m.todo) (sym c.needs_node.ensures ∙ c.if-needs_node.true)) in
          let mine = mine_of c.args.shared.now c.args.worker.now c.find.new.worker c.args.no mid.acted.number (mine_at c.args.shared.now c.args.worker.now c.requires.shared m.before m.stand m.is c.args.no m.todo m.there.stage) in
          told_on c.args.shared.now c.find.new.worker c.settle.new.worker c.args.no false c.requires.shared mine (home_in c.args.shared.now c.find.new.worker c.args.no c.requires.shared m.is.setup.layout mid.acted.fits mine) end.now end.acted f.1,
    )

pub returns-else-needs_node : goal.returns-else-needs_node
returns-else-needs_node g c =
    let f = subst (λ (o : Option Offer). Found c.args.shared.now c.args.worker.now c.find.new.worker c.args.no c.args.emergency c.args.seen o) c.in-Some.is c.in_ok-offer.ensures in (
      goes_as c.args.shared.now c.args.worker.now c.find.new.worker (is_looking c.args.no c.args.emergency c.args.seen) (to_settling (is_needing c.in-Some.offer) c.args.no) to_next [] f.0
          (λ st todo there. ap (λ (b : Bool). settle_on b c.args.no st.batch todo) (sym c.needs_node.ensures ∙ c.if-needs_node.false)),
      f.1,
    )
