use Rattle.std.specs.Prelude.{IsSome}
use Rattle.std.proofs.Common.{◌≡◌, ◌<◌, List, sym, ap, ◌∙◌, subst}
use Rattle.suri_base.specs.declared.app.App.{App}
use Rattle.flow_sum.specs.Run.{Run, with_one_more}
use Rattle.flow_sum.specs.Sums.{way_of}
use Rattle.flow_sum.specs.declared.sums.Sums.{Sums}
use Rattle.flow_object.specs.Object.{state_after, Object}
use Rattle.flow_object.specs.Standing.{StandsFor}
use Rattle.flow_object.specs.Streams.{offer_in}
use Rattle.flow_object.specs.contracts.object.FlowObj.{the_view}
use Rattle.flow_object.specs.declared.object.FlowObj.TheInside.{Inside}
use Rattle.flow_object.proofs.Absorbing.{After, Absorbed, Offered, by_server, by_client}
use Rattle.flow_object.proofs.Settling.{asks_some}
use Rattle.flow_object.proofs.object.FlowObj.absorb.Goals.{in-ToServer, in-ToClient}
use Rattle.flow_object.proofs.object.FlowObj.absorb.Goals as goal

-- what became of the rest, whichever stream took the packet
rest : (c : goal.After-follow) → c.match-way.self-inside.depth ≡ c.self.inside.depth → c.match-way.self-inside.app ≡ c.self.inside.app
    → c.match-way.self-inside.sums ≡ c.self.inside.sums
    → c.match-way.self-inside.session ≡ c.self.inside.session → After (the_view c.self.inside) c.follow.new.self c.args.facts.now
rest c depth app sums session =
    let f = c.args.facts.now in
    let after = c.follow.ensures in
    let own : c.add.new.self ≡ c.follow.new.self.sums = sym (ap (λ (k : Object). k.sums) after) in
    record {
      depth = ap (λ (k : Object). k.depth) after ∙ depth;
      app = ap (λ (k : Object). k.app) after ∙ app;
      sums = λ r e. ap (λ (k : Object). k.sums) after ∙ c.add.ensures r (sums ∙ e);
      state = ap (λ (k : Object). k.state) after
          ∙ (ap (λ (x : Sums). state_after f.tcp (way_of x.client f.side) c.match-way.self-inside.session) own
          ∙ ap (state_after f.tcp (way_of c.follow.new.self.sums.client f.side)) session);
    }

absorbed : (c : goal.After-follow) (r : Run) (judged : List App) → StandsFor c.args.self.now c.args.capture.now.bytes r judged
    → Absorbed (the_view c.self.inside) c.follow.new.self c.args.capture.now.bytes c.args.facts.now r judged c.match-way.answer
absorbed c r judged s =
    let o = the_view c.self.inside in
    let f = c.args.facts.now in
    let bytes = c.args.capture.now.bytes in
    let new = c.follow.new.self in
    let here : StandsFor o bytes r judged = subst (λ (x : Object). StandsFor x bytes r judged) (sym c.self.view_is) s in
    let later : o.sums.last_no < f.no = subst (λ (x : Object). x.sums.last_no < f.no) (sym c.self.view_is) c.requires.later in
    elim c.match-way.branch as (λ _. Absorbed o new bytes f r judged c.match-way.answer) [
      | in-ToServer w ↦
          (let same = w.self-inside-is in
          let told : Offered o.ts w.offer-answer.new.stream bytes f w.offer-answer.result = record {
            setting = w.offer-answer.ensures.settings;
            inside = w.offer-answer.ensures.inside;
            offer = w.offer-answer.ensures.offer;
            stands = w.offer-answer.ensures.stands;
            asks = w.offer-answer.ensures.asks;
          } in
          let after = rest c (ap (λ (i : Inside). i.depth) same) (ap (λ (i : Inside). i.app) same) (ap (λ (i : Inside). i.sums) same)
          (ap (λ (i : Inside). i.session) same) in
          subst (Absorbed o new bytes f r judged) (sym w.answer-is)
          (by_server o new bytes f r judged here after later w.offer-answer.ensures.inside w.offer-answer.new.stream w.offer-answer.result
          (sym c.way-way.ensures ∙ w.in-ToServer.is)
          (ap (λ (k : Object). k.ts) c.follow.ensures ∙ ap (λ (i : Inside). i.ts) same) (ap (λ (k : Object). k.tc) c.follow.ensures
          ∙ ap (λ (i : Inside). i.tc) same) told))
      | in-ToClient w ↦
          (let same = w.self-inside-is in
          let told : Offered o.tc w.offer-answer-in-ToClient.new.stream bytes f w.offer-answer-in-ToClient.result = record {
            setting = w.offer-answer-in-ToClient.ensures.settings;
            inside = w.offer-answer-in-ToClient.ensures.inside;
            offer = w.offer-answer-in-ToClient.ensures.offer;
            stands = w.offer-answer-in-ToClient.ensures.stands;
            asks = w.offer-answer-in-ToClient.ensures.asks;
          } in
          let after = rest c (ap (λ (i : Inside). i.depth) same) (ap (λ (i : Inside). i.app) same) (ap (λ (i : Inside). i.sums) same)
          (ap (λ (i : Inside). i.session) same) in
          subst (Absorbed o new bytes f r judged) (sym w.answer-is)
          (by_client o new bytes f r judged here after later w.offer-answer-in-ToClient.ensures.inside w.offer-answer-in-ToClient.new.stream
          w.offer-answer-in-ToClient.result (sym c.way-way.ensures ∙ w.in-ToClient.is)
          (ap (λ (k : Object). k.tc) c.follow.ensures ∙ ap (λ (i : Inside). i.tc) same) (ap (λ (k : Object). k.ts) c.follow.ensures
          ∙ ap (λ (i : Inside). i.ts) same) told))
    ]

pub returns-clause-offer : goal.returns-clause-offer
returns-clause-offer c = λ r judged s.
    subst (λ (x : Object). c.match-way.answer ≡ offer_in x c.args.capture.now.bytes r c.args.facts.now) c.self.view_is (absorbed c r judged s).offer

pub returns-clause-stands : goal.returns-clause-stands
returns-clause-stands c = λ r judged s. (absorbed c r judged s).stands

pub returns-clause-asks : goal.returns-clause-asks
returns-clause-asks c = λ r judged s. (absorbed c r judged s).asks

pub returns-clause-asked : goal.returns-clause-asked
returns-clause-asked c = λ needs.
    let known = c.requires.known in
    asks_some c.follow.new.self c.args.capture.now.bytes (with_one_more c.args.facts.now known.0) known.1 ((absorbed c known.0 known.1 known.2).asks needs)

pub returns-clause-payload : goal.returns-clause-payload
returns-clause-payload c = λ needs.
    elim c.match-way.branch as (λ _. IsSome c.args.facts.now.tcp × (0 < c.args.facts.now.pay_len)) [
      | in-ToServer w ↦ w.offer-answer.ensures.payload (sym w.answer-is ∙ needs)
      | in-ToClient w ↦ w.offer-answer-in-ToClient.ensures.payload (sym w.answer-is ∙ needs)
    ]
