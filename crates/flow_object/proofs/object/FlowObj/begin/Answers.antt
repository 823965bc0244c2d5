use Rattle.std.proofs.Common.{◌≡◌, ◌<◌, [], sym, ap, ◌∙◌, subst, arith}
use Rattle.reassembly.specs.Kept.{KeptStream, Stands}
use Rattle.flow_sum.specs.Run.{alone}
use Rattle.flow_sum.specs.Sums.{way_of}
use Rattle.flow_sum.specs.declared.sums.Sums.{Sums}
use Rattle.suri_base.specs.declared.app.App.TheVariants as app
use Rattle.flow_object.specs.Object.{state_after, Object}
use Rattle.flow_object.specs.Standing.{StandsFor}
use Rattle.flow_object.proofs.Absorbing.{Offered}
use Rattle.flow_object.proofs.Beginning.{Fresh, begun_client, begun_server}
use Rattle.flow_object.proofs.object.FlowObj.begin.Goals.{in-ToServer, in-ToClient}
use Rattle.flow_object.proofs.object.FlowObj.begin.Goals as goal

-- what became of the rest, whichever stream took the packet
rest : (c : goal.After-follow) → c.match-way.self.sums ≡ c.first-self-inside.result → c.match-way.self.state ≡ c.new-self-inside.result
    → c.match-way.self.app ≡ app.None → Fresh c.follow.new.self c.args.facts.now
rest c taken session app =
    let f = c.args.facts.now in
    let new = c.follow.new.self in
    let after = c.follow.ensures in
    let sums : new.sums ≡ c.match-way.self.sums = ap (λ (k : Object). k.sums) after in
    record {
      sums = sums ∙ (taken ∙ c.first-self-inside.ensures);
      state = ap (λ (k : Object). k.state) after
          ∙ (ap (λ (x : Sums). state_after f.tcp (way_of x.client f.side) c.match-way.self.state) (sym sums)
          ∙ ap (state_after f.tcp (way_of new.sums.client f.side)) (session ∙ c.new-self-inside.ensures));
      app = ap (λ (k : Object). k.app) after ∙ app;
    }

pub returns-clause-begun : goal.returns-clause-begun
returns-clause-begun c =
    let f = c.args.facts.now in
    let bytes = c.args.capture.now.bytes in
    let new = c.follow.new.self in
    let after = c.follow.ensures in
    let h = c.requires.facts.0 in
    let some : 0 < f.no = omega (arith, h) in
    let way = ap (λ (x : Sums). way_of x.client f.side) (sym c.first-self-inside.ensures) ∙ sym c.way-way.ensures in
    let ts = c.blank.ensures in
    let tc = c.blank-2.ensures in
    elim c.match-way.branch as (λ _. StandsFor new bytes (alone f) []) [
      | in-ToServer w ↦
          (let told : Offered c.blank.result w.offer-answer.new.stream bytes f w.offer-answer.result = record {
            setting = w.offer-answer.ensures.settings;
            inside = w.offer-answer.ensures.inside;
            offer = w.offer-answer.ensures.offer;
            stands = w.offer-answer.ensures.stands;
            asks = w.offer-answer.ensures.asks;
          } in
          let same = w.self-is in
          let fresh = rest c (ap (λ (k : Object). k.sums) same) (ap (λ (k : Object). k.state) same) (ap (λ (k : Object). k.app) same) in
          let depth = ap (λ (k : Object). k.depth) after ∙ ap (λ (k : Object). k.depth) same in
          let is_ts = ap (λ (k : Object). k.ts) after ∙ ap (λ (k : Object). k.ts) same in
          let is_tc = ap (λ (k : Object). k.tc) after ∙ ap (λ (k : Object). k.tc) same in
          begun_server new bytes f fresh some w.offer-answer.ensures.inside c.blank.result w.offer-answer.new.stream w.offer-answer.result
          (way ∙ w.in-ToServer.is) is_ts (subst (λ (k : KeptStream). Stands k []) (sym is_tc) tc.stands) ts.stands ts.unstopped told
          (ap (λ (k : KeptStream). k.depth) is_ts ∙ (w.offer-answer.ensures.settings ∙ (ts.setting ∙ sym depth)))
          (ap (λ (k : KeptStream). k.depth) is_tc ∙ (tc.setting ∙ sym depth)))
      | in-ToClient w ↦
          (let told : Offered c.blank-2.result w.offer-answer-in-ToClient.new.stream bytes f w.offer-answer-in-ToClient.result = record {
            setting = w.offer-answer-in-ToClient.ensures.settings;
            inside = w.offer-answer-in-ToClient.ensures.inside;
            offer = w.offer-answer-in-ToClient.ensures.offer;
            stands = w.offer-answer-in-ToClient.ensures.stands;
            asks = w.offer-answer-in-ToClient.ensures.asks;
          } in
          let same = w.self-is in
          let fresh = rest c (ap (λ (k : Object). k.sums) same) (ap (λ (k : Object). k.state) same) (ap (λ (k : Object). k.app) same) in
          let depth = ap (λ (k : Object). k.depth) after ∙ ap (λ (k : Object). k.depth) same in
          let is_ts = ap (λ (k : Object). k.ts) after ∙ ap (λ (k : Object). k.ts) same in
          let is_tc = ap (λ (k : Object). k.tc) after ∙ ap (λ (k : Object). k.tc) same in
          begun_client new bytes f fresh some w.offer-answer-in-ToClient.ensures.inside c.blank-2.result
          w.offer-answer-in-ToClient.new.stream w.offer-answer-in-ToClient.result (way ∙ w.in-ToClient.is) is_tc
          (subst (λ (k : KeptStream). Stands k []) (sym is_ts) ts.stands) tc.stands tc.unstopped told
          (ap (λ (k : KeptStream). k.depth) is_ts ∙ (ts.setting ∙ sym depth))
          (ap (λ (k : KeptStream). k.depth) is_tc ∙ (w.offer-answer-in-ToClient.ensures.settings ∙ (tc.setting ∙ sym depth))))
    ]
