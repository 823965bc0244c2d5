use Rattle.std.proofs.Common.{◌∙◌, ap}
use Rattle.bucket_rules.proofs.Words.{some_is}
use Rattle.bucket_flow.specs.Held.{Held}
use Rattle.flow_table.specs.Slots.{rank}
use Rattle.flow_table.proofs.Slots.{get_rank}
use Rattle.flow_bucket.proofs.bucket.FlowBucket.next_victim.Goals as goal

pub returns-in-Some : goal.returns-in-Some
returns-in-Some c =
    let slots = c.args.self.now.flows.slots in
    let v = c.in-Some.ensures.1 in
    (rank slots c.in-Some.slot, v, c.run.ensures ∙ ap (λ (f : Held). f.run) (some_is (get_rank slots c.in-Some.slot c.flow.result.now c.flow.ensures) v.there))
