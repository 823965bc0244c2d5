use Rattle.std.proofs.Common.{ℕ, List, ◌++◌, ap, ◌∙◌}
use Rattle.std.proofs.lemmas.List.{append_assoc}
use Rattle.std.proofs.lemmas.Result.{on_ok_weaker}
use Rattle.capture_gen.specs.declared.conversation.Conversation.{Conversation}
use Rattle.capture_gen.specs.Frame.{link}
use Rattle.capture_gen.specs.Packet.{packet}
use Rattle.capture_gen.proofs.frame.write_frame.Goals as goal

pub returns : goal.returns
returns c =
    let lane = c.args.lane in
    let step = c.args.turn.step in
    let out = c.args.out.now.items in
    let body = packet lane c.conversation_from.result step in
    on_ok_weaker c.write_packet.result
    (λ written. written ∙ ap (λ (before : List ℕ). before ++ body) c.in_ok-write_link.ensures ∙ append_assoc out (link lane) body
    ∙ ap (λ (k : Conversation). out ++ (link lane ++ packet lane k step)) c.conversation_from.ensures.value) c.write_packet.ensures
