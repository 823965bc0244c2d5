use Rattle.std.proofs.Common.{◌≡◌, ◌+◌, length, arith}
use Rattle.std.specs.Prelude.{Ok}
use Rattle.packet_decode.specs.Layers.{view_of}
use Rattle.capture_index.proofs.Decoded.{facts_own, seen_own}
use Rattle.capture_index.proofs.decode.slot_in.Goals as goal

pub returns-in-Ok-clause-own : goal.returns-in-Ok-clause-own
returns-in-Ok-clause-own c =
    let size = c.args.frame.now.at + length c.args.bytes.now in
    let view : view_of c.args.link c.args.bytes.now ≡ Ok c.in-Ok.view = cc in
    seen_own size c.args.link c.args.frame.now c.args.clock c.args.bytes.now c.in-Ok.view c.facts_in.result view c.facts_in.ensures.value
    (facts_own size c.args.frame.now c.args.clock c.in-Ok.view c.facts_in.result c.facts_in.ensures.value (omega (arith, c.in-Ok.ensures.inside)) c.in-Ok.ensures.tcp c.in-Ok.ensures.icmp c.facts_in.ensures.key)
