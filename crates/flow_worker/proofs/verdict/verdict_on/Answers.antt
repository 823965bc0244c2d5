use Rattle.std.proofs.Common.{arith}
use Rattle.std.proofs.lemmas.Option.{slice_get_within}
use Rattle.flow_worker.proofs.Short.{seen_many}
use Rattle.suri_base.specs.declared.seen.Seen.TheVariants.{Bears}
use Rattle.flow_worker.proofs.verdict.verdict_on.Goals as goal

pub get-requires : goal.get-requires
get-requires c =
    let w = c.args.shared.now.capture.now in
    let h = c.requires.packet.1 in
    (h.0, omega (arith, h.0, slice_get_within w.seen _ (Bears c.requires.packet.0) h.1, seen_many _ w.frames w.clocks w.seen c.requires.shared.capture.seen))
