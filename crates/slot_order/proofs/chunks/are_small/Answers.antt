use Rattle.std.proofs.Common.{arith, ap, length, ◌≤◌, ◌-◌, ◌<◌, ◌+◌}
use Rattle.std.proofs.lemmas.Bool.Decides.{nat_tests}
use Rattle.slot_order.proofs.Rows.{at_read}
use Rattle.slot_order.proofs.chunks.are_small.Goals as goal

pub returns : goal.returns
returns g c = λ h.
    let m : c.args.at + 1 < length c.args.chunks.now = omega (arith, c.if-chunks-at-lt2.false, c.requires.at) in
    let here = at_read c.args.chunks.now c.args.at c.index-chunks-at.result c.index-chunks-at.is c.requires.at in
    let next = at_read c.args.chunks.now (c.args.at + 1) c.index-chunks-at-2.result c.index-chunks-at-2.is m in
    let few : c.len.result ≤ 128 - c.len-here.result = grind (arith, nat_tests, h) in
    (m, omega (arith, ap length here, ap length next, few, c.if-here-gt-HALF.false, c.len-here.ensures, c.len.ensures, c.index-chunks-at.result.ok.0, c.index-chunks-at-2.result.ok.0))
