use Rattle.std.proofs.Common.{Ok, Err, sym}
use Rattle.std.proofs.lemmas.List.{take_rest}
use Rattle.std.proofs.lemmas.Result.{err_from_is_err_and}
use Rattle.packet_decode.proofs.SpelledFrame.{reads_frame}
use Rattle.packet_decode.proofs.Way.{to_ip_of-fault, to_ip_of-network}
use Rattle.packet_decode.proofs.laws.to_ip.Goals as goal

pub returns-in_err-network-clause-inner : goal.returns-in_err-network-clause-inner
returns-in_err-network-clause-inner c =
    let p = err_from_is_err_and c.from_residual.result c.from_residual.ensures.1 in
    rw (p.1, p.2) (sym (to_ip_of-fault c.args.link c.args.bytes.now _ c.in_err-network.ensures.network))

pub returns-in_err-view-clause-inner : goal.returns-in_err-view-clause-inner
returns-in_err-view-clause-inner c =
    let p = err_from_is_err_and c.from_residual-in_err-view.result c.from_residual-in_err-view.ensures.1 in
    rw (p.1, p.2) (sym (to_ip_of-network c.args.link c.args.bytes.now c.in_ok-network.network (Err c.in_err-view.field-0.0) c.in_ok-network.ensures.network (simp take_rest at c.in_err-view.ensures.view)))

pub returns-clause-inner : goal.returns-clause-inner
returns-clause-inner c =
    sym (to_ip_of-network c.args.link c.args.bytes.now c.in_ok-network.network (Ok c.in_ok-view.view) c.in_ok-network.ensures.network (simp take_rest at c.in_ok-view.ensures.view))

pub returns-in_err-network-clause-spelled : goal.returns-in_err-network-clause-spelled
returns-in_err-network-clause-spelled c = reads_frame c.args.link c.args.bytes.now _ (returns-in_err-network-clause-inner c)

pub returns-in_err-view-clause-spelled : goal.returns-in_err-view-clause-spelled
returns-in_err-view-clause-spelled c = reads_frame c.args.link c.args.bytes.now _ (returns-in_err-view-clause-inner c)

pub returns-clause-spelled : goal.returns-clause-spelled
returns-clause-spelled c = reads_frame c.args.link c.args.bytes.now _ (returns-clause-inner c)
