use Rattle.std.proofs.Common.{Ok, Err, sym}
use Rattle.std.proofs.lemmas.List.{take_rest}
use Rattle.std.proofs.lemmas.Result.{err_from_is_err_and}
use Rattle.packet_decode.proofs.SpelledWhole.{reads_whole}
use Rattle.packet_decode.proofs.Transports.{view_of-inner, view_of-refused}
use Rattle.packet_decode.proofs.whole.decode.Goals as goal

pub returns-in_err-inner-clause-view : goal.returns-in_err-inner-clause-view
returns-in_err-inner-clause-view c =
    let p = err_from_is_err_and c.from_residual.result c.from_residual.ensures.1 in
    rw (p.1, p.2) (sym (view_of-refused c.args.link c.args.bytes.now _ c.in_err-inner.ensures.inner))

pub returns-in_err-view-clause-view : goal.returns-in_err-view-clause-view
returns-in_err-view-clause-view c =
    let p = err_from_is_err_and c.from_residual-in_err-view.result c.from_residual-in_err-view.ensures.1 in
    rw (p.1, p.2) (sym (view_of-inner c.args.link c.args.bytes.now c.in_ok-inner.inner (Err c.in_err-view.field-0.0) c.in_ok-inner.ensures.inner (simp take_rest at c.in_err-view.ensures.view)))

pub returns-clause-view : goal.returns-clause-view
returns-clause-view c =
    sym (view_of-inner c.args.link c.args.bytes.now c.in_ok-inner.inner (Ok c.in_ok-view.view) c.in_ok-inner.ensures.inner (simp take_rest at c.in_ok-view.ensures.view))

pub returns-in_err-inner-clause-spelled : goal.returns-in_err-inner-clause-spelled
returns-in_err-inner-clause-spelled c = reads_whole c.args.link c.args.bytes.now _ (returns-in_err-inner-clause-view c)

pub returns-in_err-view-clause-spelled : goal.returns-in_err-view-clause-spelled
returns-in_err-view-clause-spelled c = reads_whole c.args.link c.args.bytes.now _ (returns-in_err-view-clause-view c)

pub returns-clause-spelled : goal.returns-clause-spelled
returns-clause-spelled c = reads_whole c.args.link c.args.bytes.now _ (returns-clause-view c)
