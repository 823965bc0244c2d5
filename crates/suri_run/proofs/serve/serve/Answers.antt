use Rattle.suri_run.proofs.Complete.{written}
use Rattle.suri_run.proofs.serve.serve.Goals as goal

pub returns-in-Ok-clause-ends : goal.returns-in-Ok-clause-ends
returns-in-Ok-clause-ends g c =
    written c.write_output-outcome.result _ _ _ c.in-Ok.options c.in-Ok.report.trail c.in-Ok.report.lines.items c.in-Ok.report.stats c.in-Ok.ensures.ready
    c.write_output-outcome.ensures.ok c.write_output-outcome.ensures.front c.write_output-outcome.ensures.cause c.write_output-outcome.ensures.quiet
