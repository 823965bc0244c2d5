use Rattle.std.proofs.Common.{rules}
use Rattle.run_rules.specs.Histories.{histories_of}
use Rattle.run_rules.specs.Runs.{runs_in}
use Rattle.run_round.specs.Accounts.{setup_for}
use Rattle.suri_run.proofs.Accounted.{accounted}
use Rattle.suri_run.proofs.Naming.{named_lines}
use Rattle.suri_run.proofs.report.report_of.Goals as goal

pub returns-clause-account : goal.returns-clause-account
returns-clause-account g c =
    accounted c.args.options.now c.args.bytes.items c.args.file c.in_ok-capture.capture c.in_ok-lines.trail c.in_ok-lines.lines.items c.count-stats.result c.requires.reads
    c.in_ok-capture.ensures.value (search rules) c.in_ok-lines.ensures.accounts (rw c.deref.ensures.value at c.count-stats.ensures.counts) c.count-stats.ensures.once

pub returns-clause-named : goal.returns-clause-named
returns-clause-named g c =
    let w = setup_for c.in_ok-capture.capture c.args.options.now.layout in
    let accounts = c.in_ok-lines.ensures.accounts in
    named_lines w (histories_of c.in_ok-lines.trail) accounts.lawful.histories.scripted.legal c.requires.layout.rows.0 c.in_ok-capture.ensures.order c.in_ok-lines.lines.items
    (runs_in (histories_of c.in_ok-lines.trail)) accounts.records
