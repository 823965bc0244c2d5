use Rattle.std.proofs.Common.{arith}
use Rattle.run_laws.specs.Setting.{IsSetup}
use Rattle.run_rules.specs.Histories.{histories_of}
use Rattle.run_rules.specs.Setup.{Setup}
use Rattle.run_round.specs.Accounts.{setup_for}
use Rattle.suri_run.proofs.Bounds.{bytes_small}
use Rattle.suri_run.proofs.report.count.Goals as goal

pub stats_of-requires-clause-packets : goal.stats_of-requires-clause-packets
stats_of-requires-clause-packets c =
    let w : Setup = setup_for c.args.capture.now c.args.trail.now.layout in
    let d : IsSetup w = record { capture = c.requires.capture; layout = c.requires.layout } in
    let few = c.counts_add_up.ensures.recorded w (histories_of c.args.trail.now) c.args.lines.now d c.requires.accounts.lawful.histories.scripted c.requires.accounts.records in
    omega (arith, few, c.requires.capture.few)

pub stats_of-requires-clause-bytes : goal.stats_of-requires-clause-bytes
stats_of-requires-clause-bytes c =
    let w : Setup = setup_for c.args.capture.now c.args.trail.now.layout in
    let d : IsSetup w = record { capture = c.requires.capture; layout = c.requires.layout } in
    let few = c.counts_add_up.ensures.bytes w (histories_of c.args.trail.now) c.args.lines.now d c.requires.accounts.lawful.histories.scripted c.requires.accounts.records in
    omega (arith, few, bytes_small c.args.capture.now c.requires.capture c.requires.order)

pub stats_of-requires-clause-refusals : goal.stats_of-requires-clause-refusals
stats_of-requires-clause-refusals c =
    let w : Setup = setup_for c.args.capture.now c.args.trail.now.layout in
    let d : IsSetup w = record { capture = c.requires.capture; layout = c.requires.layout } in
    let few = c.counts_add_up.ensures.refused w c.args.trail.now d c.requires.accounts.lawful.histories.scripted in
    omega (arith, few, c.requires.capture.few)

pub returns-clause-once : goal.returns-clause-once
returns-clause-once c =
    let w : Setup = setup_for c.args.capture.now c.args.trail.now.layout in
    let d : IsSetup w = record { capture = c.requires.capture; layout = c.requires.layout } in
    c.counts_add_up.ensures.trail w c.args.trail.now c.args.lines.now _ d c.requires.accounts.lawful.histories.scripted c.requires.accounts.records c.stats_of.ensures
