use Rattle.std.proofs.Common.{List, sym, ap, ◌∙◌, subst}
use Rattle.std.proofs.lemmas.List.Sorted.{IsPermutation-trans}
use Rattle.quiet_limits.proofs.Limits.{quiet}
use Rattle.role_meets.specs.declared.roles.Role.{Role}
use Rattle.round_laws.specs.Between.{Between}
use Rattle.end_laws.specs.Ended.{IsRunEnd}
use Rattle.round_laws.proofs.Beginning.{begins}
use Rattle.role_steps.specs.Roles.{setup_of}
use Rattle.run_round.proofs.Accounting.{accounted}
use Rattle.run_round.proofs.Plain.{quiet_records}
use Rattle.run_round.proofs.Rounding.{still}
use Rattle.run_round.specs.Accounts.{setup_for}
use Rattle.run_rules.specs.Histories.{histories_of}
use Rattle.run_rules.specs.Setup.{Setup, rounds}
use Rattle.run_round.proofs.run.run_with.Goals as goal

pub rounds-count-requires : goal.rounds-count-requires
rounds-count-requires g c = c.requires.layout.round.0

pub run_rounds-requires-clause-count : goal.run_rounds-requires-clause-count
run_rounds-requires-clause-count g c κs within =
    c.rounds-count.ensures ∙ ap (λ (w : Setup). rounds w) (sym c.in_ok-shared.ensures.setup)

pub run_rounds-requires-clause-between : goal.run_rounds-requires-clause-between
run_rounds-requires-clause-between g c κs within =
    subst (λ (l : List Role). Between c.in_ok-shared.shared 0 l c.in_ok-shared.ender) (sym c.deref_mut.ensures.value)
    (begins (setup_for c.args.capture.now c.args.layout) _ _ _ c.in_ok-shared.ensures c.requires.layout c.requires.few)

pub close-requires : goal.close-requires
close-requires g c =
    let w : Setup = setup_for c.args.capture.now c.args.layout in
    still c.in_ok-shared.shared c.rounds-count.result 0 (rounds (setup_of c.in_ok-shared.shared)) c.in_ok-shared.roles.items c.run_rounds.new.roles c.in_ok-shared.ender c.run_rounds.new.ender c.in_ok-shared.roles.len
    (begins w _ _ _ c.in_ok-shared.ensures c.requires.layout c.requires.few) c.in_ok-run_rounds.ensures.between c.in_ok-shared.roles.ok.0
    (c.rounds-count.ensures ∙ ap (λ (x : Setup). rounds x) (sym c.in_ok-shared.ensures.setup))

pub returns : goal.returns
returns g c =
    let w : Setup = setup_for c.args.capture.now c.args.layout in
    let closed = c.in_ok-lines.ensures.ended in
    let accounts = accounted w c.in_ok-lines.trail closed.told c.sort_lines.new.lines.items (record { capture = c.requires.capture; layout = c.requires.layout })
    (c.in_ok-lines.ensures.layout ∙ ap (λ (x : Setup). x.layout) c.in_ok-shared.ensures.setup)
    (subst (λ (x : Setup). IsRunEnd x (histories_of c.in_ok-lines.trail) closed.told) c.in_ok-shared.ensures.setup closed.ended)
    (IsPermutation-trans closed.told c.in_ok-lines.lines.items c.sort_lines.new.lines.items closed.same c.sort_lines.ensures.same) c.sort_lines.ensures.rising in
    record {
      accounts = accounts;
      quiet = quiet_records w c.in_ok-lines.trail c.sort_lines.new.lines.items accounts;
      wide = λ objects nodes. quiet w (histories_of c.in_ok-lines.trail) accounts.setup accounts.lawful.histories.scripted objects nodes;
    }
