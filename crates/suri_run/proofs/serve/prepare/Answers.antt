use Rattle.std.proofs.Common.{◌≡◌, Err, map, string_bytes, subst, sym}
use Rattle.std.proofs.lemmas.Result.{err_from_is_err_and}
use Rattle.suri_run.specs.declared.cause.Cause.{Cause}
use Rattle.suri_run.specs.Run.{Takes, status_of}
use Rattle.suri_run.proofs.Complete.{never_two}
use Rattle.suri_run.proofs.OneChoice.{asked, may_generate}
use Rattle.suri_run.proofs.serve.prepare.Goals as goal

pub run_over-requires-clause-frames : goal.run_over-requires-clause-frames
run_over-requires-clause-frames g c κs within = may_generate (map string_bytes c.args.words.now) c.in-Ok.options c.in-Ok.ensures.chosen.0

pub returns-in_err-report-clause-refused : goal.returns-in_err-report-clause-refused
returns-in_err-report-clause-refused g c =
    let p = err_from_is_err_and c.from_residual.result c.from_residual.ensures.1 in
    let words = map string_bytes c.args.words.now in
    let takes : Takes words c.in-Ok.options = record { chosen = c.in-Ok.ensures.chosen.0; fit = c.in-Ok.ensures.chosen.1; together = c.in-Ok.ensures.chosen.2 } in
    rw p.1
    (λ is.
    absurd (subst (λ (x : Cause). status_of (Err x) ≡ 2 → ⊥) (sym p.2)
    (λ two. never_two c.in_err-report.field-0.0 words _ c.in-Ok.options takes (λ k nothing. c.in_err-report.ensures.ends words k takes nothing) two) is))

pub returns-clause-generated : goal.returns-clause-generated
returns-clause-generated g c = λ asks. c.run_over.ensures.untouched (asked (map string_bytes c.args.words.now) c.in-Ok.options c.in-Ok.ensures.chosen.0 asks)

pub returns-in_err-report-clause-generated : goal.returns-in_err-report-clause-generated
returns-in_err-report-clause-generated g c = λ asks. c.run_over.ensures.untouched (asked (map string_bytes c.args.words.now) c.in-Ok.options c.in-Ok.ensures.chosen.0 asks)
