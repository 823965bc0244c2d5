use Rattle.std.proofs.Common.{◌≡◌, false, refl, true}
use Rattle.std.proofs.lemmas.Result.{err_from_is_err_and}
use Rattle.trail_text.proofs.Ends.{end_fault, end_only, end_text, stop_fault}
use Rattle.trail_text.proofs.reading.read_trail.Goals as goal

pub returns-in_err-trail-clause-fault : goal.returns-in_err-trail-clause-fault
returns-in_err-trail-clause-fault c =
    let p = err_from_is_err_and c.from_residual.result c.from_residual.ensures.1 in
    rw (p.1, p.2) (stop_fault c.args.text.now _ (rw c.of-lines.ensures at c.in_err-trail.ensures))

pub returns-then-is_at_end-clause-within : goal.returns-then-is_at_end-clause-within
returns-then-is_at_end-clause-within c = c.in_ok-trail.ensures.fit

pub returns-then-is_at_end-clause-text : goal.returns-then-is_at_end-clause-text
returns-then-is_at_end-clause-text c =
    let e = c.if-is_at_end.ensures.0 refl in end_text c.args.text.now _ _ (rw c.of-lines.ensures at c.in_ok-trail.ensures) e.0 e.1

pub returns-then-is_at_end-clause-only : goal.returns-then-is_at_end-clause-only
returns-then-is_at_end-clause-only c = end_only c.args.text.now _ _ (rw c.of-lines.ensures at c.in_ok-trail.ensures)

pub returns-else-is_at_end-clause-fault : goal.returns-else-is_at_end-clause-fault
returns-else-is_at_end-clause-fault c =
    rw c.number.ensures (end_fault c.args.text.now _ _ (rw c.of-lines.ensures at c.in_ok-trail.ensures) (λ k. let n : false ≡ true = c.if-is_at_end.ensures.1 k in cc))
