use Rattle.std.proofs.Common.{◌≡◌, ◌<◌, true, false, sym, ap, ◌∙◌, arith}
use Rattle.std.proofs.lemmas.List.{take_rest, length-drop}
use Rattle.std.proofs.lemmas.Result.{err_from_is_err_and}
use Rattle.ip_decode.specs.Extensions.{is_extension, upper_of}
use Rattle.ip_decode.proofs.Upper.{upper_of-end, upper_of-full, upper_of-step, upper_of-fault}
use Rattle.ip_decode.proofs.extensions.read_upper.Goals as goal

pub returns-then-room-eq0-clause-upper : goal.returns-then-room-eq0-clause-upper
returns-then-room-eq0-clause-upper c =
    let one : is_extension c.loop-rest.next ≡ true = sym c.is_next_extension.ensures ∙ c.loop-rest-test.true in
    sym (upper_of-full c.loop-rest.next c.loop-rest.rest.now one) ∙ ap (λ n. upper_of n c.loop-rest.next c.loop-rest.rest.now) (sym c.if-room-eq0.true) ∙ c.loop-rest.invariant.same

pub returns-in_err-size-clause-upper : goal.returns-in_err-size-clause-upper
returns-in_err-size-clause-upper c =
    let one : is_extension c.loop-rest.next ≡ true = sym c.is_next_extension.ensures ∙ c.loop-rest-test.true in
    let some : 0 < c.loop-rest.room = omega (arith, c.if-room-eq0.false) in
    let p = err_from_is_err_and c.from_residual.result c.from_residual.ensures.1 in
    rw (p.1, p.2) (sym (upper_of-fault c.loop-rest.room c.loop-rest.next _ c.loop-rest.rest.now one some (sym c.in_err-size.ensures.size)) ∙ c.loop-rest.invariant.same)

pub loop-rest-preserved : goal.loop-rest-preserved
loop-rest-preserved c =
    let one : is_extension c.loop-rest.next ≡ true = sym c.is_next_extension.ensures ∙ c.loop-rest-test.true in
    let some : 0 < c.loop-rest.room = omega (arith, c.if-room-eq0.false) in
    let step = upper_of-step c.loop-rest.room c.loop-rest.next c.in_ok-size.size c.loop-rest.rest.now one some (sym c.in_ok-size.ensures.size) in
    simp take_rest record { same = sym step ∙ c.loop-rest.invariant.same; shorter = omega (arith, length-drop c.in_ok-size.size c.loop-rest.rest.now, c.loop-rest.invariant.shorter) }

pub returns-clause-upper : goal.returns-clause-upper
returns-clause-upper c =
    let none : is_extension c.loop-rest.next ≡ false = sym c.is_next_extension.ensures ∙ c.loop-rest-test.false in
    sym (upper_of-end c.loop-rest.room c.loop-rest.next c.loop-rest.rest.now none) ∙ c.loop-rest.invariant.same
