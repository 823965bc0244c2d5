use Rattle.std.proofs.Common.{◌≡◌, false, refl, true}
use Rattle.trail_text.proofs.Numerals.{not_plain, not_text, parsed}
use Rattle.trail_text.proofs.values.number.Goals as goal

pub returns-then-not-is_plain : goal.returns-then-not-is_plain
returns-then-not-is_plain c = not_plain c.args.word.now (λ p. let k : false ≡ true = c.if-not-is_plain.ensures.1 p in cc)

pub returns-in-Ok : goal.returns-in-Ok
returns-in-Ok c =
    rw c.ok.ensures.value (parsed c.args.word.now c.parse.result (c.if-not-is_plain.ensures.0 refl) (rw c.in-Ok.ensures.cases.0 at c.parse.ensures.value.0))

pub returns-in-Err : goal.returns-in-Err
returns-in-Err c = not_text c.args.word.now c.in-Err.ensures.cases.0
