use Rattle.std.proofs.Common.{◌≡◌, codes, false, true}
use Rattle.trail_text.specs.Pieces.{Any}
use Rattle.trail_text.proofs.Stopping.{missing, strange}
use Rattle.trail_text.proofs.reading_lines.next_title.Goals as goal

pub returns-in_default : goal.returns-in_default
returns-in_default c =
    strange (λ _. codes "suri-trail 1") Any tt tt c.args.lines.now c.number-no.result c.number-no.ensures c.in-Some.line.now c.take.new.self.lines c.in-Some.ensures.0
    (record { some = tt; each = λ a fit same. absurd (let k : false ≡ true = c.if-is.ensures.1 same in cc) })

pub returns-in_default-2 : goal.returns-in_default-2
returns-in_default-2 c =
    missing (λ _. codes "suri-trail 1") Any tt tt c.args.lines.now c.number-no.result c.number-no.ensures (rw c.in_default.is at c.take.ensures)
