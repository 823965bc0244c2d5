use Rattle.trail_text.specs.Bounds.{IsLaidOut}
use Rattle.trail_text.specs.Lines.{layout_line}
use Rattle.trail_text.proofs.Stopping.{missing, strange}
use Rattle.trail_text.proofs.Some.{layout_fits, some_layout}
use Rattle.trail_text.proofs.reading_lines.next_layout.Goals as goal

pub returns-in_default : goal.returns-in_default
returns-in_default c = missing (layout_line) (IsLaidOut) some_layout layout_fits c.args.lines.now c.number-no.result c.number-no.ensures c.in_default.ensures

pub returns-in-None : goal.returns-in-None
returns-in-None c =
    strange (layout_line) (IsLaidOut) some_layout layout_fits c.args.lines.now c.number-no.result c.number-no.ensures c.in-Some.line.now c.take.new.self.lines c.in-Some.ensures.0 c.in-None.ensures
