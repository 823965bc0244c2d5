use Rattle.std.proofs.Common.{sym, ◌∙◌}
use Rattle.trail_text.proofs.Cuts.{left_last, left_next}
use Rattle.trail_text.proofs.pieces.Pieces.take.Goals as goal

pub returns-in-None : goal.returns-in-None
returns-in-None c =
    let s = c.self.inside in
    sym c.self.view_is ∙ left_last s.done s.at s.text.now c.if-self.false c.in-None.ensures

pub returns-in-Some : goal.returns-in-Some
returns-in-Some c =
    let s = c.self.inside in
    let h = c.in-Some.ensures in
    sym c.self.view_is ∙ left_next s.done s.at s.text.now c.in-Some.place c.if-self.false h.0.high h.1 h.0.before
