use Rattle.trail_text.proofs.Cuts.{left_none}
use Rattle.trail_text.proofs.pieces.Pieces.is_done.Goals as goal

pub returns : goal.returns
returns c = let s = c.self.inside in rw (← c.self.view_is) (left_none s.done s.at s.text.now)
