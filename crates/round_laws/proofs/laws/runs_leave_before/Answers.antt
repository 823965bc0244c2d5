use Rattle.round_laws.proofs.Later.{put_later}
use Rattle.round_laws.proofs.laws.runs_leave_before.Goals as goal

pub returns : goal.returns
returns c = λ w t l d i. put_later w d t l i
