use Rattle.run_laws.proofs.Giving.{put_back, turned_back}
use Rattle.run_laws.proofs.Uses.{returned}
use Rattle.run_laws.proofs.laws.objects_come_back.Goals as goal

pub returns : goal.returns
returns c = record { all = returned; put = put_back; turned = turned_back }
