use Rattle.bucket_laws.proofs.Cutting.{key_cut, whole_cut}
use Rattle.bucket_laws.proofs.laws.packets_are_cut.Goals as goal

pub returns : goal.returns
returns c = record { answered = key_cut; all = whole_cut }
