use Rattle.bucket_laws.proofs.Going.{gone_are, gone_many, gone_nodes, gone_rise}
use Rattle.bucket_laws.proofs.laws.leaving_runs_are_listed.Goals as goal

pub returns : goal.returns
returns c = record { are = λ s past n a l. gone_are s past n l a; rise = gone_rise; many = gone_many; nodes = gone_nodes }
