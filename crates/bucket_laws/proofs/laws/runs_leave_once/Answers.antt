use Rattle.bucket_laws.proofs.Leaving.{balance, once}
use Rattle.bucket_laws.proofs.Staying.{leavers}
use Rattle.bucket_laws.proofs.laws.runs_leave_once.Goals as goal

pub returns : goal.returns
returns c = record { once = once; leaver = leavers; balance = balance }
