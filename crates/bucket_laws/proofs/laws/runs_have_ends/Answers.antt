use Rattle.bucket_laws.proofs.Ending.{all_end, gone_end, has_end, one_end}
use Rattle.bucket_laws.proofs.Following.{next_fits, next_looked}
use Rattle.bucket_laws.proofs.laws.runs_have_ends.Goals as goal

pub returns : goal.returns
returns c = record { end = has_end; once = one_end; gone = gone_end; all = all_end; next = next_fits; looked = next_looked }
