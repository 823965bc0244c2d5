use Rattle.run_laws.proofs.Calling.{end_may, manager_may, recycler_may, worker_may}
use Rattle.run_laws.proofs.laws.next_calls_may_be_made.Goals as goal

pub returns : goal.returns
returns c = record {
  worker = λ w t d s role h a next e. worker_may w d t s role h a next e;
  manager = λ w t d s a next e. manager_may w d t s a next e;
  recycler = λ w t d s a next e. recycler_may w d t s a next e;
  end = λ w t d s a next o e. end_may w d t s a next o e;
}
