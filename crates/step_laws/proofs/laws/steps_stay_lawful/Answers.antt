use Rattle.step_laws.proofs.Following.{ender_steps, manager_steps, recycler_steps, worker_steps}
use Rattle.step_laws.proofs.laws.steps_stay_lawful.Goals as goal

pub returns : goal.returns
returns c = record {
  worker = λ w t new l role h a next e x. worker_steps w t new l a role h next e x;
  manager = λ w t new l a next e x. manager_steps w t new l a next e x;
  recycler = λ w t new l a next e x. recycler_steps w t new l a next e x;
  end = λ w t new l a next o e x. ender_steps w t new l a next o e x;
}
