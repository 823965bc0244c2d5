use Rattle.run_laws.proofs.Refusing.{forced_for, refused_for}
use Rattle.run_laws.proofs.laws.refusals_have_causes.Goals as goal

pub returns : goal.returns
returns c = record {
  refused = λ w t d l b h role step f past a. refused_for w d t l b h role step f past a;
  forced = λ w t d l b h role step f run past a. forced_for w d t l b h role step f run past a;
}
