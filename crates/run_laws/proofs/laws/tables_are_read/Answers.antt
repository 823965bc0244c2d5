use Rattle.run_laws.proofs.Reading.{found_read, missing_read, swept_read}
use Rattle.run_laws.proofs.laws.tables_are_read.Goals as goal

pub returns : goal.returns
returns c = record {
  found = λ w t d l b h role step f emergency seen run said past a. found_read w d t l b h role step f emergency seen run said past a;
  missing = λ w t d l b h role step f emergency seen ended past a. missing_read w d t l b h role step f emergency seen ended past a;
  swept = λ w t d l b h role step round emergency seen count past a. swept_read w d t l b h role step round emergency seen count past a;
}
