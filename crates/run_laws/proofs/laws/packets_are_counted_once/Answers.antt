use Rattle.run_laws.proofs.Placing.{counted_once, cut_whole}
use Rattle.run_laws.proofs.laws.packets_are_counted_once.Goals as goal

pub returns : goal.returns
returns c = record { cut = λ w t d l k. cut_whole w d t l k; once = λ w t d l p i. counted_once w d t l p i }
