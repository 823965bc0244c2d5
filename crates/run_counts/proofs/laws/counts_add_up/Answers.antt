use Rattle.run_rules.specs.Histories.{histories_of}
use Rattle.run_counts.proofs.Whole.{bytes_few, counts_add, recorded_few, trail_refused}
use Rattle.run_counts.proofs.laws.counts_add_up.Goals as goal

pub returns : goal.returns
returns c = record {
  histories = λ w t lines s d l r k h. counts_add w d t l lines s r k h;
  trail = λ w t lines s d l r k. counts_add w d (histories_of t) l lines s r k.counted k.of_histories;
  refused = λ w t d l. trail_refused w t d l;
  recorded = λ w t lines d l r. recorded_few w d t l lines r;
  bytes = λ w t lines d l r. bytes_few w d t l lines r;
}
