use Rattle.record_laws.proofs.Judging.{judged_when_gone}
use Rattle.record_laws.proofs.Recording.{line_is, lines_are, lines_grow, number_is}
use Rattle.record_laws.proofs.laws.lines_are_records.Goals as goal

pub returns : goal.returns
returns c = record {
  line = λ w seen t d l g a x i. line_is w seen t d l g a x i;
  number = λ w seen t d l g a x i. number_is w seen t d l g a x i;
  grow = λ w seen t g runs lines i. lines_grow w seen t g runs lines i;
  lines = λ w seen t d l g runs lines i. lines_are w seen t d l g runs lines i;
  verdicts = λ w t d l b x a e. judged_when_gone w t d l b x a e;
}
