use Rattle.std.proofs.Common.{◌+◌, ◌%◌, sym}
use Rattle.std.proofs.lemmas.List.FromFn.{length-map-range_with_len}
use Rattle.capture_gen.proofs.web.payload_size.Goals as goal

pub returns-in-Answer-clause-value : goal.returns-in-Answer-clause-value
returns-in-Answer-clause-value c = rw c.in-Answer.is (sym (length-map-range_with_len (λ j. j % 256) 0 (100 + c.args.size)))
