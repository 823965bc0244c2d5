use Rattle.std.proofs.Common.{◌∙◌, ap}
use Rattle.clap.specs.Words.{found_of}
use Rattle.clap.proofs.WalkLemmas.{first_value-rows}
use Rattle.suri_opts.specs.Words.{is_set}
use Rattle.suri_opts.proofs.reading.flag_given.Goals as goal

pub returns : goal.returns
returns c = c.flag_read.ensures ∙ ap is_set (first_value-rows (found_of c.args.matches.now) c.args.id.now)
