use Rattle.std.proofs.Common.{List, Option, ℕ, subst}
use Rattle.clap.specs.Words.{found_of}
use Rattle.clap.proofs.WalkLemmas.{one_text-rows}
use Rattle.suri_opts.specs.Words.{IsNumberIn}
use Rattle.suri_opts.proofs.reading.wide_number_given.Goals as goal

pub returns : goal.returns
returns c =
    subst (λ (text : Option (List ℕ)). IsNumberIn 64 text c.wide_number_read.result) (one_text-rows (found_of c.args.matches.now) c.args.id.now) c.wide_number_read.ensures
