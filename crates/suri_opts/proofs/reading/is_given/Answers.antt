use Rattle.std.proofs.Common.{◌∙◌, ap, List, Option, ℕ, is_some}
use Rattle.clap.specs.Words.{found_of}
use Rattle.clap.proofs.WalkLemmas.{first_value-rows}
use Rattle.suri_opts.proofs.reading.is_given.Goals as goal

pub returns : goal.returns
returns c = c.has_text.ensures ∙ ap (λ (text : Option (List ℕ)). is_some text) (first_value-rows (found_of c.args.matches.now) c.args.id.now)
