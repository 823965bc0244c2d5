use Rattle.std.proofs.Common.{◌∙◌}
use Rattle.run_stats.proofs.stats.Stats.counted.Goals as goal

pub returns-clause-frames : goal.returns-clause-frames
returns-clause-frames c = λ capture lines counts. c.field.ensures ∙ counts.of_frames.decoder c.args.counter
