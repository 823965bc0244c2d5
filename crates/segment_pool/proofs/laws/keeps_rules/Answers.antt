use Rattle.std.proofs.Common.{reverse}
use Rattle.segment_pool.proofs.PoolHistories.{rules_kept, within_limit}
use Rattle.segment_pool.proofs.laws.keeps_rules.Goals as goal

pub returns-clause-rules : goal.returns-clause-rules
returns-clause-rules c = rules_kept c.args.limit (reverse c.args.entries.now) c.requires.legal

pub returns-clause-within : goal.returns-clause-within
returns-clause-within c = within_limit c.args.limit (reverse c.args.entries.now) (rules_kept c.args.limit (reverse c.args.entries.now) c.requires.legal)
