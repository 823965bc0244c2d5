use Rattle.std.proofs.Common.{reverse}
use Rattle.flow_pool.proofs.PoolHistories.{rules_kept, within_memcap}
use Rattle.flow_pool.proofs.laws.keeps_rules.Goals as goal

pub returns-clause-rules : goal.returns-clause-rules
returns-clause-rules c = rules_kept c.args.setting (reverse c.args.entries.now) c.requires.legal

pub returns-clause-within : goal.returns-clause-within
returns-clause-within c = within_memcap c.args.setting (reverse c.args.entries.now) (rules_kept c.args.setting (reverse c.args.entries.now) c.requires.legal)
