use Rattle.trail_text.specs.Bounds.{EntryFits, PoolFits}
use Rattle.trail_text.specs.Lines.{entry_line}
use Rattle.trail_text.specs.Words.{pool_words}
use Rattle.trail_text.proofs.Stopping.{missing, strange}
use Rattle.trail_text.proofs.Some.{pool_fits, some_pool}
use Rattle.trail_text.proofs.reading_lines.next_pool.Goals as goal

pub returns-in_default : goal.returns-in_default
returns-in_default c = missing (entry_line pool_words) (EntryFits PoolFits) some_pool pool_fits c.args.lines.now c.number-no.result c.number-no.ensures c.in_default.ensures

pub returns-in-None : goal.returns-in-None
returns-in-None c =
    strange (entry_line pool_words) (EntryFits PoolFits) some_pool pool_fits c.args.lines.now c.number-no.result c.number-no.ensures c.in-Some.line.now c.take.new.self.lines c.in-Some.ensures.0 c.in-None.ensures
