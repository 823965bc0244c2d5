use Rattle.slot_order.proofs.Rows.{halves}
use Rattle.slot_order.proofs.chunks.move_from.Goals as goal

pub returns-clause-items : goal.returns-clause-items
returns-clause-items g c = rw (c.truncate.ensures.items, c.put_all.ensures.items) (halves c.args.chunk.now.items c.args.other.now.items c.deref.result.now c.args.from c.requires.other.none c.deref.ensures.value)
