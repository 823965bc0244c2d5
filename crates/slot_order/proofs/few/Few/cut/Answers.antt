use Rattle.std.proofs.Common.{arith}
use Rattle.slot_order.proofs.Next.{cut_of_at, cut_of_gap}
use Rattle.slot_order.proofs.few.Few.cut.Goals as goal

pub overflow_add-result : goal.overflow_add-result
overflow_add-result g c = omega (arith, c.in-Ok.ensures.found.within, c.place.ensures.within)

pub returns-in-Ok : goal.returns-in-Ok
returns-in-Ok g c = cut_of_at g.met.K.Ord.total c.args.self.now.pairs c.args.key c.in-Ok.at c.place.ensures.sorted c.in-Ok.ensures.found

pub returns-in-Err : goal.returns-in-Err
returns-in-Err g c = cut_of_gap c.args.self.now.pairs c.args.key _ c.in-Err.ensures.absent
