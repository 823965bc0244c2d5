use Rattle.std.proofs.Common.{arith}
use Rattle.flow_orders.proofs.Finding.{due_before, due_later, none_before}
use Rattle.flow_orders.proofs.walks.next_before.Goals as goal

pub returns-in_default : goal.returns-in_default
returns-in_default c = λ slots emergency h. none_before slots emergency _ h c.args.after c.args.clock c.in_default.ensures

pub returns-then-clock : goal.returns-then-clock
returns-then-clock c = λ slots emergency h. due_before slots emergency _ h c.args.after c.args.clock _ c.in-Some.ensures (omega (arith, c.if-clock.true, c.clock.ensures))

pub returns-else-clock : goal.returns-else-clock
returns-else-clock c = λ slots emergency h. due_later slots emergency _ h c.args.after c.args.clock _ c.in-Some.ensures (omega (arith, c.if-clock.false, c.clock.ensures))
