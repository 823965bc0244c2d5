use Rattle.std.proofs.Common.{◌≡◌, cond, Bool, true, false, sym, subst}
use Rattle.std.specs.Option.{is_some}
use Rattle.std.specs.Prelude.{IsSome}
use Rattle.flow_object.specs.Object.{Object, stops_in}
use Rattle.flow_object.specs.Standing.{AsksFor, stopped_at_newest}
use Rattle.flow_object.specs.contracts.object.FlowObj.{the_view}
use Rattle.flow_object.proofs.Settling.{client_stops, server_stops}
use Rattle.flow_object.proofs.object.FlowObj.settle.Goals as goal

not_both : (b : Bool) → b ≡ true → b ≡ false → ⊥
not_both true e f = cc
not_both false e f = cc

pub returns-then-asks-clause-stops : goal.returns-then-asks-clause-stops
returns-then-asks-clause-stops c = λ bytes r judged asks.
    let o = the_view c.self.inside in
    let here = subst (λ (x : Object). AsksFor x bytes r judged) (sym c.self.view_is) asks in
    let some : IsSome o.ts.asked = c.asks.ensures.0 c.if-asks.true in
    subst (λ (x : Object). stops_in (record o { ts = c.settle.new.stream })
    ≡ cond (is_some c.args.node) (stops_in x) (stopped_at_newest r (stops_in x))) c.self.view_is
    (server_stops o bytes r judged here (is_some c.args.node) c.settle.new.stream.stop some c.settle.ensures.stop)

pub returns-else-asks-clause-stops : goal.returns-else-asks-clause-stops
returns-else-asks-clause-stops c = λ bytes r judged asks.
    let o = the_view c.self.inside in
    let here = subst (λ (x : Object). AsksFor x bytes r judged) (sym c.self.view_is) asks in
    let none : IsSome o.ts.asked → ⊥ = λ some. not_both c.asks.result (c.asks.ensures.1 some) c.if-asks.false in
    subst (λ (x : Object). stops_in (record o { tc = c.settle-else-asks.new.stream })
    ≡ cond (is_some c.args.node) (stops_in x) (stopped_at_newest r (stops_in x))) c.self.view_is
    (client_stops o bytes r judged here (is_some c.args.node) c.settle-else-asks.new.stream.stop none c.settle-else-asks.ensures.stop)
