use Rattle.std.proofs.Common.{◌≡◌, length, sym, ◌∙◌, ap, subst}
use Rattle.std.specs.Option.{option_to_list}
use Rattle.flow_object.specs.Object.{Object}
use Rattle.flow_object.specs.Standing.{AsksFor}
use Rattle.bucket_flow.specs.Held.{Held, IsSmall}
use Rattle.bucket_flow.proofs.Small.{one_more, small_settled}
use Rattle.bucket_flow.proofs.flow.Flow.settle.Goals as goal

pub invariant_of-self : goal.invariant_of-self
invariant_of-self c =
    let o = c.deref_mut.result.now in
    let seen : c.args.self.now.obj ≡ o = ap (λ (h : Held). h.obj) (sym c.self.view_is) ∙ sym c.deref_mut.ensures.value in
    let bytes = c.requires.asks.0 in
    let r = c.requires.asks.1 in
    let judged = c.requires.asks.2 in
    let was : AsksFor o bytes r judged = subst (λ (x : Object). AsksFor x bytes r judged) seen c.requires.asks.3 in
    small_settled o c.settle.new.self bytes r judged (length (option_to_list c.args.node)) (subst IsSmall (sym c.deref_mut.ensures.value) c.self.invariant) (one_more c.args.node)
    c.settle.ensures.nodes was (c.settle.ensures.stands bytes r judged was)
