use Rattle.std.proofs.Common.{◌≡◌, ◌<◌, sym, ◌∙◌, ap, subst}
use Rattle.flow_object.specs.Object.{Object}
use Rattle.flow_object.specs.Standing.{StandsFor}
use Rattle.bucket_rules.specs.Own.{is_needing}
use Rattle.bucket_flow.specs.Held.{Held, IsSmall}
use Rattle.bucket_flow.proofs.Small.{joined_if, small_more}
use Rattle.bucket_flow.proofs.flow.Flow.join.Goals as goal

pub invariant_of-self : goal.invariant_of-self
invariant_of-self c =
    let o = c.deref_mut.result.now in
    let seen : c.args.self.now.obj ≡ o = ap (λ (h : Held). h.obj) (sym c.self.view_is) ∙ sym c.deref_mut.ensures.value in
    let r = c.requires.known.0 in
    let judged = c.requires.known.1 in
    let was : StandsFor o c.args.capture.now.bytes r judged = subst (λ (x : Object). StandsFor x c.args.capture.now.bytes r judged) seen c.requires.known.2 in
    let f = c.requires.facts in
    small_more o c.absorb.new.self c.args.capture.now.bytes c.args.facts.now r judged (is_needing c.absorb.result) (subst IsSmall (sym c.deref_mut.ensures.value) c.self.invariant)
    (subst (λ (x : Object). x.sums.last_no < c.args.facts.now.no) seen c.requires.later) f.small f.len f.clock c.absorb.ensures.nodes was
    (joined_if c.absorb.result c.absorb.new.self c.args.capture.now.bytes _ judged (c.absorb.ensures.stands r judged was) (c.absorb.ensures.asks r judged was))
