use Rattle.std.proofs.Common.{◌∙◌, List, length, ap, arith}
use Rattle.segment_tree.specs.declared.spot.Spot.{Spot}
use Rattle.segment_tree.proofs.Newest.{length_newest}
use Rattle.suri_base.specs.Node.{Node}
use Rattle.reassembly.specs.Kept.{held}
use Rattle.reassembly.proofs.Newer.{may_alone}
use Rattle.reassembly.proofs.stream.Stream.all.Goals as goal

pub invariant_of-self : goal.invariant_of-self
invariant_of-self c = (
  may_alone c.self.inside.waiting c.replace-waiting.new.dest c.self.inside.asked (c.replace-waiting.ensures.after ∙ c.new-2.ensures) c.self.invariant.0,
  c.self.invariant.1,
)

pub returns-clause-freed : goal.returns-clause-freed
returns-clause-freed c =
    let waited = ap (λ (l : List Spot). length l) c.replace-waiting.ensures.value in
    let free = ap (λ (l : List Node). length l) c.replace-nodes.ensures.value in
    omega (arith, c.move_all.ensures, waited, free, length_newest c.self.inside.waiting, ap held c.self.view_is)
