use Rattle.std.proofs.Common.{◌≡◌, ℕ, ◌+◌, ◌<◌, ◌≤◌, List, ◌∷◌, length, sym, ap, ◌∙◌, subst, arith, Option, Some}
use Rattle.std.specs.Prelude.{MatchOption}
use Rattle.segment_tree.specs.declared.spot.Spot.{Spot}
use Rattle.segment_tree.specs.Order.{end_of, newest_first}
use Rattle.segment_tree.specs.Reads.{earliest}
use Rattle.reassembly.specs.Nodes.{parts_at}
use Rattle.reassembly.specs.Parts.{part}
use Rattle.reassembly.specs.Stretches.{IsStretch}
use Rattle.reassembly.proofs.ByNumber.{byte_earliest, byte_of, node_stretch, run_lies}
use Rattle.reassembly.proofs.stretch.stretch_at.Goals as goal
use Rattle.reassembly.proofs.stretch.stretch_at.Goals.{In-Some}

-- the node that was found is the earliest up to where the run ends
module _ (c : In-Some) where
  on : c.args.at < c.run_at-run.result.end
  on = subst (λ (o : Option Spot). MatchOption o (c.args.at < 4294967295 → c.args.at < c.run_at-run.result.end) (λ s. c.args.at < c.run_at-run.result.end)) c.in-Some.is c.run_at-run.ensures.on

  same : (k : ℕ) → c.args.at ≤ k → k < c.run_at-run.result.end → earliest k c.args.waiting.now ≡ Some c.in-Some.spot
  same k later below = c.run_at-run.ensures.same k later below ∙ c.in-Some.is

  lies : (c.in-Some.spot.first ≤ c.args.at) × (c.run_at-run.result.end ≤ end_of c.in-Some.spot) × (c.in-Some.spot.at + c.in-Some.spot.len ≤ length c.args.bytes.now)
  lies = run_lies c.args.bytes.now c.args.waiting.now c.requires.within c.args.at c.run_at-run.result.end c.in-Some.spot on same

pub in_node-requires-clause-begins : goal.in_node-requires-clause-begins
in_node-requires-clause-begins c = (lies c).0

pub in_node-requires-clause-some : goal.in_node-requires-clause-some
in_node-requires-clause-some c = let h = on c in omega (arith, h)

pub in_node-requires-clause-ends : goal.in_node-requires-clause-ends
in_node-requires-clause-ends c = (lies c).1

pub in_node-requires-clause-within : goal.in_node-requires-clause-within
in_node-requires-clause-within c = (lies c).2

pub returns-in-Some : goal.returns-in-Some
returns-in-Some c =
    let at = (goal.at.returns-in-Some c).In-Some in
    let p = part 0 c.args.first 0 c.args.packet.now in
    subst (λ (l : List ℕ). IsStretch (p ∷ parts_at c.args.bytes.now (newest_first c.args.waiting.now)) c.args.at (Some l)) (sym c.in_node.ensures)
    (node_stretch c.args.bytes.now c.args.waiting.now c.requires.within p c.args.at c.run_at-run.result.end c.in-Some.spot (on at) (same at))

pub returns-in-None : goal.returns-in-None
returns-in-None c =
    let bytes = c.args.bytes.now in
    let nodes = c.args.waiting.now in
    c.in_packet.ensures (parts_at bytes (newest_first nodes))
    (byte_earliest bytes nodes c.requires.within c.args.at ∙ ap (byte_of bytes c.args.at) (sym c.run_at-run.ensures.spot ∙ c.in-None.is))
    (λ k later below. byte_earliest bytes nodes c.requires.within k ∙ ap (byte_of bytes k) (c.run_at-run.ensures.same k later below ∙ c.in-None.is))
