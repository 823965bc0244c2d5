use Rattle.std.proofs.Common.{◌+◌, ◌++◌, ◌∷◌, ◌∙◌, ℕ, List, length, sym, ap, subst, append_assoc, length-append, arith}
use Rattle.std.specs.Option.{option_copied}
use Rattle.sha1.specs.Sha1.{Holds}
use Rattle.segment_tree.specs.Order.{newest_first}
use Rattle.reassembly.specs.Nodes.{parts_at}
use Rattle.reassembly.specs.Parts.{part}
use Rattle.reassembly.specs.Stretches.{IsStretch}
use Rattle.reassembly.proofs.Taking.{stretch_below, take_more, take_all}
use Rattle.reassembly.proofs.stretch.take_stretches.Goals as goal

pub loop-stretch-preserved : goal.loop-stretch-preserved
loop-stretch-preserved c =
    let parts = part 0 c.args.first 0 c.args.packet.now ∷ parts_at c.args.bytes.now (newest_first c.args.waiting.now) in
    let taken = c.loop-stretch.invariant.0 in
    let stretch = c.in-Some.stretch.now in
    let low = stretch_below c.args.depth c.loop-stretch.at parts stretch c.requires.below c.loop-stretch.invariant.2 c.in-Some.ensures in (
      taken ++ stretch,
      omega (arith, c.loop-stretch.invariant.1, length-append taken stretch),
      low,
      take_more c.args.depth c.args.frontier c.loop-stretch.at parts taken stretch c.loop-stretch.invariant.3 low c.in-Some.ensures,
      λ m h. subst (Holds c.update.new.self) (append_assoc m taken stretch) (c.update.ensures (m ++ taken) (c.loop-stretch.invariant.4 m h)),
    )

pub returns-clause-frontier : goal.returns-clause-frontier
returns-clause-frontier c =
    let parts = part 0 c.args.first 0 c.args.packet.now ∷ parts_at c.args.bytes.now (newest_first c.args.waiting.now) in
    let none = subst (IsStretch parts c.loop-stretch.at) (ap option_copied c.in_default.is) c.stretch_at.ensures in
    let all = take_all c.args.depth c.args.frontier c.loop-stretch.at parts c.loop-stretch.invariant.0 c.loop-stretch.invariant.3 none in
    c.loop-stretch.invariant.1 ∙ ap (λ (l : List ℕ). c.args.frontier + length l) (sym all)

pub returns-clause-taken : goal.returns-clause-taken
returns-clause-taken c =
    let parts = part 0 c.args.first 0 c.args.packet.now ∷ parts_at c.args.bytes.now (newest_first c.args.waiting.now) in
    let none = subst (IsStretch parts c.loop-stretch.at) (ap option_copied c.in_default.is) c.stretch_at.ensures in
    let all = take_all c.args.depth c.args.frontier c.loop-stretch.at parts c.loop-stretch.invariant.0 c.loop-stretch.invariant.3 none in
    λ m h. subst (λ (l : List ℕ). Holds c.loop-stretch.hasher (m ++ l)) (sym all) (c.loop-stretch.invariant.4 m h)
