use Rattle.std.proofs.Common.{◌≡◌, ℕ, ◌+◌, Bool, true, false, List, cond, length, max, refl, sym, ap, ◌∙◌, subst, arith}
use Rattle.std.specs.Prelude.{IsTrue, ◌↔◌, nat_le}
use Rattle.suri_base.specs.declared.stream.Offer.TheVariants.{InOrder, Nothing, NeedsSegment}
use Rattle.segment_tree.specs.Order.{newest_first}
use Rattle.reassembly.specs.Nodes.{parts_at}
use Rattle.reassembly.specs.Parts.{answer_to, frontier_of, is_old, part, waiting_of, EndsBelow, Part}
use Rattle.reassembly.specs.Stretches.{AreCovered}
use Rattle.reassembly.proofs.Answering.{old_is}
use Rattle.reassembly.proofs.ByNumber.{covered_both}
use Rattle.reassembly.proofs.stretch.answer.Goals as goal

-- the answer, by the two tests
by_tests : (depth : ℕ) (parts : List Part) (p : Part) (waits : List Part) (frontier from : ℕ) (covered : Bool) → EndsBelow depth parts
    → frontier ≡ frontier_of depth parts → waits ≡ waiting_of depth parts
    → from ≡ max p.first frontier → (IsTrue covered ↔ AreCovered waits from (p.first + length p.bytes))
    → answer_to depth parts p ≡ cond covered Nothing (cond (nat_le p.first frontier) InOrder NeedsSegment)
by_tests depth parts p waits frontier from covered ends is_frontier is_waits is_from both =
    let at_frontier = subst (λ (f : ℕ). IsTrue covered ↔ AreCovered waits f (p.first + length p.bytes)) (is_from ∙ ap (max p.first) is_frontier) both in
    let at_waits = subst (λ (l : List Part). IsTrue covered ↔ AreCovered l (max p.first (frontier_of depth parts))
    (p.first + length p.bytes)) is_waits at_frontier in
    let old = old_is depth parts p ends (is_old parts p) refl covered at_waits in
    ap (λ (b : Bool). cond b Nothing (cond (nat_le p.first (frontier_of depth parts)) InOrder NeedsSegment)) old
    ∙ ap (λ (f : ℕ). cond covered Nothing (cond (nat_le p.first f) InOrder NeedsSegment)) (sym is_frontier)

pub returns-then-covers : goal.returns-then-covers
returns-then-covers c = λ depth parts number place ends is_frontier is_waits.
    sym (by_tests depth parts (part number c.args.first place c.args.packet.now)
    (parts_at c.args.bytes.now (newest_first c.args.waiting.now)) c.args.frontier c.max.result c.covers.result ends is_frontier is_waits
    c.max.ensures (covered_both c.args.bytes.now c.args.waiting.now c.requires.within c.covers.result c.max.result _ c.covers.ensures)
    ∙ ap (λ (b : Bool). cond b Nothing (cond (nat_le c.args.first c.args.frontier) InOrder NeedsSegment)) c.if-covers.true)

pub returns-then-first-frontier : goal.returns-then-first-frontier
returns-then-first-frontier c = λ depth parts number place ends is_frontier is_waits.
    let near : nat_le c.args.first c.args.frontier ≡ true = let h = c.if-first-frontier.true in grind arith in
    sym (by_tests depth parts (part number c.args.first place c.args.packet.now)
    (parts_at c.args.bytes.now (newest_first c.args.waiting.now)) c.args.frontier c.max.result c.covers.result ends is_frontier is_waits
    c.max.ensures (covered_both c.args.bytes.now c.args.waiting.now c.requires.within c.covers.result c.max.result _ c.covers.ensures)
    ∙ (ap (λ (b : Bool). cond b Nothing (cond (nat_le c.args.first c.args.frontier) InOrder NeedsSegment)) c.if-covers.false
    ∙ ap (λ (b : Bool). cond b InOrder NeedsSegment) near))

pub returns-else-first-frontier : goal.returns-else-first-frontier
returns-else-first-frontier c = λ depth parts number place ends is_frontier is_waits.
    let far : nat_le c.args.first c.args.frontier ≡ false = let h = c.if-first-frontier.false in grind arith in
    sym (by_tests depth parts (part number c.args.first place c.args.packet.now)
    (parts_at c.args.bytes.now (newest_first c.args.waiting.now)) c.args.frontier c.max.result c.covers.result ends is_frontier is_waits
    c.max.ensures (covered_both c.args.bytes.now c.args.waiting.now c.requires.within c.covers.result c.max.result _ c.covers.ensures)
    ∙ (ap (λ (b : Bool). cond b Nothing (cond (nat_le c.args.first c.args.frontier) InOrder NeedsSegment)) c.if-covers.false
    ∙ ap (λ (b : Bool). cond b InOrder NeedsSegment) far))
