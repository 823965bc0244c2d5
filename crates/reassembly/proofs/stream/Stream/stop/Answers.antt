use Rattle.std.proofs.Common.{◌≡◌, ◌+◌, ℕ, List, length, Some, refl, sym, ap, ◌∙◌}
use Rattle.reassembly.specs.Kept.{KeptStream}
use Rattle.segment_tree.specs.Order.{newest_first}
use Rattle.segment_tree.proofs.Newest.{length_newest}
use Rattle.segment_tree.specs.declared.spot.Spot.{Spot}
use Rattle.reassembly.proofs.Standing.{kept_is, same_some, stands_stop}
use Rattle.reassembly.proofs.stream.Stream.stop.Goals as goal

pub returns-in-Some-clause-kept : goal.returns-in-Some-clause-kept
returns-in-Some-clause-kept c = λ spot is.
    let v = c.self.view_is in
    let one : c.in-Some.spot ≡ spot = same_some c.in-Some.spot spot (sym c.in-Some.is ∙ (ap (λ (k : KeptStream). k.asked) v ∙ is)) in
    let moved : length c.replace-waiting.result ≡ length c.args.self.now.waiting =
    ap (λ (l : List Spot). length l) c.replace-waiting.ensures.value
    ∙ (sym (length_newest c.self.inside.waiting) ∙ ap (λ (k : KeptStream). length k.waiting) v) in
    let freed = c.move_all.ensures
    ∙ (ap (λ (n : ℕ). n + length c.self.inside.freed) moved ∙ ap (λ (k : KeptStream). length c.args.self.now.waiting + k.freed) v) in
    kept_is _ _ (ap (λ (k : KeptStream). k.depth) v) (ap (λ (k : KeptStream). k.base) v) (ap (λ (k : KeptStream). k.frontier) v)
    (ap (λ (k : KeptStream). k.hasher) v)
    (ap newest_first (c.replace-waiting.ensures.after ∙ c.new.ensures)) freed (ap (λ (s : Spot). s.no) one) refl

pub returns-in-Some-clause-stands : goal.returns-in-Some-clause-stands
returns-in-Some-clause-stands c =
    let asked : c.args.self.now.asked ≡ Some c.in-Some.spot = ap (λ (k : KeptStream). k.asked) (sym c.self.view_is) ∙ c.in-Some.is in
    λ m members asks. stands_stop c.args.self.now m members _ c.in-Some.spot (length c.args.self.now.waiting + c.args.self.now.freed) asked
    (returns-in-Some-clause-kept c c.in-Some.spot asked) asks
