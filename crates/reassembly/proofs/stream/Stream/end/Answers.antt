use Rattle.std.proofs.Common.{◌≡◌, [], length, refl, ap, arith}
use Rattle.std.proofs.lemmas.List.{nil_from_length}
use Rattle.segment_tree.specs.Order.{newest_first}
use Rattle.reassembly.specs.Kept.{KeptStream, held}
use Rattle.reassembly.proofs.Standing.{blank_of}
use Rattle.reassembly.proofs.stream.Stream.end.Goals as goal

pub returns-clause-blank : goal.returns-clause-blank
returns-clause-blank c =
    let v = c.self.view_is in
    let waiting : newest_first c.self.inside.waiting ≡ [] = nil_from_length _ (omega (arith, ap held v)) in
    let freed : length c.self.inside.freed ≡ 0 = omega (arith, ap held v) in
    let digest = c.take_digest.ensures.blank c.self.invariant.1 in
    blank_of _ _ (ap (λ (k : KeptStream). k.depth) v) refl refl digest waiting freed refl refl
