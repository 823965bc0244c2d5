use Rattle.std.proofs.Common.{List, length, refl, ap}
use Rattle.suri_base.specs.Node.{Node}
use Rattle.segment_tree.specs.Order.{newest_first}
use Rattle.reassembly.proofs.Standing.{blank_of}
use Rattle.reassembly.proofs.stream.Stream.blank.Goals as goal

pub returns : goal.returns
returns c = blank_of _ _ refl refl refl c.new.ensures (ap newest_first c.new-2.ensures) (ap (λ (l : List Node). length l) c.new-3.ensures) refl refl
