-- What a node says of the bytes that it stands for.
use Rattle.suri_base.specs.Node.{Node}
use Rattle.segment_tree.specs.declared.spot.Spot.{Spot}

-- where they stand
abbrev pub spot_of : Node → Spot
spot_of node = record { no = node.no; first = node.first; at = node.at; len = node.len }
