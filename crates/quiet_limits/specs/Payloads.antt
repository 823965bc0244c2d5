-- The packets of a capture that may need a segment node.
use Rattle.std.specs.Prelude.{List, filter}
use Rattle.suri_base.specs.Capture.{has_segment, packets_in}
use Rattle.suri_base.specs.declared.facts.Facts.{Facts}
use Rattle.suri_base.specs.declared.seen.Seen.{Seen}

-- the TCP segments with payload among some frames, in file order
abbrev pub tcp_payloads : List Seen → List Facts
tcp_payloads seen = filter has_segment (packets_in seen)
