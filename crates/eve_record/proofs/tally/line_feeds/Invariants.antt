use Rattle.std.proofs.Common.{◌≡◌, ◌≤◌, ◌+◌, drop}
use Rattle.eve_record.specs.SummaryLine.{line_feeds}
use Rattle.eve_record.proofs.tally.line_feeds.Given as goal

-- with those in what is left it is the whole
abbrev pub invariant-loop-byte : goal.invariant-loop-byte
invariant-loop-byte l = record {
  counted : l.count + line_feeds (drop l.byte-index l.piece) ≡ line_feeds l.piece;
  few : l.count ≤ l.byte-index;
}
