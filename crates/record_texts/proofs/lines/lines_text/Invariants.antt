use Rattle.std.proofs.Common.{◌≡◌, take}
use Rattle.record_texts.specs.Lines.{lines_of}
use Rattle.record_texts.proofs.lines.lines_text.Given as goal

abbrev pub invariant-loop-line : goal.invariant-loop-line
invariant-loop-line l = record {
  made : l.text.items ≡ lines_of l.seed l.netflow (take l.line-index l.lines);
}
