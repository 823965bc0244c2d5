use Rattle.std.proofs.Common.{◌≡◌, ◌++◌, flat_map, map, string_bytes, take}
use Rattle.trail_text.specs.Lines.{ended, entry_line}
use Rattle.trail_text.specs.Words.{bucket_words}
use Rattle.trail_text.proofs.writing.put_bucket_part.Given as goal

-- the lines of the entries so far stand there
abbrev pub invariant-loop-entry : goal.invariant-loop-entry
invariant-loop-entry l = string_bytes l.out ≡ string_bytes l.initial.out ++ flat_map ended (map (entry_line bucket_words) (take l.entry-index l.entries))
