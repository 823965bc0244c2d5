use Rattle.std.proofs.Common.{◌≡◌, ◌++◌, flat_map, map, string_bytes, take}
use Rattle.trail_text.specs.Lines.{ended, entry_line}
use Rattle.trail_text.specs.Words.{pool_words}
use Rattle.trail_text.proofs.writing.put_pool_part.Given as goal

-- the lines of the entries so far stand there
abbrev pub invariant-loop-entry : goal.invariant-loop-entry
invariant-loop-entry l = string_bytes l.out ≡ string_bytes l.initial.out ++ flat_map ended (map (entry_line pool_words) (take l.entry-index l.entries))
