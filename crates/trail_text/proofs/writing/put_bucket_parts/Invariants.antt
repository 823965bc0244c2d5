use Rattle.std.proofs.Common.{◌≡◌, ◌++◌, map, string_bytes, take}
use Rattle.trail_text.specs.Lines.{bucket_parts, text_of_lines}
use Rattle.trail_text.proofs.writing.put_bucket_parts.Given as goal

-- the parts of the buckets so far stand there
abbrev pub invariant-loop-number : goal.invariant-loop-number
invariant-loop-number l = string_bytes l.out ≡ string_bytes l.initial.out ++ text_of_lines (bucket_parts 0 (map (λ h. h.items) (take l.number l.buckets)))
