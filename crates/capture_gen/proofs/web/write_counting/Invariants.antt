use Rattle.std.proofs.Common.{◌≡◌, ◌%◌, ◌-◌, ◌++◌, map}
use Rattle.std.specs.List.{range_with_len}
use Rattle.capture_gen.specs.Web.{counting}
use Rattle.capture_gen.proofs.web.write_counting.Given as goal

-- with what is still to be written it is the whole
abbrev pub invariant-loop-byte : goal.invariant-loop-byte
invariant-loop-byte l = l.out.items ++ map (λ j. j % 256) (range_with_len l.byte (l.count - l.byte)) ≡ l.initial.out.items ++ counting l.count
