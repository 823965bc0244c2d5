-- Ages, in their order.
use Rattle.std.specs.Prelude.{ℕ, ◌+◌, ◌*◌, ◌/◌, ◌%◌, ◌^◌}
use Rattle.std.specs.Ordering.{nat_cmp, ordering_then}
use Rattle.std.specs.declared.cmp.Ordering.{Ordering}
use Rattle.key_order.specs.declared.ages.Age.{Age}

abbrev pub age_of : ℕ → ℕ → Age
age_of clock run = record { high = clock / 2 ^ 32; low = clock % 2 ^ 32; run = run }

abbrev pub clock_of : Age → ℕ
clock_of a = a.high * 2 ^ 32 + a.low

-- by the clock, then by the run
abbrev pub age_cmp : Age → Age → Ordering
age_cmp a b = ordering_then (nat_cmp a.high b.high) (ordering_then (nat_cmp a.low b.low) (nat_cmp a.run b.run))
