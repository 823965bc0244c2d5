-- When a flow has expired.
use Rattle.std.specs.Prelude.{ℕ, ◌+◌, Bool, nat_lt}

-- the clock is past the last packet's by more than the timeout
abbrev pub has_expired : ℕ → ℕ → ℕ → Bool
has_expired last clock timeout = nat_lt (last + timeout) clock
