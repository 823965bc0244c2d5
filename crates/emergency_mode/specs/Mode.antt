-- The mode in which flows have run out.
use Rattle.std.specs.Prelude.{ℕ, ◌-◌, ◌*◌, ◌&&◌, nat_le, Bool}

-- its two settings, and whether it is on
pub record Mode : Type 0 where
  pub memcap : ℕ
  pub recovery : ℕ
  pub on : Bool

-- with so many flows out the mode ends: it is on, and `recovery` percent of all flows are free
abbrev pub ends : Mode → ℕ → Bool
ends m out = m.on && nat_le (m.recovery * m.memcap) ((m.memcap - out) * 100)
