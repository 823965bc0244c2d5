-- Histories of a run that never was short of an object or of a node.
use Rattle.std.specs.Prelude.{◌≡◌, Bool, true, false, All}
use Rattle.suri_base.specs.declared.entry.PoolNote.{PoolNote}
use Rattle.suri_base.specs.declared.entry.PoolNote.TheVariants as pool
use Rattle.suri_base.specs.declared.entry.SegNote.{SegNote}
use Rattle.suri_base.specs.declared.entry.SegNote.TheVariants as seg
use Rattle.run_rules.specs.Histories.{Histories}

-- no object was left
abbrev pub is_full : PoolNote → Bool
is_full (pool.Full f out limit) = true
is_full _ = false

-- no node was left
abbrev pub is_short : SegNote → Bool
is_short (seg.Full f out limit) = true
is_short _ = false

pub record IsQuiet (t : Histories) : Type 0 where
  pub pool : All (λ e. is_full e.note ≡ false) t.pool
  pub segments : All (λ e. is_short e.note ≡ false) t.segments
