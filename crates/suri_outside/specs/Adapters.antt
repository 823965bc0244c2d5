-- What contracts see of the adapters over std.
use Rattle.std.specs.Prelude.{ℕ}
use Rattle.suri_outside.specs.declared.adapters.StdSource.{StdSource}
use Rattle.suri_outside.specs.declared.adapters.StdSink.{StdSink}

-- the reader that is adapted
abbrev pub reader_of : {R : Type 0} → StdSource R → R
reader_of s = s.inner

-- how often it failed
abbrev pub read_faults : {R : Type 0} → StdSource R → ℕ
read_faults s = s.faults

-- the writer that is adapted
abbrev pub writer_of : {W : Type 0} → StdSink W → W
writer_of s = s.inner

-- how often it failed
abbrev pub write_faults : {W : Type 0} → StdSink W → ℕ
write_faults s = s.faults
