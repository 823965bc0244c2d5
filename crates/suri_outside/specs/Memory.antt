-- What contracts see of sources and a sink in memory.
use Rattle.std.specs.Prelude.{ℕ, ◌-◌, ◌<◌, List, ◌++◌, Contains, drop, length, take}
use Rattle.suri_outside.specs.Faults.{risen}

-- a source: the bytes left, the most that one call gives, the calls that fail, and the calls and the faults so far
pub record SourceState : Type 0 where
  pub left : List ℕ
  pub most : ℕ
  pub failing : List ℕ
  pub calls : ℕ
  pub faults : ℕ

-- a sink: the bytes taken, the room in all, the most that one call takes, the calls that fail, those that take nothing, and the calls and the
-- faults so far
pub record SinkState : Type 0 where
  pub bytes : List ℕ
  pub room : ℕ
  pub most : ℕ
  pub failing : List ℕ
  pub idling : List ℕ
  pub calls : ℕ
  pub faults : ℕ

-- the source after a call that gave so many bytes
abbrev pub after_gift : SourceState → ℕ → SourceState
after_gift s n = record {
  left = drop n s.left;
  most = s.most;
  failing = s.failing;
  calls = risen s.calls;
  faults = s.faults;
}

-- the source after a call that failed
abbrev pub after_failed_read : SourceState → SourceState
after_failed_read s = record {
  left = s.left;
  most = s.most;
  failing = s.failing;
  calls = risen s.calls;
  faults = risen s.faults;
}

-- the sink after a call that took so many of the bytes
abbrev pub after_taking : SinkState → ℕ → List ℕ → SinkState
after_taking s n bytes = record {
  bytes = s.bytes ++ take n bytes;
  room = s.room;
  most = s.most;
  failing = s.failing;
  idling = s.idling;
  calls = risen s.calls;
  faults = s.faults;
}

-- the sink's next call, with these bytes, takes nothing of them, and doesn't fail
pub record Idles (s : SinkState) (bytes : List ℕ) : Type 0 where
  pub some : 0 < length bytes
  pub listed : Contains s.idling (risen s.calls)

-- the sink's next call doesn't idle
abbrev pub Takes : SinkState → List ℕ → Type 0
Takes s bytes = Idles s bytes → ⊥

-- the sink after a call that failed, or that took nothing of some bytes
abbrev pub after_failed_write : SinkState → SinkState
after_failed_write s = record {
  bytes = s.bytes;
  room = s.room;
  most = s.most;
  failing = s.failing;
  idling = s.idling;
  calls = risen s.calls;
  faults = risen s.faults;
}

-- a source of one byte again and again: the byte, and how many are left
pub record RepeatState : Type 0 where
  pub byte : ℕ
  pub left : ℕ

-- that source after a call that gave so many bytes
abbrev pub after_repeats : RepeatState → ℕ → RepeatState
after_repeats s n = record { byte = s.byte; left = s.left - n }
