-- Sources and sinks in memory.
use Rattle.std.specs.Prelude.{◌≡◌, ◌⊎◌, ℕ, ◌-◌, ◌<◌, ◌++◌, List, length, min, drop, Contains}
use Rattle.byte_streams.specs.Fault.{next_count}

-- A source in memory: the bytes that are left, the numbers of the calls that fail, the most bytes
-- that a read gives, the number of the last call, and the faults so far.
pub record SourceState : Type 0 where
  pub left : List ℕ
  pub fails : List ℕ
  pub most : ℕ
  pub calls : ℕ
  pub faults : ℕ

-- The source's next read fails: its number is one of those that fail.
abbrev pub ReadFails : SourceState → Type 0
ReadFails s = Contains s.fails (next_count s.calls)

-- The source after a call that failed, and gave nothing.
abbrev pub after_failed_read : SourceState → SourceState
after_failed_read s = record s { calls = next_count s.calls; faults = next_count s.faults }

-- How many bytes a read gives: as many as the piece has, but at most as many as one read may give,
-- and at most as many as are left.
abbrev pub given_count : SourceState → ℕ → ℕ
given_count s room = min (min room s.most) (length s.left)

-- The source after a call that gave this many bytes.
abbrev pub after_read : SourceState → ℕ → SourceState
after_read s count = record s { left = drop count s.left; calls = next_count s.calls }

-- A sink in memory: the bytes that it has taken, the capacity for them, the numbers of the calls
-- that fail, the most bytes that a write takes, the number of the last call, and the faults so far.
pub record SinkState : Type 0 where
  pub taken : List ℕ
  pub room : ℕ
  pub fails : List ℕ
  pub most : ℕ
  pub calls : ℕ
  pub faults : ℕ

-- The capacity that a sink has left.
abbrev pub capacity_left : SinkState → ℕ
capacity_left s = s.room - length s.taken

-- The sink's next call fails: it is one of those that fail, or no capacity is left for a piece that
-- isn't empty.
abbrev pub WriteFails : SinkState → List ℕ → Type 0
WriteFails s piece = Contains s.fails (next_count s.calls)
    ⊎ ((0 < length piece) × (capacity_left s ≡ 0))

-- The sink after a call that failed, and took nothing.
abbrev pub after_failed_write : SinkState → SinkState
after_failed_write s = record s { calls = next_count s.calls; faults = next_count s.faults }

-- How many bytes of a piece a write takes: all of them, but at most as many as one write may take,
-- and at most as many as the capacity that is left.
abbrev pub taken_count : SinkState → ℕ → ℕ
taken_count s offered = min (min offered s.most) (capacity_left s)

-- The sink after a call that took these bytes.
abbrev pub after_write : SinkState → List ℕ → SinkState
after_write s bytes = record s { taken = s.taken ++ bytes; calls = next_count s.calls }
