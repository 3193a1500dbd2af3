-- What callers see of the source and the sink in memory.
use Rattle.std.specs.Prelude.{ℕ, List}

-- a source in memory
pub record SourceState : Type 0 where
  -- the bytes that are left
  pub left : List ℕ
  -- the most bytes that a read gives
  pub piece : ℕ
  -- the numbers, from 1, of the reads that fail
  pub fails : List ℕ
  -- how many reads there were
  pub calls : ℕ
  -- how many of them failed
  pub faults : ℕ

-- a sink in memory
pub record SinkState : Type 0 where
  -- the bytes that were written
  pub written : List ℕ
  -- how many more bytes it can take
  pub room : ℕ
  -- the most bytes that a write takes
  pub piece : ℕ
  -- the numbers, from 1, of the writes that fail
  pub fails : List ℕ
  -- how many writes there were
  pub calls : ℕ
  -- how many of them failed
  pub faults : ℕ
