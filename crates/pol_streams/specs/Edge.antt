-- What callers see of the adapters to std's readers and writers.
use Rattle.std.specs.Prelude.{ℕ}

-- a reader or a writer of std, and how many faults it has had
pub record Adapter (Inner : Type 0) : Type 0 where
  pub inner : Inner
  pub faults : ℕ
