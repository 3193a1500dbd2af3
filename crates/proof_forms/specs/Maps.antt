-- A table of counts, as what its keys give.
use Rattle.std.specs.Prelude.{ℕ, ◌==◌, if◌then◌else◌}
use Rattle.std.specs.BTreeMap.{BTreeMap, get}
use Rattle.std.specs.Option.{unwrap_or}
use Rattle.std.specs.Ordering.{nat_cmp}

-- the count of a number, 0 where it has none
abbrev pub count_at : BTreeMap ℕ ℕ → ℕ → ℕ
count_at counts number = unwrap_or (get nat_cmp counts number) 0

-- what each key gives once one of them gives this
abbrev pub put_at : (ℕ → ℕ) → ℕ → ℕ → ℕ → ℕ
put_at counts number count n = if number == n then count else counts n
