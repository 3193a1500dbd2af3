-- Which lists are sets of identity numbers.
use Rattle.std.specs.Prelude.{ℕ, ◌<◌, ◌^◌, List}
use Rattle.std.specs.List.{All}
use Rattle.std.specs.List.Sorted.{IsStrictlySortedBy}
use Rattle.std.specs.Ordering.{nat_cmp}

-- numbers of 32 bits, each less than those after it
pub record IsIdSet (ids : List ℕ) : Type 0 where
  pub ascends : IsStrictlySortedBy nat_cmp ids
  pub small : All (λ id. id < 2 ^ 32) ids
