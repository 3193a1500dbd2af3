-- Links that lead down, and lists that ascend.
use Rattle.std.specs.Prelude.{ℕ, ◌<◌, ◌≤◌, Bool, List, [], ◌∷◌, filter, length, nat_lt, slice_index}
use Rattle.std.specs.List.{AllByRecursion}

-- each link leads to its own place or to a lesser one
abbrev pub LeadDown : List ℕ → Type 0
LeadDown links = (at : ℕ) → at < length links → slice_index links at ≤ at

-- each number is at most those behind it
abbrev pub Ascends : List ℕ → Type 0
Ascends [] = Unit {0}
Ascends (number ∷ numbers) = AllByRecursion (λ later. number ≤ later) numbers × Ascends numbers

abbrev pub is_below : ℕ → ℕ → Bool
is_below limit number = nat_lt number limit

-- the numbers below the limit
abbrev pub below : ℕ → List ℕ → List ℕ
below limit numbers = filter (is_below limit) numbers
