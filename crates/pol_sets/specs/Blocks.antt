-- The numbers of blocks.
use Rattle.std.specs.Prelude.{ℕ, ◌+◌, List, [], ◌∷◌}
use Rattle.std.specs.List.{flat_map}

-- the numbers of the blocks, one after another
abbrev pub numbers_in : List (List ℕ) → List ℕ
numbers_in blocks = flat_map (λ block. block) blocks

-- one more than the last of these numbers
abbrev pub bound_after : ℕ → List ℕ → ℕ
bound_after last [] = last + 1
bound_after last (number ∷ numbers) = bound_after number numbers

-- one more than the last of the numbers, and 0 where there is none
abbrev pub bound_of : List ℕ → ℕ
bound_of [] = 0
bound_of (number ∷ numbers) = bound_after number numbers
