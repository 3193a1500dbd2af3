-- What is made of a list of numbers.
use Rattle.std.specs.Prelude.{ℕ, ◌*◌, Bool, List, [], ◌∷◌, filter, max, nat_lt}

abbrev pub doubled : ℕ → ℕ
doubled number = 2 * number

abbrev pub is_over : ℕ → ℕ → Bool
is_over limit number = nat_lt limit number

-- the numbers over the limit
abbrev pub over : ℕ → List ℕ → List ℕ
over limit numbers = filter (is_over limit) numbers

-- the greatest number, 0 where there is none
abbrev pub greatest : List ℕ → ℕ
greatest [] = 0
greatest (number ∷ numbers) = max number (greatest numbers)
