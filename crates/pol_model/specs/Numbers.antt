-- Lists that ascend by a number of their elements: the least number that is free, and a new element's place.
use Rattle.std.specs.Prelude.{ℕ, ◌+◌, ◌==◌, nat_lt, if◌then◌else◌, List, [], ◌∷◌, count_by, insert}

-- the least number from `first` on that isn't in the list, which ascends
abbrev pub least_free : ℕ → List ℕ → ℕ
least_free first [] = first
least_free first (taken ∷ others) =
    if nat_lt taken first then least_free first others else (if taken == first then least_free (first + 1) others else first)

-- the list with x behind the elements of a lesser number
abbrev pub placed_by : {A : Type 0} → (A → ℕ) → A → List A → List A
placed_by number x xs = insert xs (count_by (λ y. nat_lt (number y) (number x)) xs) x
