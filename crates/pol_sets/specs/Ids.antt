-- Numbers in ascending lists.
use Rattle.std.specs.Prelude.{ℕ, Bool, ◌==◌, not, nat_lt, List, ◌∷◌, ◌++◌, filter, fold}
use Rattle.std.specs.List.{list_any}

-- the list has the number
abbrev pub has : ℕ → List ℕ → Bool
has id ids = list_any (λ own. own == id) ids

-- the numbers that the others don't have
abbrev pub without : List ℕ → List ℕ → List ℕ
without ids others = filter (λ id. not (has id others)) ids

-- the lesser numbers, this one, and the greater ones
abbrev pub placed : List ℕ → ℕ → List ℕ
placed ids id = filter (λ own. nat_lt own id) ids ++ id ∷ filter (λ own. nat_lt id own) ids

-- the numbers of both
abbrev pub union : List ℕ → List ℕ → List ℕ
union ids others = fold placed ids others
