-- Which maps are too large, and the order of the rows that tell of them ('profile').
use Rattle.std.specs.Prelude.{⊤, ℕ, Bool, true, nat_le, List, [], ◌∷◌, Option, None, Some, IsTrue}
use Rattle.std.specs.Ordering.{nat_cmp, ordering_then, is_le}
use Rattle.std.specs.Cmp.Lexicographic.{slice_cmp}
use Rattle.pol_model.specs.declared.answer.FullSlot.{FullSlot}

-- whether a map of so many entries may be published, under the limit if there is one
abbrev pub fits_limit : Option ℕ → ℕ → Bool
fits_limit None count = true
fits_limit (Some limit) count = nat_le count limit

-- rows by name, then revision
abbrev pub full_row_le : FullSlot → FullSlot → Bool
full_row_le a b = is_le (ordering_then (slice_cmp nat_cmp a.name b.name) (nat_cmp a.revision b.revision))

-- each row is at most the next one
abbrev pub FullRowsAscend : List FullSlot → Type 0
FullRowsAscend [] = ⊤
FullRowsAscend (row ∷ []) = ⊤
FullRowsAscend (row ∷ next ∷ rows) = IsTrue (full_row_le row next) × FullRowsAscend (next ∷ rows)
