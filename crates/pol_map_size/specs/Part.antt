-- The part of a map whose identities lie between two numbers.
use Rattle.std.specs.Prelude.{◌≡◌, ◌<◌, ⊤, ℕ, Bool, ◌&&◌, not, nat_lt, count_by, filter, List, [], ◌∷◌, Option, None, Some}
use Rattle.std.specs.Arc.{arc_value}
use Rattle.pol_mapkey.specs.Entries.{Entry}
use Rattle.pol_sets.specs.declared.sets.SetRow.{SetRow}

-- the number is this one or a later one, and below the end if there is one
abbrev pub is_between : ℕ → Option ℕ → ℕ → Bool
is_between from None id = not (nat_lt id from)
is_between from (Some end) id = not (nat_lt id from) && nat_lt id end

abbrev pub is_in : ℕ → Option ℕ → Entry → Bool
is_in from end entry = is_between from end entry.0.id

-- how many entries are of the part
abbrev pub part_size : ℕ → Option ℕ → List Entry → ℕ
part_size from end entries = count_by (is_in from end) entries

-- the number is below the end, if there is one
abbrev pub IsBelow : ℕ → Option ℕ → Type 0
IsBelow id None = ⊤
IsBelow id (Some end) = id < end

-- The row is the peer's, with the numbers of the part alone.
pub record IsPartOf (from : ℕ) (end : Option ℕ) (row part : SetRow) : Type 0 where
  pub peer : part.peer ≡ row.peer
  pub set : arc_value part.set ≡ filter (is_between from end) (arc_value row.set)

-- so are the rows, one by one
abbrev pub ArePartsOf : ℕ → Option ℕ → List SetRow → List SetRow → Type 0
ArePartsOf from end [] [] = ⊤
ArePartsOf from end [] (part ∷ parts) = ⊥
ArePartsOf from end (row ∷ rows) [] = ⊥
ArePartsOf from end (row ∷ rows) (part ∷ parts) = IsPartOf from end row part × ArePartsOf from end rows parts
