-- Changes that lead to and fro between filters whose peers all have one set.
use Rattle.std.specs.Prelude.{◌≡◌, ℕ, ◌<◌, List, [], ◌∷◌, ◌++◌, length, Some}
use Rattle.std.specs.Arc.{arc_value}
use Rattle.std.specs.List.{slice_index_or}
use Rattle.pol_sets.specs.declared.sets.Move.{Move}
use Rattle.pol_sets.specs.declared.sets.SetRow.{SetRow}
use Rattle.pol_sets.specs.Sets.{set_given}
use Rattle.pol_set_changes.specs.Ids.{without}
use Rattle.pol_filters.specs.declared.filter.Filter.{Filter}
use Rattle.pol_filters.specs.declared.filter.Filters.{Filters}
use Rattle.pol_kept_map.specs.Work.{AllListed, WorkOf}
use Rattle.pol_kept_map.specs.declared.changes.Changes.{Changes}

-- what each peer selects without the identity that comes and goes, and with it
abbrev pub ten : List ℕ
ten = 256 ∷ 257 ∷ 258 ∷ 259 ∷ 260 ∷ 261 ∷ 262 ∷ 263 ∷ 264 ∷ 265 ∷ []

abbrev pub eleven : List ℕ
eleven = 256 ∷ 257 ∷ 258 ∷ 259 ∷ 260 ∷ 261 ∷ 262 ∷ 263 ∷ 264 ∷ 265 ∷ 266 ∷ []

-- what holds of each element and its place
abbrev pub AllAt : {X : Type 0} → (ℕ → X → Type 0) → List X → Type 0
AllAt {X} P xs = (i : ℕ) (d : X) → i < length xs → P i (slice_index_or xs i d)

-- the filter's place has its number
abbrev pub FilterAt : ℕ → Filter → Type 0
FilterAt i one = one.place.entry ≡ i

abbrev pub RowAt : List ℕ → ℕ → SetRow → Type 0
RowAt set i row = (row.selector ≡ i) × (arc_value row.set ≡ set)

abbrev pub MoveAt : List ℕ → List ℕ → ℕ → Move → Type 0
MoveAt gained lost i m = (m.selector ≡ i) × (m.gained ≡ gained) × (m.lost ≡ lost)

pub record AreNumbered (filters : Filters) : Type 0 where
  pub ingress : AllAt FilterAt filters.ingress
  pub egress : filters.egress ≡ []

-- the second has the filters of the first, and more behind them
abbrev pub Extends : Filters → Filters → Type 0
Extends few many = (more : List Filter) × (many.ingress ≡ few.ingress ++ more)

-- The changes give each of so many peers this set, by moves of these numbers.
pub record GiveSets (set gained lost : List ℕ) (count : ℕ) (changes : Changes) : Type 0 where
  pub rows : AllAt (RowAt set) changes.sets
  pub row_count : length changes.sets ≡ count
  pub moves : List Move
  pub some : changes.moves ≡ Some moves
  pub move_count : length moves ≡ count
  pub exact : AllAt (MoveAt gained lost) moves

-- these changes lead from the one set to the other
abbrev pub Turns : List ℕ → List ℕ → ℕ → Changes → Type 0
Turns was is = GiveSets is (without is was) (without was is)

-- The work is of the filters, and each peer that they list selects these numbers.
pub record IsAt (set : List ℕ) (filters : Filters) (work : WorkOf) : Type 0 where
  pub same : work.filters ≡ filters
  pub agrees : AllListed (λ p. set_given work.rows p ≡ set) filters
