-- What a work keeps of its map, and what an origin does.
use Rattle.std.specs.Prelude.{◌≡◌, ℕ, List, Option, IfSome, length}
use Rattle.pol_sets.specs.declared.sets.SetRow.{SetRow}
use Rattle.pol_filters.specs.declared.filter.Filters.{Filters}
use Rattle.pol_distill.specs.Distilled.{distilled}
use Rattle.pol_distill.specs.Sorted.{HaveSets}
use Rattle.pol_entry_tally.specs.declared.tally.Tally.{Tally}
use Rattle.pol_entry_tally.specs.Counted.{IsTallyOf}
use Rattle.pol_entry_changes.specs.Given.{raw_of}

-- The tally, where there is one, counts what the filters put into the map, and the number is the map's size.
pub record IsKept (filters : Filters) (rows : List SetRow) (size : ℕ) (tally : Option Tally) : Type 0 where
  pub have : HaveSets rows filters
  pub counts : IfSome tally (IsTallyOf (raw_of filters rows))
  pub sized : size ≡ length (distilled filters rows)

-- The number is the size of the map that is made of the filters.
pub record IsOrigin (filters : Filters) (rows : List SetRow) (size : ℕ) : Type 0 where
  pub have : HaveSets rows filters
  pub sized : size ≡ length (distilled filters rows)
