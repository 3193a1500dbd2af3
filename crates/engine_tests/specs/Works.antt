-- Filters of one stamp at different places.
use Rattle.std.specs.Prelude.{◌≡◌, ℕ}
use Rattle.std.specs.List.{AllByRecursion}
use Rattle.pol_filters.specs.declared.filter.Filter.{Filter}
use Rattle.pol_filters.specs.declared.filter.Filters.{Filters}
use Rattle.pol_kept_map.specs.Applies.{PlacesDiffer, all_filters}

-- each filter has the stamp, and no two have one place
pub record AreStamped (stamp : ℕ) (filters : Filters) : Type 0 where
  pub stamped : AllByRecursion (λ one. one.stamp ≡ stamp) (all_filters filters)
  pub places : PlacesDiffer filters

-- the filter's place and stamp
pub record StandsThere (stamp entry : ℕ) (one : Filter) : Type 0 where
  pub own_stamp : one.stamp ≡ stamp
  pub own_entry : one.place.entry ≡ entry
