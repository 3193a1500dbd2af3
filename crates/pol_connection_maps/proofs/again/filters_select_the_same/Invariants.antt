use Rattle.std.proofs.Common.{take}
use Rattle.pol_connection_maps.specs.Again.{AgreeOnFilters}
use Rattle.pol_connection_maps.proofs.again.filters_select_the_same.Given as goal

abbrev pub invariant-loop-filter : goal.invariant-loop-filter
invariant-loop-filter l = AgreeOnFilters l.before l.after (take l.filter-index l.filters)
