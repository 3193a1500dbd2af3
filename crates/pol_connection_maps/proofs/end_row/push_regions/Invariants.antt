use Rattle.std.proofs.Common.{◌≡◌, ◌++◌, List, map, take}
use Rattle.pol_model.specs.declared.row.IdentityRow.{IdentityRow}
use Rattle.pol_connection_maps.specs.EndRows.{region_row}
use Rattle.pol_connection_maps.specs.Named.{AreNumbersOf}
use Rattle.pol_connection_maps.proofs.end_row.push_regions.Given as goal

abbrev pub invariant-loop-region : goal.invariant-loop-region
invariant-loop-region l = (rows : List IdentityRow) → AreNumbersOf rows l.numbers → l.out.items ≡ l.initial.out.items ++ map (region_row rows) (take l.region-index l.regions)
