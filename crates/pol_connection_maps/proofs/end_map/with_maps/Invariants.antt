use Rattle.std.proofs.Common.{◌≡◌, List, map, take}
use Rattle.pol_connection_maps.specs.Maps.{AreMapsOf, NumberEntries}
use Rattle.pol_connection_maps.specs.Seen.{seen_row}
use Rattle.pol_connection_maps.proofs.end_map.with_maps.Given as goal

abbrev pub invariant-loop-row : goal.invariant-loop-row
invariant-loop-row l = (maps : List NumberEntries) → AreMapsOf maps l.table → l.ends.items ≡ map (seen_row maps) (take l.row-index l.rows)
