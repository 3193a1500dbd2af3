use Rattle.std.proofs.Common.{drop}
use Rattle.pol_connection_maps.specs.Maps.{AreMapsOf}
use Rattle.pol_connection_maps.proofs.number.by_number.Given as goal

abbrev pub invariant-loop-i : goal.invariant-loop-i
invariant-loop-i l = AreMapsOf (drop l.i l.maps) l.table
