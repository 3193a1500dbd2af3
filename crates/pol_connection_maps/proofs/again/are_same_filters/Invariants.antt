use Rattle.std.proofs.Common.{◌≡◌, map, take}
use Rattle.pol_connection_maps.specs.Again.{part_of}
use Rattle.pol_connection_maps.proofs.again.are_same_filters.Given as goal

abbrev pub invariant-loop-i : goal.invariant-loop-i
invariant-loop-i l = map part_of (take l.i l.one) ≡ map part_of (take l.i l.other)
