use Rattle.std.proofs.Common.{List}
use Rattle.pol_connection_maps.specs.Maps.{AreMapsOf, NumberEntries}
use Rattle.pol_connection_maps.specs.Stays.{Stay}
use Rattle.pol_connection_maps.proofs.stays.numbers_that_stay.Given as goal

abbrev pub invariant-loop-own : goal.invariant-loop-own
invariant-loop-own l = (old new : List NumberEntries) → AreMapsOf old l.before → AreMapsOf new l.after → Stay old new l.still
