use Rattle.std.proofs.Common.{drop}
use Rattle.pol_connection_maps.specs.Named.{AreNumbersOf}
use Rattle.pol_connection_maps.proofs.regions.numbers_of_prefixes.Given as goal

abbrev pub invariant-loop-i : goal.invariant-loop-i
invariant-loop-i l = AreNumbersOf (drop l.i l.identities) l.numbers
