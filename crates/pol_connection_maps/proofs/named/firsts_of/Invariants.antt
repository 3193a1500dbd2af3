use Rattle.std.proofs.Common.{drop}
use Rattle.pol_connection_maps.specs.Named.{AreFirsts}
use Rattle.pol_connection_maps.proofs.named.firsts_of.Given as goal

abbrev pub invariant-loop-i : goal.invariant-loop-i
invariant-loop-i g l = AreFirsts g.T.IsNamed.name_of (drop l.i l.all) l.firsts
