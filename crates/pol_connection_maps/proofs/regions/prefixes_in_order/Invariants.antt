use Rattle.std.proofs.Common.{◌≡◌, drop}
use Rattle.pol_connections.specs.Regions.{prefixes_in_order}
use Rattle.pol_connection_maps.proofs.regions.prefixes_in_order.Given as goal

abbrev pub invariant-loop-i : goal.invariant-loop-i
invariant-loop-i l = l.ordered.keys ≡ prefixes_in_order (drop l.i l.prefixes)
