use Rattle.std.proofs.Common.{◌≡◌, ◌++◌, drop}
use Rattle.pol_connections.specs.Regions.{held_prefixes}
use Rattle.pol_connection_maps.proofs.regions.push_held.Given as goal

abbrev pub invariant-loop-row : goal.invariant-loop-row
invariant-loop-row l = l.out.items ++ held_prefixes (drop l.row-index l.identities) ≡ l.initial.out.items ++ held_prefixes l.identities
