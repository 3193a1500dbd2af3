use Rattle.std.proofs.Common.{◌≡◌, ◌++◌, drop, filter, map}
use Rattle.pol_connections.specs.Ends.{stands_alone}
use Rattle.pol_connection_maps.specs.EndRows.{alone_row}
use Rattle.pol_connection_maps.proofs.end_row.push_reserved.Given as goal

abbrev pub invariant-loop-row : goal.invariant-loop-row
invariant-loop-row l = l.out.items ++ map alone_row (filter stands_alone (drop l.row-index l.identities)) ≡ l.initial.out.items ++ map alone_row (filter stands_alone l.identities)
