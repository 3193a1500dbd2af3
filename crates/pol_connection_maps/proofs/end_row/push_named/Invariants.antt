use Rattle.std.proofs.Common.{◌≡◌, ◌++◌, map, take}
use Rattle.pol_connection_maps.specs.EndRows.{named_row}
use Rattle.pol_connection_maps.proofs.end_row.push_named.Given as goal

abbrev pub invariant-loop-identity : goal.invariant-loop-identity
invariant-loop-identity l = l.out.items ≡ l.initial.out.items ++ map named_row (take l.identity-index l.named)
