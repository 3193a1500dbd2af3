use Rattle.std.proofs.Common.{◌≡◌, drop, map}
use Rattle.pol_connections.specs.Ends.{by_name}
use Rattle.pol_connection_maps.proofs.names.numbers_by_name.Given as goal

abbrev pub invariant-loop-i : goal.invariant-loop-i
invariant-loop-i l = l.numbers.entries ≡ map (λ endpoint. (endpoint.name, endpoint.identity)) (by_name (λ endpoint. endpoint.name) (drop l.i l.endpoints))
