use Rattle.std.proofs.Common.{◌≡◌, ◌++◌, map, take}
use Rattle.pol_connection_maps.specs.PeerRows.{list_peers}
use Rattle.pol_connection_maps.proofs.own_sets.push_peers.Given as goal

abbrev pub invariant-loop-filter : goal.invariant-loop-filter
invariant-loop-filter l = map (λ p. p.now) l.out.items ≡ map (λ p. p.now) l.initial.out.items ++ list_peers (take l.filter-index l.filters)
