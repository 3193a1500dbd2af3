use Rattle.std.proofs.Common.{◌≡◌, ◌++◌, map, take}
use Rattle.pol_connection_maps.proofs.own_sets.push_listed.Given as goal

abbrev pub invariant-loop-peer : goal.invariant-loop-peer
invariant-loop-peer l = map (λ p. p.now) l.out.items ≡ map (λ p. p.now) l.initial.out.items ++ take l.peer-index l.peer-items
