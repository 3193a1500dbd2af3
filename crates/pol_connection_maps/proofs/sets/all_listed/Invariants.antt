use Rattle.std.proofs.Common.{◌≡◌, map, take}
use Rattle.pol_connection_maps.specs.Sets.{peers_of}
use Rattle.pol_connection_maps.proofs.sets.all_listed.Given as goal

abbrev pub invariant-loop-stamped : goal.invariant-loop-stamped
invariant-loop-stamped l = map (λ p. p.now) l.listed.items ≡ peers_of (take l.stamped-index l.policies)
