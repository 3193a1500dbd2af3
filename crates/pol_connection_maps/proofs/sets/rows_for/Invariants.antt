use Rattle.std.proofs.Common.{map, take}
use Rattle.pol_connection_maps.specs.Sets.{AreSetsOf}
use Rattle.pol_connection_maps.proofs.sets.rows_for.Given as goal

abbrev pub invariant-loop-peer : goal.invariant-loop-peer
invariant-loop-peer l = AreSetsOf l.identities (map (λ p. p.now) (take l.peer-index l.peers)) l.rows.items
