use Rattle.std.proofs.Common.{List, map, take}
use Rattle.pol_model.specs.declared.row.IdentityRow.{IdentityRow}
use Rattle.pol_connection_maps.specs.Sets.{AreExact, AreSetsOf}
use Rattle.pol_connection_maps.proofs.own_sets.rows_among.Given as goal

abbrev pub invariant-loop-peer : goal.invariant-loop-peer
invariant-loop-peer l = (identities : List IdentityRow) → AreExact identities l.sets → AreSetsOf identities (map (λ p. p.now) (take l.peer-index l.peers)) l.rows.items
