use Rattle.std.proofs.Common.{map, sym, ap, subst, ◌∙◌}
use Rattle.pol_connection_maps.specs.PeerRows.{filters_peers}
use Rattle.pol_connection_maps.specs.Sets.{AreSetsOf}
use Rattle.pol_connection_maps.proofs.own_sets.own_sets.Goals as goal

pub returns : goal.returns
returns c = λ identities exact.
    subst (AreSetsOf identities (filters_peers c.args.filters.now)) (sym c.in_ok-own.ensures.rows)
    (subst (λ ps. AreSetsOf identities ps c.in_ok-rows.rows.items) (ap (map (λ p. p.now)) c.deref.ensures.value ∙ c.in_ok-peers.ensures) (c.in_ok-rows.ensures identities exact))
