-- What is taken of a small state.
use Rattle.std.proofs.Common.{◌≡◌, true, false, List, [], ◌∷◌, map, IsTrue, inl, inr, sym, ap, ◌∙◌, subst}
use Rattle.std.specs.Prelude.{codes}
use Rattle.std.specs.Arc.{arc_value}
use Rattle.std.specs.List.{AllByRecursion, Contains, IsDistinct}
use Rattle.std.proofs.lemmas.Bool.{both_ways}
use Rattle.std.proofs.lemmas.Option.{same_Some}
use Rattle.pol_addr.specs.Address.{addr_of_octets}
use Rattle.pol_data.proofs.Members.{In-from_Contains}
use Rattle.pol_rule.specs.contracts.policy.PeerPartialEq.TheImpl as peers
use Rattle.pol_rule.specs.declared.policy.Peer.{Peer}
use Rattle.pol_rule.proofs.Equality.{peer_eq-Decides}
use Rattle.pol_model.specs.declared.row.Endpoint.{Endpoint}
use Rattle.pol_model.specs.declared.row.IdentityRow.{IdentityRow}
use Rattle.pol_model.specs.After.{new_endpoint, start, state_of}
use Rattle.pol_model.specs.Selects.{set_at}
use Rattle.pol_model_laws.specs.WorkedMaps.{app_peer, namespace_label, ordinary, x_denied}
use Rattle.pol_sets.specs.declared.sets.SetRow.{SetRow}
use Rattle.pol_sets.specs.Sets.{has_set}
use Rattle.pol_distill.specs.Distilled.{filters_at}
use Rattle.pol_distill.specs.Sorted.{HaveSets}
use Rattle.pol_taken.specs.declared.taken.Taken.{Taken}
use Rattle.pol_taken.specs.OfState.{IsTakenOf}
use Rattle.pol_taken.specs.PeerRows.{filter_peers}

-- where all peers are one, and it has its row, there is no other
module _ (identities : List IdentityRow) (p : Peer) where
  is_it : (row : SetRow) → Contains (p ∷ p ∷ []) row.peer → p ≡ row.peer
  is_it row there = elim (In-from_Contains (p ∷ p ∷ []) row.peer there) [ inl same ↦ same | inr later ↦ elim later [ inl same ↦ same | inr none ↦ elim none [ ] ] ]

  twice : (one other : SetRow) → p ≡ one.peer → p ≡ other.peer → peers.ghosts.eq one.peer other.peer ≡ true
  twice one other first second = (peer_eq-Decides one.peer other.peer).1 (sym first ∙ second)

  pub sole_row : (rows : List SetRow) → IsTrue (has_set rows p) → AllByRecursion (λ row. Contains (p ∷ p ∷ []) row.peer) rows
      → IsDistinct peers.ghosts.eq (map (λ row. row.peer) rows) → AllByRecursion (λ row. arc_value row.set ≡ set_at identities row.peer) rows
      → (map (λ row. row.peer) rows ≡ p ∷ []) × (map (λ row. arc_value row.set) rows ≡ set_at identities p ∷ [])
  unfolding IsDistinct
  sole_row [] has listed apart sets = absurd (let wrong : false ≡ true = has in cc)
  sole_row (row ∷ []) has listed apart sets =
      let same : row.peer ≡ p = sym (is_it row listed.0) in
      (ap (λ q. q ∷ []) same, ap (λ set. set ∷ []) (sets.0 ∙ ap (set_at identities) same))
  sole_row (row ∷ other ∷ rows) has listed apart sets =
      absurd (both_ways (peers.ghosts.eq row.peer other.peer) apart.0.0 (twice row other (is_it row listed.0) (is_it other listed.1.0)))

-- Two policies say something of the endpoint of slot 0, by one peer.
module _ (taken : Taken) (is : IsTakenOf ordinary (state_of ordinary x_denied) 0 taken) where
  abbrev web_row : Endpoint
  web_row = new_endpoint (start ordinary) (codes "web") (namespace_label ∷ []) (addr_of_octets 10 0 0 1)

  pub own_endpoint : taken.endpoint ≡ new_endpoint (start ordinary) (codes "web") (namespace_label ∷ []) (addr_of_octets 10 0 0 1)
  own_endpoint = sym (same_Some web_row taken.endpoint is.endpoint)

  own_filters : arc_value taken.filters ≡ filters_at ordinary (state_of ordinary x_denied) web_row
  own_filters = is.filters ∙ ap (filters_at ordinary (state_of ordinary x_denied)) own_endpoint

  listed_twice : filter_peers (arc_value taken.filters) ≡ app_peer (codes "x") ∷ app_peer (codes "x") ∷ []
  listed_twice = ap filter_peers own_filters

  sole : (map (λ row. row.peer) taken.sets ≡ app_peer (codes "x") ∷ []) × (map (λ row. arc_value row.set) taken.sets ≡ (257 ∷ []) ∷ [])
  sole =
      sole_row (state_of ordinary x_denied).identities (app_peer (codes "x")) taken.sets
      (subst (HaveSets taken.sets) own_filters is.every).ingress.0.0
      (subst (λ listed. AllByRecursion (λ row. Contains listed row.peer) taken.sets) listed_twice is.listed)
      is.apart is.sets

  pub one_peer : map (λ row. row.peer) taken.sets ≡ app_peer (codes "x") ∷ []
  one_peer = sole.0

  pub one_set : map (λ row. arc_value row.set) taken.sets ≡ (257 ∷ []) ∷ []
  one_set = sole.1
