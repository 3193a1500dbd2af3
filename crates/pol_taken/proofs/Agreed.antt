-- What is taken gives the filters' peers the sets of the state, and so the endpoint's policy map.
use Rattle.std.proofs.Common.{◌≡◌, ℕ, ◌==◌, Bool, List, [], map, filter, IsTrue, ap, ◌∙◌, subst}
use Rattle.std.specs.Arc.{arc_value}
use Rattle.std.specs.List.{AllByRecursion}
use Rattle.std.specs.Option.{option_map_or}
use Rattle.pol_data.proofs.Every.{every-kept, every-map, every-weaker}
use Rattle.pol_data.proofs.Members.{Contains-from_In, every-in}
use Rattle.pol_ports.specs.declared.Direction.{Direction}
use Rattle.pol_ports.specs.declared.Direction.TheVariants.{Ingress, Egress}
use Rattle.pol_rule.specs.declared.policy.Peer.{Peer}
use Rattle.pol_rule.specs.declared.policy.Peers.{Peers}
use Rattle.pol_rule.specs.declared.policy.Peers.TheVariants.{Every, Listed}
use Rattle.pol_rule.proofs.Equality.{peer_eq-Decides}
use Rattle.pol_model.specs.declared.options.Options.{Options}
use Rattle.pol_model.specs.declared.request.Request.{Request}
use Rattle.pol_model.specs.declared.row.Endpoint.{Endpoint}
use Rattle.pol_model.specs.declared.row.IdentityRow.{IdentityRow}
use Rattle.pol_model.specs.After.{state_of}
use Rattle.pol_model.specs.PolicyMap.{policy_map}
use Rattle.pol_model.specs.Selects.{set_at}
use Rattle.pol_model_laws.specs.MapFacts.{AgreeOnEntries, AgreeOnParts, AgreeOnPeers}
use Rattle.pol_model_laws.specs.WithoutFaults.{WithoutFaults}
use Rattle.pol_model_laws.proofs.KeepsAll.{state_keeps}
use Rattle.pol_model_laws.proofs.Membership.{find-In, found-some}
use Rattle.pol_model_laws.proofs.StateLaws.{found-init}
use Rattle.pol_sets.specs.declared.sets.SetRow.{SetRow}
use Rattle.pol_sets.specs.Sets.{has_set, is_row_of, set_given}
use Rattle.pol_filters.specs.declared.filter.Filter.{Filter}
use Rattle.pol_filters.specs.declared.filter.Filters.{Filters}
use Rattle.pol_filters.specs.FilterParts.{entry_of, filter_parts, filters_of}
use Rattle.pol_distill.specs.Distilled.{distilled, filters_at}
use Rattle.pol_distill.specs.Sorted.{HaveSets, ListHasSets, PeersHaveSets}
use Rattle.pol_distill.proofs.FilterLaw.{distilled_is}
use Rattle.pol_taken.specs.declared.taken.Taken.{Taken}
use Rattle.pol_taken.specs.OfState.{IsTakenOf}

module _ (identities : List IdentityRow) (rows : List SetRow) (exact : AllByRecursion (λ row. arc_value row.set ≡ set_at identities row.peer) rows) where
  given_is : (p : Peer) → IsTrue (has_set rows p) → set_given rows p ≡ set_at identities p
  given_is p there =
      let one = found-some (is_row_of p) rows there in
      let at = find-In (is_row_of p) one.0 rows one.1 in
      ap (λ o. option_map_or (λ (row : SetRow). arc_value row.set) o []) one.1
      ∙ every-in (λ (row : SetRow). arc_value row.set ≡ set_at identities row.peer) rows exact one.0 at.0
      ∙ ap (set_at identities) ((peer_eq-Decides one.0.peer p).0 at.1)

  peers_agree : (ps : Peers) → PeersHaveSets rows ps → AgreeOnPeers (set_given rows) (set_at identities) ps
  peers_agree Every have = tt
  peers_agree (Listed ps) have = every-weaker (λ p. IsTrue (has_set rows p)) _ (λ p there _. given_is p there) ps have

  entries_agree : (test : Filter → Bool) (filters : List Filter) → ListHasSets rows filters → AgreeOnEntries (set_given rows) (set_at identities) (map entry_of (filter test filters))
  entries_agree test filters have =
      every-map (λ entry. AgreeOnPeers (set_given rows) (set_at identities) entry.peers) entry_of (filter test filters)
      (every-kept (λ one. AgreeOnPeers (set_given rows) (set_at identities) one.peers) test filters
      (every-weaker (λ one. PeersHaveSets rows one.peers) (λ one. AgreeOnPeers (set_given rows) (set_at identities) one.peers) (λ one has. peers_agree one.peers has) filters have))

  in_direction : (filters : Filters) → HaveSets rows filters → (dir : Direction) → ListHasSets rows (filters_of filters dir)
  in_direction filters have Ingress = have.ingress
  in_direction filters have Egress = have.egress

  parts_agree : (filters : Filters) → HaveSets rows filters → AgreeOnParts (set_given rows) (set_at identities) (filter_parts filters)
  parts_agree filters have = record {
    allows = λ dir. entries_agree _ (filters_of filters dir) (in_direction filters have dir);
    denies = λ dir. entries_agree _ (filters_of filters dir) (in_direction filters have dir);
  }

pub taken_map : (options : Options) (requests : List Request) (slot : ℕ) (taken : Taken) → WithoutFaults options requests → IsTakenOf options (state_of options requests) slot taken
    → distilled (arc_value taken.filters) taken.sets ≡ policy_map options (state_of options requests) taken.endpoint
taken_map options requests slot taken good is =
    let s = state_of options requests in
    let there = find-In (λ (e : Endpoint). e.slot == slot) taken.endpoint s.endpoints is.endpoint in
    let init = found-init s (state_keeps options requests good) taken.endpoint (Contains-from_In s.endpoints taken.endpoint there.0) in
    ap (λ filters. distilled filters taken.sets) is.filters
    ∙ distilled_is options s taken.endpoint init taken.sets
    (parts_agree s.identities taken.sets is.sets (filters_at options s taken.endpoint) (subst (HaveSets taken.sets) is.filters is.every))
