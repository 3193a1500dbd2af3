-- What was taken of the endpoint that is followed may be applied to its work.
use Rattle.std.proofs.Common.{◌≡◌, ℕ, ◌≤◌, List, ◌++◌, IsTrue, length, take, Option, None, Some, IfSome, inl, inr, sym, ap, subst, arith}
use Rattle.std.specs.Arc.{arc_value}
use Rattle.std.specs.List.{Contains}
use Rattle.std.proofs.Math.Seq.{take-length}
use Rattle.std.proofs.lemmas.List.{length-take}
use Rattle.pol_data.proofs.Every.{every-append}
use Rattle.pol_data.proofs.Members.{Contains-from_In, In, In-from_Contains, every-from_in, every-in}
use Rattle.pol_ports.specs.declared.Direction.{Direction}
use Rattle.pol_ports.specs.declared.Direction.TheVariants.{Ingress, Egress}
use Rattle.pol_rule.specs.declared.policy.Peer.{Peer}
use Rattle.pol_rule.specs.declared.policy.Peers.{Peers}
use Rattle.pol_rule.specs.declared.policy.Peers.TheVariants.{Every, Listed}
use Rattle.pol_model.specs.declared.options.Options.{Options}
use Rattle.pol_model.specs.declared.request.Request.{Request}
use Rattle.pol_model.specs.declared.row.Endpoint.{Endpoint}
use Rattle.pol_model.specs.After.{state_of}
use Rattle.pol_model.specs.Selects.{set_at}
use Rattle.pol_model.specs.State.{State}
use Rattle.pol_model_laws.proofs.Membership.{In-append}
use Rattle.pol_sets.specs.declared.sets.Move.{Move}
use Rattle.pol_sets.specs.declared.sets.SetRow.{SetRow}
use Rattle.pol_sets.specs.Sets.{has_set, set_given}
use Rattle.pol_filters.specs.declared.filter.Filter.{Filter}
use Rattle.pol_filters.specs.declared.filter.Filters.{Filters}
use Rattle.pol_filters.specs.Resolved.{filters_in}
use Rattle.pol_filters.proofs.Located.{named}
use Rattle.pol_distill.specs.Distilled.{filters_at}
use Rattle.pol_distill.specs.Sorted.{HaveSets, PeersHaveSets}
use Rattle.pol_rule.specs.Listed.{peers_in}
use Rattle.pol_set_moves.specs.Changes.{state_at}
use Rattle.pol_set_moves.specs.Moves.{AreMovesOf, TellsMoves}
use Rattle.pol_taken.specs.declared.taken.Taken.{Taken}
use Rattle.pol_taken.specs.OfState.{IsTakenOf}
use Rattle.pol_kept_map.specs.Applies.{HasMove, MovesTell, NamesFilters, PlacesDiffer, all_filters}
use Rattle.pol_kept_map.specs.Work.{AllListed, AllOfPeers, WorkOf}
use Rattle.pol_slot_map.specs.Follow.{MayApply}
use Rattle.pol_slot_map.proofs.Listing.{filter_listed}
use Rattle.pol_slot_map.proofs.Places.{places_differ}
use Rattle.pol_slot_map.proofs.Stamps.{stamp_within}
use Rattle.pol_slot_map.proofs.Telling.{has_move, listed_since}

-- ---- the filters of both directions
module _ (options : Options) (s : State) (endpoint : Endpoint) where
  -- each is of a direction
  of_direction : (one : Filter) → Contains (all_filters (filters_at options s endpoint)) one
      → (dir : Direction) × Contains (filters_in s.policies endpoint.labels dir) one
  of_direction one there =
      let ingress = filters_in s.policies endpoint.labels Ingress in
      let egress = filters_in s.policies endpoint.labels Egress in
      elim (In-append one ingress egress (In-from_Contains (ingress ++ egress) one there))
      as (λ _. (dir : Direction) × Contains (filters_in s.policies endpoint.labels dir) one) [
        | inl in' ↦ (Ingress, Contains-from_In ingress one in')
        | inr out ↦ (Egress, Contains-from_In egress one out)
      ]

-- what holds of each peer that filters list
all_listed : (P : Peer → Type 0) (filters : Filters) (one : Filter) → AllListed P filters → Contains (all_filters filters) one → AllOfPeers P one.peers
all_listed P filters one all there =
    every-in (λ (f : Filter). AllOfPeers P f.peers) (all_filters filters)
    (every-append (λ (f : Filter). AllOfPeers P f.peers) filters.ingress filters.egress all.ingress all.egress)
    one (In-from_Contains (all_filters filters) one there)

have_sets : (rows : List SetRow) (filters : Filters) (one : Filter) → HaveSets rows filters → Contains (all_filters filters) one → PeersHaveSets rows one.peers
have_sets rows filters one have there =
    every-in (λ (f : Filter). PeersHaveSets rows f.peers) (all_filters filters)
    (every-append (λ (f : Filter). PeersHaveSets rows f.peers) filters.ingress filters.egress have.ingress have.egress)
    one (In-from_Contains (all_filters filters) one there)

peer_has : (rows : List SetRow) (peers : Peers) → PeersHaveSets rows peers → (p : Peer) → In p (peers_in peers) → IsTrue (has_set rows p)
peer_has rows Every have p there = elim there [ ]
peer_has rows (Listed peers) have p there = every-in (λ q. IsTrue (has_set rows q)) peers have p there

of_peer : (P : Peer → Type 0) (peers : Peers) → AllOfPeers P peers → (p : Peer) → In p (peers_in peers) → P p
of_peer P Every all p there = elim there [ ]
of_peer P (Listed peers) all p there = every-in P peers all p there

all_peers : (P : Peer → Type 0) (peers : Peers) → ((p : Peer) → In p (peers_in peers) → P p) → AllOfPeers P peers
all_peers P Every each = tt
all_peers P (Listed peers) each = every-from_in P peers each

-- ---- two takes
-- The work is what the state after so many requests gives an endpoint, and this was taken of the state after all of them.
module _ (options : Options) (journal : List Request) (since : ℕ) (within : since ≤ length journal) (work : WorkOf) (row : Endpoint) (slot : ℕ) (taken : Taken)
    (filters : work.filters ≡ filters_at options (state_at options journal since) row)
    (sets : AllListed (λ p. set_given work.rows p ≡ set_at (state_at options journal since).identities p) work.filters)
    (is : IsTakenOf options (state_of options journal) slot taken) where
  abbrev now : Filters
  now = filters_at options (state_of options journal) taken.endpoint

  abbrev then : Filters
  then = filters_at options (state_at options journal since) row

  names : NamesFilters then now
  names one other there here place stamp =
      let first = of_direction options (state_at options journal since) row one there in
      let second = of_direction options (state_of options journal) taken.endpoint other here in
      let whole : state_of options (take (length journal) journal) ≡ state_of options journal = ap (λ (xs : List Request). state_of options xs) (take-length journal) in
      named options journal since (length journal) row.labels taken.endpoint.labels first.0 second.0 one other first.1
      (subst (λ (s : State). Contains (filters_in s.policies taken.endpoint.labels second.0) other) (sym whole) second.1) place stamp

  -- a filter that was there then has no later stamp
  old_stamp : (own : Filter) → Contains (all_filters then) own → own.stamp ≤ since
  old_stamp own there =
      let at = of_direction options (state_at options journal since) row own there in
      let by = filter_listed (state_at options journal since).policies row.labels at.0 own at.1 in
      let stamp = by.lists.stamp in
      let few = stamp_within options (take since journal) by.stamped by.there in
      omega (arith, stamp, few, length-take since journal)

  moves_tell : (moves : List Move) → AreMovesOf options journal since taken.sets moves → MovesTell work (arc_value taken.filters) taken.sets moves
  moves_tell moves are one there stands =
      let here : Contains (all_filters now) one = subst (λ fs. Contains (all_filters fs) one) is.filters there in
      let old : Contains (all_filters then) stands.0 = subst (λ fs. Contains (all_filters fs) stands.0) filters stands.1 in
      let same : stands.0 ≡ one = names stands.0 one old here stands.2 stands.3 in
      let at = of_direction options (state_of options journal) taken.endpoint one here in
      let by = filter_listed (state_of options journal).policies taken.endpoint.labels at.0 one at.1 in
      let early = old_stamp stands.0 old in
      let stamp = by.lists.stamp in
      let alike = stands.3 in
      let was = all_listed (λ p. set_given work.rows p ≡ set_at (state_at options journal since).identities p) work.filters stands.0 sets stands.1 in
      all_peers (HasMove work.rows taken.sets moves) one.peers (λ p listed.
      has_move options journal since taken.sets moves are is.selectors work.rows p
      (peer_has taken.sets one.peers (have_sets taken.sets (arc_value taken.filters) one is.every there) p listed)
      (listed_since options journal since by.stamped p within (omega (arith, early, stamp, alike)) by.there (by.lists.peers p listed))
      is.sets
      (of_peer (λ q. set_given work.rows q ≡ set_at (state_at options journal since).identities q) one.peers
      (subst (λ (f : Filter). AllOfPeers (λ q. set_given work.rows q ≡ set_at (state_at options journal since).identities q) f.peers) same was) p listed))

  if_moved : (moves : Option (List Move)) → IfSome moves (λ told. TellsMoves options journal since taken.sets (Some told))
      → IfSome moves (MovesTell work (arc_value taken.filters) taken.sets)
  if_moved None told = tt
  if_moved (Some moves) told = moves_tell moves told.1

  pub may_apply : TellsMoves options journal since taken.sets taken.moves → MayApply work (arc_value taken.filters) taken.sets taken.moves
  may_apply told = record {
    sets = is.every;
    before = subst (λ fs. PlacesDiffer fs) (sym filters) (places_differ options (take since journal) row);
    after = subst (λ fs. PlacesDiffer fs) (sym is.filters) (places_differ options journal taken.endpoint);
    named = λ one other there here place stamp.
        names one other (subst (λ fs. Contains (all_filters fs) one) filters there) (subst (λ fs. Contains (all_filters fs) other) is.filters here) place stamp;
    moved = if_moved taken.moves (by taken.moves told);
  }
    where
      by : (moves : Option (List Move)) → TellsMoves options journal since taken.sets moves → IfSome moves (λ list. TellsMoves options journal since taken.sets (Some list))
      by None told = tt
      by (Some list) told = told
