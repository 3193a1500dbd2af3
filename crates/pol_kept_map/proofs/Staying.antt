-- Filters that stay, and the moves of their peers.
use Rattle.std.proofs.Common.{List}
use Rattle.pol_data.proofs.Every.{every-weaker}
use Rattle.std.proofs.lemmas.List.Elements.{Contains-append_left, Contains-append_right}
use Rattle.pol_rule.specs.declared.policy.Peer.{Peer}
use Rattle.pol_rule.specs.declared.policy.Peers.{Peers}
use Rattle.pol_rule.specs.declared.policy.Peers.TheVariants.{Every, Listed}
use Rattle.pol_sets.specs.declared.sets.Move.{Move}
use Rattle.pol_sets.specs.declared.sets.SetRow.{SetRow}
use Rattle.pol_filters.specs.declared.filter.Filters.{Filters}
use Rattle.pol_entry_changes.specs.Told.{IsTold, PeersTold, Stays}
use Rattle.pol_kept_map.specs.Applies.{HasMove, MovesTell, NamesFilters}
use Rattle.pol_kept_map.specs.Work.{AllOfPeers}

module _ (was is : List SetRow) (moves : List Move) where
  is_told : (p : Peer) → HasMove was is moves p → IsTold was is moves p
  is_told p has = record { row = has.row; first = has.first; move = has.move; there = has.there; own = has.own; exact = has.exact }

  peers_told : (peers : Peers) → AllOfPeers (HasMove was is moves) peers → PeersTold was is moves peers
  peers_told Every all = tt
  peers_told (Listed peers) all = every-weaker (HasMove was is moves) (IsTold was is moves) is_told peers all

  module _ (before after : Filters) (names : NamesFilters before after) (tell : MovesTell (record { filters = before; rows = was }) after is moves) where
    pub stays_ingress : Stays was is moves before.ingress after.ingress
    stays_ingress one other there here stands =
        let old = Contains-append_left before.ingress before.egress one there in
        let new = Contains-append_left after.ingress after.egress other here in
        (names one other old new stands.0 stands.1, peers_told other.peers (tell other new (one, old, stands.0, stands.1)))

    pub stays_egress : Stays was is moves before.egress after.egress
    stays_egress one other there here stands =
        let old = Contains-append_right before.ingress before.egress one there in
        let new = Contains-append_right after.ingress after.egress other here in
        (names one other old new stands.0 stands.1, peers_told other.peers (tell other new (one, old, stands.0, stands.1)))
