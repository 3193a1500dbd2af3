-- A work that stays as it is: no filter comes or goes, and no set moves.
use Rattle.std.proofs.Common.{◌≡◌, ℕ, Bool, true, false, not, ◌&&◌, List, map, filter, refl, sym, ap, ◌∙◌, subst}
use Rattle.std.specs.List.{AllByRecursion, Contains}
use Rattle.std.proofs.lemmas.List.Elements.{Contains-append_left, Contains-append_right}
use Rattle.pol_data.proofs.Every.{every-contained, every-kept, every-map, every-weaker}
use Rattle.pol_data.proofs.Members.{Contains-from_In, every-from_in}
use Rattle.pol_ports.specs.declared.Direction.{Direction}
use Rattle.pol_ports.specs.declared.Direction.TheVariants.{Ingress, Egress}
use Rattle.pol_rule.specs.declared.policy.Peer.{Peer}
use Rattle.pol_rule.specs.declared.policy.Peers.{Peers}
use Rattle.pol_rule.specs.declared.policy.Peers.TheVariants.{Every, Listed}
use Rattle.pol_model_laws.specs.MapFacts.{AgreeOnEntries, AgreeOnParts, AgreeOnPeers}
use Rattle.pol_model_laws.proofs.PeerSets.{map_same}
use Rattle.pol_sets.specs.Ids.{has}
use Rattle.pol_sets.specs.Sets.{set_given}
use Rattle.pol_sets.specs.declared.sets.Move.{Move}
use Rattle.pol_sets.specs.declared.sets.SetRow.{SetRow}
use Rattle.pol_sets.proofs.IdLemmas.{has-without, same_ids, same_tests}
use Rattle.pol_set_changes.specs.Sets.{IsMove}
use Rattle.pol_filters.specs.declared.filter.Filter.{Filter}
use Rattle.pol_filters.specs.declared.filter.Filters.{Filters}
use Rattle.pol_filters.specs.FilterParts.{entry_of, filter_parts, filters_of}
use Rattle.pol_distill.specs.Distilled.{distilled}
use Rattle.pol_entry_changes.specs.PeerRow.{Ascend, IsStill}
use Rattle.pol_entry_changes.specs.Told.{NamesOne}
use Rattle.pol_entry_changes.proofs.FirstRow.{given_ascends}
use Rattle.pol_kept_map.specs.Applies.{HasMove, MovesTell, NamesFilters, all_filters}
use Rattle.pol_kept_map.specs.Work.{AllListed, AllOfFilters, AllOfPeers, HasSameModes, IsWorkOf, WorkOf}

-- ---- a move that moves nothing
neither : (a b : Bool) → (not b && a) ≡ false → a ≡ true → b ≡ true
neither a true none there = refl
neither a false none there = sym none ∙ there

module _ (old new : List ℕ) (m : Move) (is : IsMove old new m) (still : IsStill m) where
  none_lost : (id : ℕ) → (not (has id new) && has id old) ≡ false
  none_lost id = sym (has-without id old new) ∙ ap (has id) (sym is.lost ∙ still.1)

  none_gained : (id : ℕ) → (not (has id old) && has id new) ≡ false
  none_gained id = sym (has-without id new old) ∙ ap (has id) (sym is.gained ∙ still.0)

  same_numbers : (id : ℕ) → has id old ≡ has id new
  same_numbers id =
      same_tests (has id old) (has id new) (neither (has id old) (has id new) (none_lost id)) (neither (has id new) (has id old) (none_gained id))

-- ---- the sets of listed peers are the same
module _ (was is : List SetRow) (moves : List Move) (before : AllByRecursion Ascend was) (after : AllByRecursion Ascend is) (still : AllByRecursion IsStill moves) where
  Agrees : Peer → Type 0
  Agrees p = set_given was p ≡ set_given is p

  peer_agrees : (p : Peer) → HasMove was is moves p → set_given was p ≡ set_given is p
  peer_agrees p own =
      same_ids (set_given was p) (set_given is p) (given_ascends was before p) (given_ascends is after p)
      (same_numbers (set_given was p) (set_given is p) own.move (own.exact own.move own.there own.own) (every-contained IsStill moves own.move still own.there))

  peers_agree : (peers : Peers) → AllOfPeers (HasMove was is moves) peers → AllOfPeers (λ p. set_given was p ≡ set_given is p) peers
  peers_agree Every all = tt
  peers_agree (Listed peers) all = every-weaker (HasMove was is moves) (λ p. set_given was p ≡ set_given is p) peer_agrees peers all

  module _ (work : WorkOf) (filters : Filters) (rows : work.rows ≡ was) (tell : MovesTell work filters is moves) (same : work.filters ≡ filters) where
    has_moves : (one : Filter) → Contains (all_filters filters) one → AllOfPeers (HasMove was is moves) one.peers
    has_moves one there =
        subst (λ own. AllOfPeers (HasMove own is moves) one.peers) rows
        (tell one there (one, subst (λ (f : Filters). Contains (all_filters f) one) (sym same) there, refl, refl))

    list_agrees : (list : List Filter) → ((one : Filter) → Contains list one → Contains (all_filters filters) one) → AllOfFilters (λ p. set_given was p ≡ set_given is p) list
    list_agrees list among =
        every-from_in (λ (one : Filter). AllOfPeers (λ p. set_given was p ≡ set_given is p) one.peers) list
        (λ one there. peers_agree one.peers (has_moves one (among one (Contains-from_In list one there))))

    pub all_agree : AllListed (λ p. set_given was p ≡ set_given is p) filters
    all_agree = record {
      ingress = list_agrees filters.ingress (λ one there. Contains-append_left filters.ingress filters.egress one there);
      egress = list_agrees filters.egress (λ one there. Contains-append_right filters.ingress filters.egress one there);
    }

-- ---- rows that agree on the listed peers make one map
module _ (was is : List SetRow) where
  on_peers : (peers : Peers) → AllOfPeers (λ p. set_given was p ≡ set_given is p) peers → AgreeOnPeers (set_given was) (set_given is) peers
  on_peers Every all = tt
  on_peers (Listed peers) all = every-weaker (λ p. set_given was p ≡ set_given is p) _ (λ p own _. own) peers all

  on_entries : (test : Filter → Bool) (list : List Filter) → AllOfFilters (λ p. set_given was p ≡ set_given is p) list
      → AgreeOnEntries (set_given was) (set_given is) (map entry_of (filter test list))
  on_entries test list all =
      every-map (λ entry. AgreeOnPeers (set_given was) (set_given is) entry.peers) entry_of (filter test list)
      (every-kept (λ one. AgreeOnPeers (set_given was) (set_given is) one.peers) test list
      (every-weaker (λ one. AllOfPeers (λ p. set_given was p ≡ set_given is p) one.peers) (λ one. AgreeOnPeers (set_given was) (set_given is) one.peers)
      (λ one own. on_peers one.peers own) list all))

  in_direction : (filters : Filters) → AllListed (λ p. set_given was p ≡ set_given is p) filters → (dir : Direction)
      → AllOfFilters (λ p. set_given was p ≡ set_given is p) (filters_of filters dir)
  in_direction filters all Ingress = all.ingress
  in_direction filters all Egress = all.egress

  on_parts : (filters : Filters) → AllListed (λ p. set_given was p ≡ set_given is p) filters → AgreeOnParts (set_given was) (set_given is) (filter_parts filters)
  on_parts filters all = record {
    allows = λ dir. on_entries _ (filters_of filters dir) (in_direction filters all dir);
    denies = λ dir. on_entries _ (filters_of filters dir) (in_direction filters all dir);
  }

  pub one_map : (filters : Filters) → AllListed (λ p. set_given was p ≡ set_given is p) filters → distilled filters was ≡ distilled filters is
  one_map filters all = map_same (set_given was) (set_given is) (filter_parts filters) (on_parts filters all)

-- ---- filters that stand, with the same modes, are the same
pub names_ingress : (before after : Filters) → NamesFilters before after → NamesOne before.ingress after.ingress
names_ingress before after names one other there here stands =
    names one other (Contains-append_left before.ingress before.egress one there) (Contains-append_left after.ingress after.egress other here) stands.0 stands.1

pub names_egress : (before after : Filters) → NamesFilters before after → NamesOne before.egress after.egress
names_egress before after names one other there here stands =
    names one other (Contains-append_right before.ingress before.egress one there) (Contains-append_right after.ingress after.egress other here) stands.0 stands.1

pub same_filters : (one other : Filters) → HasSameModes one other → one.ingress ≡ other.ingress → one.egress ≡ other.egress → one ≡ other
same_filters one other modes ingress egress i = record {
  never = modes.never i;
  ingress_enforced = modes.ingress i;
  egress_enforced = modes.egress i;
  localhost = modes.localhost i;
  ingress = ingress i;
  egress = egress i;
}

-- ---- the work stays
module _ (before after : Filters) (was is : List SetRow) (moves : List Move) (names : NamesFilters before after)
    (tell : MovesTell (record { filters = before; rows = was }) after is moves) (same : before ≡ after)
    (ascend : AllByRecursion Ascend was) (ascend' : AllByRecursion Ascend is) (still : AllByRecursion IsStill moves) where
  agrees : AllListed (λ p. set_given was p ≡ set_given is p) after
  agrees = all_agree was is moves ascend ascend' still (record { filters = before; rows = was }) after refl tell same

  pub stays_work : IsWorkOf after is (record { filters = before; rows = was })
  stays_work = record { same = same; agrees = agrees }

  pub stays_map : distilled before was ≡ distilled after is
  stays_map = ap (λ filters. distilled filters was) same ∙ one_map was is after agrees
