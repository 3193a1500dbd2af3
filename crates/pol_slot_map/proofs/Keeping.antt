-- What is kept of an endpoint stays so for a longer history, and as it starts, goes on and is published.
use Rattle.std.proofs.Common.{◌≡◌, ℕ, ◌≤◌, List, [], ◌∷◌, IsTrue, Option, None, Some, IfSome, option_map, refl, sym, ap, ◌∙◌, subst, arith}
use Rattle.std.specs.Arc.{arc_value}
use Rattle.std.specs.FinMap as finite
use Rattle.std.specs.List.{AllByRecursion}
use Rattle.std.specs.Option.{option_map_or}
use mathlib.Core.List.{IsPrefix}
use Rattle.pol_data.proofs.Members.{every-in}
use Rattle.pol_mapkey.specs.Entries.{Entry as MapEntry}
use Rattle.pol_rule.specs.declared.policy.Peer.{Peer}
use Rattle.pol_rule.specs.declared.policy.Peers.{Peers}
use Rattle.pol_rule.specs.declared.policy.Peers.TheVariants.{Every, Listed}
use Rattle.pol_rule.proofs.Equality.{peer_eq-Decides}
use Rattle.pol_model.specs.declared.options.Options.{Options}
use Rattle.pol_model.specs.declared.row.IdentityRow.{IdentityRow}
use Rattle.pol_model.specs.PolicyMap.{policy_map}
use Rattle.pol_model.specs.Selects.{set_at}
use Rattle.pol_model.specs.State.{State}
use Rattle.pol_model_laws.proofs.Membership.{find-In, found-some}
use Rattle.pol_sets.specs.declared.sets.SetRow.{SetRow}
use Rattle.pol_sets.specs.Sets.{has_set, is_row_of, set_given}
use Rattle.pol_filters.specs.declared.filter.Filter.{Filter}
use Rattle.pol_filters.specs.declared.filter.Filters.{Filters}
use Rattle.pol_distill.specs.Distilled.{distilled, filters_at}
use Rattle.pol_distill.specs.Sorted.{HaveSets, ListHasSets, PeersHaveSets}
use Rattle.pol_map_changes.specs.Changes.{changed, table_of, whole}
use Rattle.pol_map_changes.proofs.Differences.{differences_lead, whole_is_difference}
use Rattle.pol_trie.specs.PolicyMap.{PolicyMap}
use Rattle.pol_history.specs.declared.event.EndpointId.{EndpointId}
use Rattle.pol_history.specs.declared.event.HistoryEvent.{HistoryEvent}
use Rattle.pol_history.specs.Commits.{live_endpoint, revision_of, state_after, state_now}
use Rattle.pol_history.specs.Legal.{IsLegal}
use Rattle.pol_history.specs.Machine.{endpoint_id}
use Rattle.pol_history.specs.Reports.{map_at}
use Rattle.pol_history.proofs.Cuts.{state-now}
use Rattle.pol_history.proofs.Names.{slot-live}
use Rattle.pol_history.proofs.Own.{map-prefix, revision-prefix, state-prefix}
use Rattle.pol_history_log.specs.Asked.{or_none, table_at}
use Rattle.pol_taken.specs.declared.taken.Taken.{Taken}
use Rattle.pol_taken.specs.OfState.{IsTakenOf}
use Rattle.pol_kept_map.specs.Work.{AllListed, AllOfFilters, AllOfPeers, IsWorkOf, WorkOf, map_of}
use Rattle.pol_kept_map.proofs.Works.{is_table}
use Rattle.pol_map_changes.specs.declared.change.Change.{Change}
use Rattle.pol_slot_map.specs.declared.base.Base.{Base}
use Rattle.pol_slot_map.specs.declared.follow.Followed.{Followed}
use Rattle.pol_slot_map.specs.Base.{IsFew, entries_in}
use Rattle.pol_slot_map.specs.Follow.{GoesOn, IsShown, IsStartOf, KeepsFew, Leads, LeadsFrom, Stays, base_of, changed_by, led}
use Rattle.pol_slot_map.specs.Followed.{Follows, id_in, table_then}
use Rattle.pol_slot_map.proofs.Cutting.{none_few, whole_few}

-- the changes lead from the map that was published last
leads_here : (options : Options) (history : List HistoryEvent) (f : Followed) → Follows options history f → Leads f
leads_here options history f is = subst (λ (t : PolicyMap). LeadsFrom t f) (sym is.base) is.leads

some_more : (o : Option ℕ) (less more : ℕ) → less ≤ more → IfSome o (λ n. n ≤ less) → IfSome o (λ n. n ≤ more)
some_more None less more fewer is = tt
some_more (Some n) less more fewer is = omega (arith, fewer, is)

-- ---- a longer history
table_kept : (options : Options) (old new : List HistoryEvent) (endpoint : EndpointId) (shown : Option ℕ) → IsPrefix old new
    → IfSome shown (λ revision. revision ≤ revision_of old) → table_then options new endpoint shown ≡ table_then options old endpoint shown
table_kept options old new endpoint None begins within = refl
table_kept options old new endpoint (Some revision) begins within =
    ap (λ (o : Option (List MapEntry)). table_of (or_none o)) (map-prefix options old new endpoint revision begins within)

pub follows-later : (options : Options) (old new : List HistoryEvent) (f : Followed) → IsPrefix old new → Follows options old f → Follows options new f
follows-later options old new f begins is =
    let more = revision-prefix old new begins in
    let within = is.within in
    let state : state_after options old f.kept ≡ state_after options new f.kept = sym (state-prefix options old new f.kept begins within) in
    record {
      within = omega (arith, more, within);
      shown_within = some_more f.shown (revision_of old) (revision_of new) more is.shown_within;
      row = is.row;
      live = ap (live_endpoint (id_in f)) (sym state) ∙ is.live;
      filters = is.filters ∙ ap (λ (s : State). filters_at options s is.row) state;
      sets = subst (λ (s : State). AllListed (λ p. set_given f.work.rows p ≡ set_at s.identities p) f.work.filters) state is.sets;
      canonical = map-prefix options old new (id_in f) f.kept begins within ∙ is.canonical;
      leads = ap (led f) (table_kept options old new (id_in f) f.shown begins is.shown_within) ∙ is.leads;
      base = is.base ∙ sym (table_kept options old new (id_in f) f.shown begins is.shown_within);
      few = is.few;
    }

-- ---- the sets of what was taken
module _ (identities : List IdentityRow) (rows : List SetRow) (exact : AllByRecursion (λ row. arc_value row.set ≡ set_at identities row.peer) rows) (work : WorkOf) where
  given_exactly : (p : Peer) → IsTrue (has_set rows p) → set_given rows p ≡ set_at identities p
  given_exactly p there =
      let one = found-some (is_row_of p) rows there in
      let at = find-In (is_row_of p) one.0 rows one.1 in
      ap (λ o. option_map_or (λ (row : SetRow). arc_value row.set) o []) one.1
      ∙ every-in (λ (row : SetRow). arc_value row.set ≡ set_at identities row.peer) rows exact one.0 at.0
      ∙ ap (set_at identities) ((peer_eq-Decides one.0.peer p).0 at.1)

  abbrev Agrees : Peer → Type 0
  Agrees p = set_given work.rows p ≡ set_given rows p

  abbrev IsExact : Peer → Type 0
  IsExact p = set_given work.rows p ≡ set_at identities p

  exact_list : (peers : List Peer) → AllByRecursion Agrees peers → AllByRecursion (λ p. IsTrue (has_set rows p)) peers → AllByRecursion IsExact peers
  exact_list [] agrees have = tt
  exact_list (p ∷ peers) agrees have = (agrees.0 ∙ given_exactly p have.0, exact_list peers agrees.1 have.1)

  exact_peers : (peers : Peers) → AllOfPeers Agrees peers → PeersHaveSets rows peers → AllOfPeers IsExact peers
  exact_peers Every agrees have = tt
  exact_peers (Listed peers) agrees have = exact_list peers agrees have

  exact_filters : (filters : List Filter) → AllOfFilters Agrees filters → ListHasSets rows filters → AllOfFilters IsExact filters
  exact_filters [] agrees have = tt
  exact_filters (one ∷ filters) agrees have = (exact_peers one.peers agrees.0 have.0, exact_filters filters agrees.1 have.1)

  exact_listed : (filters : Filters) → AllListed Agrees filters → HaveSets rows filters → AllListed IsExact filters
  exact_listed filters agrees have = record {
    ingress = exact_filters filters.ingress agrees.ingress have.ingress;
    egress = exact_filters filters.egress agrees.egress have.egress;
  }

-- ---- what was taken is followed
module _ (options : Options) (history : List HistoryEvent) (legal : IsLegal options history) (slot : ℕ) (taken : Taken)
    (is : IsTakenOf options (state_now options history) slot taken) (revision : taken.revision ≡ revision_of history)
    (made : distilled (arc_value taken.filters) taken.sets ≡ policy_map options (state_now options history) taken.endpoint) where
  module _ (f : Followed) (id : id_in f ≡ endpoint_id taken.endpoint) (kept : f.kept ≡ taken.revision) (work : IsWorkOf (arc_value taken.filters) taken.sets f.work)
      (map : map_of f.work ≡ distilled (arc_value taken.filters) taken.sets) where
    follows_taken : IfSome f.shown (λ shown. shown ≤ revision_of history) → Leads f → table_of (base_of f) ≡ table_then options history (id_in f) f.shown
        → KeepsFew f → Follows options history f
    follows_taken shown leads base few =
        let at : f.kept ≡ revision_of history = kept ∙ revision in
        let now : state_now options history ≡ state_after options history f.kept =
        sym (ap (λ (n : ℕ). state_after options history n) at ∙ state-now options history) in
        let live : live_endpoint (id_in f) (state_now options history) ≡ Some taken.endpoint =
        ap (λ (e : EndpointId). live_endpoint e (state_now options history)) id ∙ slot-live options history legal slot taken.endpoint is.endpoint in
        record {
          within = omega (arith, at);
          shown_within = shown;
          row = taken.endpoint;
          live = subst (λ (s : State). live_endpoint (id_in f) s ≡ Some taken.endpoint) now live;
          filters = subst (λ (s : State). f.work.filters ≡ filters_at options s taken.endpoint) now (work.same ∙ is.filters);
          sets = subst (λ (s : State). AllListed (λ p. set_given f.work.rows p ≡ set_at s.identities p) f.work.filters) now
              (subst (AllListed (λ p. set_given f.work.rows p ≡ set_at (state_now options history).identities p)) (sym work.same)
              (exact_listed (state_now options history).identities taken.sets is.sets f.work (arc_value taken.filters) work.agrees is.every));
          canonical = subst (λ (s : State). option_map (policy_map options s) (live_endpoint (id_in f) s) ≡ Some (map_of f.work)) now
              (ap (option_map (policy_map options (state_now options history))) live ∙ ap (λ (m : List MapEntry). Some m) (sym (map ∙ made)));
          leads = subst (λ (t : PolicyMap). LeadsFrom t f) base leads;
          base = base;
          few = few;
        }

  -- at the start
  pub follows-start : (f : Followed) → IsStartOf taken f → Follows options history f
  follows-start f start =
      let id : id_in f ≡ endpoint_id taken.endpoint = λ i. record { name = start.name i; added = start.added i } in
      let sorted = is_table (map_of f.work) (arc_value taken.filters) taken.sets start.made in
      let leads : changed (whole (map_of f.work)) finite.empty ≡ table_of (map_of f.work) =
      differences_lead (whole (map_of f.work)) finite.empty (table_of (map_of f.work)) (whole_is_difference (map_of f.work) sorted) in
      let by : led f finite.empty ≡ changed (whole (map_of f.work)) finite.empty = λ i. changed_by (start.behind i) (changed (start.pending i) finite.empty) in
      let base : table_of (base_of f) ≡ finite.empty = ap (λ (b : Base). table_of (entries_in b f.work)) start.base in
      follows_taken f id start.kept start.work start.made
      (subst (λ (o : Option ℕ). IfSome o (λ shown. shown ≤ revision_of history)) (sym start.shown) tt)
      (subst (λ (t : PolicyMap). LeadsFrom t f) (sym base) (by ∙ leads))
      (subst (λ (o : Option ℕ). table_of (base_of f) ≡ table_then options history (id_in f) o) (sym start.shown) base)
      (λ joined. subst (λ (cs : List Change). IsFew cs (base_of f) (map_of f.work)) (sym start.pending) (whole_few (base_of f) (map_of f.work)))

  -- where it goes on
  pub follows-on : (old new : Followed) → id_in old ≡ endpoint_id taken.endpoint → Follows options history old
      → GoesOn (arc_value taken.filters) taken.sets taken.revision old new → Follows options history new
  follows-on old new same was on =
      let id : id_in new ≡ id_in old = λ i. record { name = on.follows.name i; added = on.follows.added i } in
      let table : table_then options history (id_in old) old.shown ≡ table_then options history (id_in new) new.shown =
      λ i. table_then options history (sym id i) (sym on.follows.shown i) in
      follows_taken new (id ∙ same) on.kept on.work on.made
      (subst (λ (o : Option ℕ). IfSome o (λ shown. shown ≤ revision_of history)) (sym on.follows.shown) was.shown_within)
      (on.follows.leads (leads_here options history old was)) (ap table_of on.follows.base ∙ was.base ∙ table)
      (on.follows.few (leads_here options history old was) was.few)

-- ---- where the map is the same
module _ (options : Options) (history : List HistoryEvent) (old new : Followed) (is : Follows options history old) where
  module _ (name : new.name ≡ old.name) (added : new.added ≡ old.added) (kept : new.kept ≡ old.kept) (work : new.work ≡ old.work) where
    same_id : id_in new ≡ id_in old
    same_id = λ i. record { name = name i; added = added i }

    follows_same : IfSome new.shown (λ shown. shown ≤ revision_of history) → Leads new → table_of (base_of new) ≡ table_then options history (id_in new) new.shown
        → KeepsFew new → Follows options history new
    follows_same shown leads base few =
        let state : state_after options history old.kept ≡ state_after options history new.kept = ap (λ (n : ℕ). state_after options history n) (sym kept) in
        let within = is.within in
        record {
          within = omega (arith, kept, within);
          shown_within = shown;
          row = is.row;
          live = (λ i. live_endpoint (same_id i) (state_after options history (kept i))) ∙ is.live;
          filters = ap (λ (w : WorkOf). w.filters) work ∙ is.filters ∙ ap (λ (s : State). filters_at options s is.row) state;
          sets = subst (λ (s : State). AllListed (λ p. set_given new.work.rows p ≡ set_at s.identities p) new.work.filters) state
              (subst (λ (w : WorkOf). AllListed (λ p. set_given w.rows p ≡ set_at (state_after options history old.kept).identities p) w.filters) (sym work) is.sets);
          canonical = (λ i. map_at options history (same_id i) (kept i)) ∙ is.canonical ∙ ap (λ (w : WorkOf). Some (map_of w)) (sym work);
          leads = subst (λ (t : PolicyMap). LeadsFrom t new) base leads;
          base = base;
          few = few;
        }

  pub follows-stays : Stays old new → Follows options history new
  follows-stays stays =
      let id = same_id stays.follows.name stays.follows.added stays.kept stays.work in
      follows_same stays.follows.name stays.follows.added stays.kept stays.work
      (subst (λ (o : Option ℕ). IfSome o (λ shown. shown ≤ revision_of history)) (sym stays.follows.shown) is.shown_within)
      (stays.follows.leads (leads_here options history old is))
      (ap table_of stays.follows.base ∙ is.base ∙ (λ i. table_then options history (sym id i) (sym stays.follows.shown i)))
      (stays.follows.few (leads_here options history old is) is.few)

  -- where it is published
  pub follows-shown : IsShown old new → Follows options history new
  follows-shown shown =
      let id = same_id shown.name shown.added shown.kept shown.work in
      let table : table_then options history (id_in new) (Some old.kept) ≡ table_of (map_of new.work) =
      (λ i. table_of (table_at options history (id i) old.kept)) ∙ ap (λ (o : Option (List MapEntry)). table_of (or_none o)) is.canonical ∙ ap (λ (w : WorkOf). table_of (map_of w)) (sym shown.work) in
      let base : table_of (base_of new) ≡ table_of (map_of new.work) = ap (λ (b : Base). table_of (entries_in b new.work)) shown.base in
      follows_same shown.name shown.added shown.kept shown.work
      (subst (λ (o : Option ℕ). IfSome o (λ r. r ≤ revision_of history)) (sym shown.shown) is.within)
      ((λ i. changed_by (shown.behind i) (changed (shown.pending i) (table_of (base_of new)))) ∙ base)
      (base ∙ subst (λ (o : Option ℕ). table_of (map_of new.work) ≡ table_then options history (id_in new) o) (sym shown.shown) (sym table))
      (λ joined. subst (λ (cs : List Change). IsFew cs (base_of new) (map_of new.work)) (sym shown.pending) (none_few (base_of new) (map_of new.work)))
