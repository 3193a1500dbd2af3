-- What was taken of an endpoint at a beginning of the history may be reported behind the history, and is found there.
use Rattle.std.proofs.Common.{◌≡◌, ℕ, ◌-◌, ◌==◌, ◌<◌, ◌≤◌, not, Bool, true, List, [], ◌∷◌, ◌++◌, length, Option, None, Some, IfErr, IfSome, IsErrAnd, IsTrue, OnErr, OnOk, Result, Ok, Err, option_map, refl, sym, ap, subst, ◌∙◌, arith}
use Rattle.std.specs.FinMap as finite
use Rattle.std.specs.List.{slice_get}
use Rattle.std.specs.List.Sorted.{IsStrictlySortedBy}
use Rattle.std.proofs.lemmas.Bool.{eqb-true, false≢true}
use Rattle.std.proofs.lemmas.Option.{same_Some, slice_get_within}
use mathlib.Core.List.{IsPrefix}
use Rattle.pol_data.proofs.Members.{Contains-from_In}
use Rattle.pol_mapkey.specs.Entries.{Entry as MapEntry}
use Rattle.pol_trie.specs.PolicyMap.{PolicyMap}
use Rattle.pol_map_changes.specs.Changes.{changed, table_of}
use Rattle.pol_map_changes.specs.declared.change.Change.{Change}
use Rattle.pol_map_changes.proofs.Differences.{tables_have_their_entries}
use Rattle.pol_model.specs.PolicyMap.{map_parts, map_size, policy_map, raw_entries}
use Rattle.pol_model.specs.Selects.{set_at}
use Rattle.pol_model.specs.State.{State}
use Rattle.pol_model.specs.declared.options.Options.{Options}
use Rattle.pol_model.specs.declared.row.Endpoint.{Endpoint}
use Rattle.pol_model.specs.FullRows.{fits_limit}
use Rattle.pol_model_laws.proofs.Canonical.{canonical_ascends}
use Rattle.pol_model_laws.proofs.Membership.{find-In}
use Rattle.pol_model_laws.proofs.Remembered.{added-by}
use Rattle.pol_history.specs.declared.event.EndpointId.{EndpointId}
use Rattle.pol_history.specs.declared.event.HistoryEvent.{HistoryEvent}
use Rattle.pol_history.specs.declared.event.HistoryEvent.TheVariants as event
use Rattle.pol_history.specs.declared.event.LastReport.{LastReport}
use Rattle.pol_history.specs.Commits.{Lives, commits_in, live_endpoint, revision_of, state_after, state_now}
use Rattle.pol_history.specs.Content.{BoardRow, PublishedMap, content_of}
use Rattle.pol_history.specs.Held.{ShowsMap, ShowsRow}
use Rattle.pol_history.specs.Legal.{IsLegal}
use Rattle.pol_history.specs.Machine.{endpoint_id, endpoint_in, is_reported}
use Rattle.pol_history.specs.MayFollow.{BlockedMayFollow, PublishMayFollow, ReportMayFollow}
use Rattle.pol_history.specs.Reports.{last_published, last_report, map_at, published_before}
use Rattle.pol_history.proofs.Beginnings.{prefix_length, prefix_more}
use Rattle.pol_history.proofs.Contents.{content-rows}
use Rattle.pol_history.proofs.Cuts.{state-now}
use Rattle.pol_history.proofs.Lists.{get_seam, no_element}
use Rattle.pol_history.proofs.Lives.{lives-then}
use Rattle.pol_history.proofs.Names.{live-id, live-in, slot-found, slot-live}
use Rattle.pol_history.proofs.Own.{legal_prefix, map-prefix, revision-prefix, state-prefix}
use Rattle.pol_history.proofs.Same.{live-parts}
use Rattle.pol_history_log.specs.Asked.{or_none, table_at}
use Rattle.pol_board_view.specs.Changes.{table_held, table_shown}
use Rattle.pol_board_view.specs.Rows.{Leads, table_in}
use Rattle.pol_taken.specs.OfState.{IsTakenOf}
use Rattle.pol_taken.specs.declared.taken.Taken.{Taken}
use Rattle.pol_slot_map.specs.Followed.{table_then}
use Rattle.pol_node.specs.declared.report.RegenError.{RegenError}
use Rattle.pol_node.specs.declared.report.RegenError.TheVariants as error
use Rattle.pol_node.specs.Kept.{IsLastNoMore, IsLastNow, IsOvertaken, IsStill, KeptReport, known}
use Rattle.pol_node.specs.Finish.{TellsPublished, WasBlocked, WasPublished, WasReportedAs}

-- ---- tables by their entries

has_entries : (options : Options) (s : State) (endpoint : Endpoint) → finite.entries (table_of (policy_map options s endpoint)) ≡ policy_map options s endpoint
has_entries options s endpoint =
    tables_have_their_entries (policy_map options s endpoint) (canonical_ascends (raw_entries (set_at s.identities) (map_parts options s endpoint)))

no_entries : finite.entries (table_of []) ≡ []
unfolding IsStrictlySortedBy
no_entries = tables_have_their_entries [] tt

-- the one table of these entries
table_is : (table : PolicyMap) (entries : List MapEntry) → finite.entries (table_of entries) ≡ entries → finite.entries table ≡ entries → table ≡ table_of entries
table_is table entries whole same = finite.same_entries_map table (table_of entries) (same ∙ sym whole)

-- ---- the table that the board shows

-- the entries are those of the table
record IsTableOf (entries : List MapEntry) (table : PolicyMap) : Type 0 where
  pub same : table_of entries ≡ table
  pub whole : finite.entries (table_of entries) ≡ entries

module _ (options : Options) (history : List HistoryEvent) (endpoint : EndpointId) (row : Endpoint)
    (live : live_endpoint endpoint (state_now options history) ≡ Some row) where
  map_held : (map : Option PublishedMap) (last : Option ℕ) → last_published endpoint history ≡ last → ShowsMap options history row map
      → IsTableOf (table_in map) (table_then options history endpoint last)
  map_held None last is shows =
      let none : last ≡ None = sym is ∙ ap (λ (e : EndpointId). last_published e history) (sym (live-id options history endpoint row live)) ∙ shows in
      subst (λ (l : Option ℕ). IsTableOf [] (table_then options history endpoint l)) (sym none) (record { same = refl; whole = no_entries })
  map_held (Some map) last is shows =
      let id = live-id options history endpoint row live in
      let some : last ≡ Some map.revision = sym is ∙ ap (λ (e : EndpointId). last_published e history) (sym id) ∙ shows.last in
      let s : State = state_after options history map.revision in
      let since : endpoint.added ≤ map.revision = subst (λ (e : EndpointId). e.added ≤ map.revision) id shows.since_added in
      let there : live_endpoint endpoint s ≡ Some row = lives-then options history endpoint row map.revision shows.committed since live in
      let entries : table_at options history endpoint map.revision ≡ map.table =
      ap (λ (o : Option Endpoint). or_none (option_map (policy_map options s) o)) there ∙ sym shows.canonical in
      subst (λ (l : Option ℕ). IsTableOf map.table (table_then options history endpoint l)) (sym some)
      (record {
        same = ap table_of (sym entries);
        whole = subst (λ (es : List MapEntry). finite.entries (table_of es) ≡ es) (sym shows.canonical) (has_entries options s row);
      })

  row_held : (held : Option BoardRow) (last : Option ℕ) → last_published endpoint history ≡ last → ShowsRow options history endpoint.name held
      → IsTableOf (table_held held) (table_then options history endpoint last)
  row_held None last is shows = absurd (no_element row (sym shows ∙ (live-parts endpoint (state_now options history) row live).0))
  row_held (Some held) last is shows =
      let found : Some shows.endpoint ≡ Some row = sym shows.found ∙ (live-parts endpoint (state_now options history) row live).0 in
      let same : shows.endpoint ≡ row = (cc) in
      map_held held.map last is (subst (λ (e : Endpoint). ShowsMap options history e held.map) same shows.map)

  table_held_is : (last : Option ℕ) → IsLegal options history → last_published endpoint history ≡ last
      → IsTableOf (table_shown options history endpoint.name) (table_then options history endpoint last)
  table_held_is last legal is =
      row_held ((content_of options history).live endpoint.name) last is (content-rows options history legal endpoint.name)

-- the table at a revision of a beginning
then_prefix : (options : Options) (old history : List HistoryEvent) (endpoint : EndpointId) (last : Option ℕ) → IsPrefix old history
    → IfSome last (λ revision. revision ≤ revision_of old) → table_then options history endpoint last ≡ table_then options old endpoint last
then_prefix options old history endpoint None begins within = refl
then_prefix options old history endpoint (Some revision) begins within =
    ap (λ (map : Option (List MapEntry)). table_of (or_none map)) (map-prefix options old history endpoint revision begins within)

-- ---- what may come next

-- A report of the endpoint at the revision may come next, where it is live, and its last published map is that at this
-- revision, if there is one.
pub record IsNext (options : Options) (history : List HistoryEvent) (endpoint : EndpointId) (revision : ℕ) (last : Option ℕ) : Type 0 where
  pub live : Lives (state_now options history) endpoint
  pub newer : IfSome (last_report endpoint history) (λ report. report.revision < revision)
  pub commits : IfSome (last_report endpoint history) (λ report. report.commits ≤ revision)
  pub shown : last_published endpoint history ≡ last

-- by its last report
pub next_by : (options : Options) (history : List HistoryEvent) (endpoint : EndpointId) (revision : ℕ) (last : Option ℕ) (report : Option LastReport)
    → Lives (state_now options history) endpoint → report ≡ last_report endpoint history → IfSome report (λ r. r.revision < revision)
    → IfSome report (λ r. r.commits ≤ revision) → published_before report ≡ last → IsNext options history endpoint revision last
next_by options history endpoint revision last report live is newer commits shown = record {
  live = live;
  newer = subst (λ (o : Option LastReport). IfSome o (λ r. r.revision < revision)) is newer;
  commits = subst (λ (o : Option LastReport). IfSome o (λ r. r.commits ≤ revision)) is commits;
  shown = sym (ap published_before is) ∙ shown;
}

-- a history is as before, or has an event more
pub either_way : {T E : Type 0} (P : List HistoryEvent → Type 0) (result : Result T E) (history new : List HistoryEvent) (e : HistoryEvent)
    → OnOk result (new ≡ history ++ e ∷ []) → OnErr result (new ≡ history) → P history → P (history ++ e ∷ []) → P new
either_way P (Ok x) history new e ok err same more = subst P (sym ok) more
either_way P (Err x) history new e ok err same more = subst P (sym err) same

-- want of memory is handed on
pub memory_fails : {T : Type 0} (P : RegenError → Type 0) (result : Result T RegenError) → IsErrAnd result (λ why. why ≡ error.Memory) → P error.Memory → IfErr result P
memory_fails P (Ok x) told is = tt
memory_fails P (Err why) told is = subst P (sym told) is

-- ---- what was taken

-- it was taken after a beginning of the history
pub record WasTakenAt (options : Options) (old history : List HistoryEvent) (taken : Taken) : Type 0 where
  pub begins : IsPrefix old history
  pub legal : IsLegal options history
  pub revision : taken.revision ≡ revision_of old
  pub is : IsTakenOf options (state_now options old) taken.endpoint.slot taken

-- where a pass was shown the history
pub taken_before : (options : Options) (old shown history : List HistoryEvent) (taken : Taken) → IsPrefix old shown → IsLegal options shown → shown ≡ history
    → taken.revision ≡ revision_of old → IsTakenOf options (state_now options old) taken.endpoint.slot taken → WasTakenAt options old history taken
taken_before options old shown history taken begins legal all revision is =
    subst (λ (h : List HistoryEvent). WasTakenAt options old h taken) all (record { begins = begins; legal = legal; revision = revision; is = is })

module _ (options : Options) (old history : List HistoryEvent) (taken : Taken) (was : WasTakenAt options old history taken) where
  pub within : taken.revision ≤ revision_of history
  within = let fewer = revision-prefix old history was.begins in omega (arith, fewer, was.revision)

  then_is : state_after options history taken.revision ≡ state_now options old
  then_is =
      state-prefix options old history taken.revision was.begins (omega (arith, was.revision))
      ∙ ap (λ (n : ℕ). state_after options old n) was.revision
      ∙ state-now options old

  pub taken_then : IsTakenOf options (state_after options history taken.revision) taken.endpoint.slot taken
  taken_then = subst (λ (s : State). IsTakenOf options s taken.endpoint.slot taken) (sym then_is) was.is

  live_then : live_endpoint (endpoint_id taken.endpoint) (state_after options history taken.revision) ≡ Some taken.endpoint
  live_then =
      ap (λ (s : State). live_endpoint (endpoint_id taken.endpoint) s) then_is
      ∙ slot-live options old (legal_prefix options old history was.begins was.legal) taken.endpoint.slot taken.endpoint was.is.endpoint

  map_then : map_at options history (endpoint_id taken.endpoint) taken.revision ≡ Some (policy_map options (state_now options old) taken.endpoint)
  map_then =
      ap (λ (o : Option Endpoint). option_map (policy_map options (state_after options history taken.revision)) o) live_then
      ∙ ap (λ (s : State). Some (policy_map options s taken.endpoint)) then_is

  table_now : table_at options history (endpoint_id taken.endpoint) taken.revision ≡ policy_map options (state_now options old) taken.endpoint
  table_now = ap or_none map_then

  since_added : taken.endpoint.added ≤ taken.revision
  since_added =
      let rows = (state_now options old).endpoints in
      let there = (find-In (λ (e : Endpoint). e.slot == taken.endpoint.slot) taken.endpoint rows was.is.endpoint).0 in
      let by = added-by options (commits_in old) taken.endpoint (Contains-from_In rows taken.endpoint there) in
      let below = slice_get_within (commits_in old) (taken.endpoint.added - 1) _ by.1 in
      omega (arith, by.0, below, was.revision)

  -- ---- where it lives, its slot and its last report

  pub row_now : (row : Endpoint) → live_endpoint (endpoint_id taken.endpoint) (state_now options history) ≡ Some row → row ≡ taken.endpoint
  row_now row live =
      let then = lives-then options history (endpoint_id taken.endpoint) row taken.revision within since_added live in
      same_Some row taken.endpoint (sym then ∙ live_then)

  in_slot : Lives (state_now options history) (endpoint_id taken.endpoint)
      → endpoint_in taken.endpoint.slot (state_now options history).endpoints ≡ Some taken.endpoint
  in_slot lives =
      subst (λ (row : Endpoint). endpoint_in row.slot (state_now options history).endpoints ≡ Some row) (row_now lives.row lives.found)
      (slot-found options history lives.row (live-in options history (endpoint_id taken.endpoint) lives.row lives.found))

  pub still_then : (kept : Option KeptReport) (last : Option LastReport) → known kept (endpoint_id taken.endpoint) ≡ last
      → IsLastNow options history (endpoint_id taken.endpoint) last → IsStill options history taken.endpoint.slot kept
  still_then kept last is now row there =
      let same : row ≡ taken.endpoint = same_Some row taken.endpoint (sym there ∙ in_slot now.live) in
      subst (λ (r : Endpoint). last_report (endpoint_id r) history ≡ known kept (endpoint_id r)) (sym same) (now.is ∙ sym is)

  pub overtaken_then : (kept : Option KeptReport) (last : Option LastReport) → known kept (endpoint_id taken.endpoint) ≡ last
      → IsLastNoMore options history (endpoint_id taken.endpoint) last → IsOvertaken options history taken.endpoint.slot kept
  overtaken_then kept last is more = record { row = taken.endpoint; there = in_slot more.live; other = λ same. more.other (same ∙ is) }

  -- ---- it may be reported

  module _ (last : Option ℕ) (next : IsNext options history (endpoint_id taken.endpoint) taken.revision last) (limit count : ℕ)
      (limited : options.map_max ≡ Some limit) (size : count ≡ length (policy_map options (state_now options old) taken.endpoint)) where
    report_may : ReportMayFollow options history (endpoint_id taken.endpoint) taken.revision
    report_may = record { live = next.live; committed = within; since_added = since_added; newer = next.newer; no_older_commits = next.commits }

    pub may_publish : count ≤ limit
        → PublishMayFollow options history (endpoint_id taken.endpoint) taken.revision (table_at options history (endpoint_id taken.endpoint) taken.revision)
    may_publish fits = record {
      report = report_may;
      canonical = map_then ∙ ap (λ (table : List MapEntry). Some table) (sym table_now);
      fits =
          let many : length (table_at options history (endpoint_id taken.endpoint) taken.revision) ≡ count = ap (λ (table : List MapEntry). length table) table_now ∙ sym size in
          subst (λ (o : Option ℕ). IsTrue (fits_limit o (length (table_at options history (endpoint_id taken.endpoint) taken.revision)))) (sym limited)
          (grind (arith, many, fits));
    }

    pub may_block : limit < count → BlockedMayFollow options history (endpoint_id taken.endpoint) taken.revision count
    may_block over = record {
      report = report_may;
      size =
          ap (λ (o : Option Endpoint). option_map (map_size options (state_after options history taken.revision)) o) live_then
          ∙ ap (λ (s : State). Some (map_size options s taken.endpoint)) then_is
          ∙ ap (λ (n : ℕ). Some n) (sym size);
      too_many = subst (λ (o : Option ℕ). IsTrue (not (fits_limit o count))) (sym limited) (grind (arith, over));
    }

  -- ---- the changes lead to its map

  pub leads_here : (last : Option ℕ) (changes : List Change) → IsNext options history (endpoint_id taken.endpoint) taken.revision last
      → IfSome last (λ shown. shown ≤ revision_of old)
      → changed changes (table_then options old (endpoint_id taken.endpoint) last) ≡ table_of (policy_map options (state_now options old) taken.endpoint)
      → Leads changes (table_shown options history taken.endpoint.name) (table_at options history (endpoint_id taken.endpoint) taken.revision)
  leads_here last changes next seen leads table same =
      let held = table_held_is options history (endpoint_id taken.endpoint) next.live.row next.live.found last was.legal next.shown in
      let from : table ≡ table_then options old (endpoint_id taken.endpoint) last =
      table_is table (table_shown options history taken.endpoint.name) held.whole same ∙ held.same
      ∙ then_prefix options old history (endpoint_id taken.endpoint) last was.begins seen in
      ap (λ (t : PolicyMap). finite.entries (changed changes t)) from
      ∙ ap (λ (t : PolicyMap). finite.entries t) leads
      ∙ has_entries options (state_now options old) taken.endpoint
      ∙ sym table_now

  -- ---- it was reported

  pub published_here : (new : List HistoryEvent)
      → new ≡ history ++ event.Publish (endpoint_id taken.endpoint) taken.revision (table_at options history (endpoint_id taken.endpoint) taken.revision) ∷ []
      → WasPublished options (endpoint_id taken.endpoint) taken.revision old new
  published_here new added =
      let table = table_at options history (endpoint_id taken.endpoint) taken.revision in
      let e = event.Publish (endpoint_id taken.endpoint) taken.revision table in
      record {
        table = table;
        place = length history;
        there = ap (λ (h : List HistoryEvent). slice_get h (length history)) added ∙ get_seam history e [];
        past = prefix_length old history was.begins;
        canonical =
            ap (λ (h : List HistoryEvent). map_at options h (endpoint_id taken.endpoint) taken.revision) added
            ∙ map-prefix options history (history ++ e ∷ []) (endpoint_id taken.endpoint) taken.revision (prefix_more history (e ∷ [])) within
            ∙ map_then
            ∙ ap (λ (entries : List MapEntry). Some entries) (sym table_now);
      }

pub blocked_here : (old history new : List HistoryEvent) (endpoint : EndpointId) (revision count : ℕ) → IsPrefix old history
    → new ≡ history ++ event.Blocked endpoint revision count ∷ [] → WasBlocked endpoint revision count old new
blocked_here old history new endpoint revision count begins added = record {
  place = length history;
  there = ap (λ (h : List HistoryEvent). slice_get h (length history)) added ∙ get_seam history (event.Blocked endpoint revision count) [];
  past = prefix_length old history begins;
}

-- ---- nothing was reported

-- the last report is of the revision
pub reported_here : (endpoint : EndpointId) (revision : ℕ) (history : List HistoryEvent) (last : Option LastReport) (published : Bool)
    → last_report endpoint history ≡ last → is_reported revision last ≡ true → TellsPublished published revision (published_before last)
    → WasReportedAs endpoint revision history published
reported_here endpoint revision history None published is of tells = absurd (false≢true of)
reported_here endpoint revision history (Some report) published is of tells = record {
  is = record { report = report; last = is; same = eqb-true report.revision revision of };
  tells = tells;
}
