-- The trie of an endpoint is its last published map, and has few keys.
use Rattle.std.proofs.Common.{◌≡◌, ℕ, ◌≤◌, List, length, Option, None, Some, IsTrue, nat_le, option_map, sym, ap, ◌∙◌, subst, arith}
use Rattle.std.specs.FinMap as finite
use Rattle.std.proofs.lemmas.Bool.Decides.{nat_tests}
use Rattle.std.proofs.lemmas.Option.{same_Some}
use Rattle.pol_history_log.specs.Asked.{or_none, table_at}
use Rattle.pol_map_changes.specs.Changes.{table_of}
use Rattle.pol_map_changes.proofs.Differences.{tables_have_their_entries}
use Rattle.pol_model_laws.proofs.Canonical.{canonical_ascends}
use Rattle.pol_slot_map.specs.Followed.{table_then}
use Rattle.pol_history.specs.declared.event.EndpointId.{EndpointId}
use Rattle.pol_history.specs.declared.event.HistoryEvent.{HistoryEvent}
use Rattle.pol_history.specs.Commits.{live_endpoint, revision_of, state_after, state_now}
use Rattle.pol_history.specs.Held.{ShowsMap}
use Rattle.pol_history.specs.Legal.{IsLegal}
use Rattle.pol_history.specs.Machine.{endpoint_id}
use Rattle.pol_history.specs.Reports.{last_published, map_at}
use Rattle.pol_history.proofs.Lives.{lives-then}
use Rattle.pol_history.proofs.Looks.{last_publish}
use Rattle.pol_mapkey.specs.Entries.{Entry as MapEntry}
use Rattle.pol_mapkey.specs.MapKey.{key_cmp}
use Rattle.pol_mapkey.specs.declared.Kind.{Kind}
use Rattle.pol_model.specs.PolicyMap.{map_parts, policy_map, raw_entries}
use Rattle.pol_model.specs.Selects.{set_at}
use Rattle.pol_model.specs.State.{State}
use Rattle.pol_model.specs.declared.options.Options.{Options}
use Rattle.pol_model.specs.declared.row.Endpoint.{Endpoint}
use Rattle.pol_model.specs.FullRows.{fits_limit}
use Rattle.pol_machine.specs.Rows.{map_held, trie_of}
use Rattle.pol_machine.specs.declared.row.MachineMap.{MachineMap}

pub has_entries : (options : Options) (s : State) (endpoint : Endpoint) → finite.entries (table_of (policy_map options s endpoint)) ≡ policy_map options s endpoint
has_entries options s endpoint =
    tables_have_their_entries (policy_map options s endpoint) (canonical_ascends (raw_entries (set_at s.identities) (map_parts options s endpoint)))

pub table_len : (options : Options) (s : State) (endpoint : Endpoint) → finite.len (table_of (policy_map options s endpoint)) ≡ length (policy_map options s endpoint)
table_len options s endpoint =
    finite.len-entries (table_of (policy_map options s endpoint)) ∙ ap (λ (es : List MapEntry). length es) (has_entries options s endpoint)

module _ (options : Options) (history : List HistoryEvent) (row : Endpoint) (live : live_endpoint (endpoint_id row) (state_now options history) ≡ Some row) where
  abbrev id : EndpointId
  id = endpoint_id row

  -- its canonical map at a revision since it was added
  then_map : (revision : ℕ) → row.added ≤ revision → revision ≤ revision_of history
      → map_at options history id revision ≡ Some (policy_map options (state_after options history revision) row)
  then_map revision since committed =
      ap (option_map (policy_map options (state_after options history revision))) (lives-then options history id row revision committed since live)

  pub shown_table : (map : Option MachineMap) (shown : Option ℕ) → last_published id history ≡ shown → ShowsMap options history row (option_map map_held map)
      → trie_of map ≡ table_then options history id shown
  shown_table None shown last shows =
      let none : shown ≡ None = sym last ∙ shows in
      ap (table_then options history id) (sym none)
  shown_table (Some map) shown last shows =
      let some : shown ≡ Some map.revision = sym last ∙ shows.last in
      let s : State = state_after options history map.revision in
      let entries : table_at options history id map.revision ≡ policy_map options s row = ap or_none (then_map map.revision shows.since_added shows.committed) in
      let same : map.trie ≡ table_of (policy_map options s row) =
      finite.same_entries_map map.trie (table_of (policy_map options s row)) (shows.canonical ∙ sym (has_entries options s row)) in
      same ∙ ap table_of (sym entries) ∙ ap (table_then options history id) (sym some)

  -- it has as many keys as the limit says at most
  pub shown_few : (limit : ℕ) → options.map_max ≡ Some limit → IsLegal options history → (map : Option MachineMap)
      → ShowsMap options history row (option_map map_held map) → finite.len (trie_of map) ≤ limit
  shown_few limit limited legal None shows = let none = finite.len-empty key_cmp Kind in omega (arith, none)
  shown_few limit limited legal (Some map) shows =
      let last = last_publish history id map.revision shows.last in
      let table = last.publish.table in
      let is : table ≡ policy_map options (state_after options history map.revision) row =
      same_Some table (policy_map options (state_after options history map.revision) row)
      (sym (legal.table last.place id map.revision table last.publish.there) ∙ then_map map.revision shows.since_added shows.committed) in
      let fits : IsTrue (fits_limit (Some limit) (length table)) =
      subst (λ (o : Option ℕ). IsTrue (fits_limit o (length table))) limited (legal.fits last.place id map.revision table last.publish.there) in
      let many : finite.len map.trie ≡ length table =
      finite.len-entries map.trie ∙ ap (λ (es : List MapEntry). length es) (shows.canonical ∙ sym is) in
      fits_so limit (length table) (finite.len map.trie) many fits
    where
      fits_so : (limit count many : ℕ) → many ≡ count → IsTrue (nat_le count limit) → many ≤ limit
      fits_so limit count many same fits = grind (arith, nat_tests, same, fits)
