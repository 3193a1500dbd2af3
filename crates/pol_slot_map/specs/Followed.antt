-- What is kept of an endpoint that is followed, where this is the history.
use Rattle.std.specs.Prelude.{◌≡◌, ℕ, ◌≤◌, List, Option, None, Some, IfSome}
use Rattle.std.specs.FinMap as finite
use Rattle.pol_history_log.specs.Asked.{id_of, table_at}
use Rattle.pol_kept_map.specs.Work.{AllListed, map_of}
use Rattle.pol_distill.specs.Distilled.{filters_at}
use Rattle.pol_map_changes.specs.Changes.{table_of}
use Rattle.pol_history.specs.declared.event.EndpointId.{EndpointId}
use Rattle.pol_history.specs.declared.event.HistoryEvent.{HistoryEvent}
use Rattle.pol_history.specs.Commits.{live_endpoint, revision_of, state_after}
use Rattle.pol_history.specs.Reports.{map_at}
use Rattle.pol_model.specs.declared.options.Options.{Options}
use Rattle.pol_model.specs.declared.row.Endpoint.{Endpoint}
use Rattle.pol_model.specs.Selects.{set_at}
use Rattle.pol_sets.specs.Sets.{set_given}
use Rattle.pol_trie.specs.PolicyMap.{PolicyMap}
use Rattle.pol_slot_map.specs.declared.follow.Followed.{Followed}
use Rattle.pol_slot_map.specs.Follow.{KeepsFew, LeadsFrom, base_of}

-- the endpoint that is followed
abbrev pub id_in : Followed → EndpointId
id_in f = id_of f.name f.added

-- the endpoint's map at the revision that was shown, the empty one where none was
abbrev pub table_then : Options → List HistoryEvent → EndpointId → Option ℕ → PolicyMap
table_then options history endpoint None = finite.empty
table_then options history endpoint (Some revision) = table_of (table_at options history endpoint revision)

-- The map that was made last is the endpoint's canonical map at a revision of the history, made of what the state there
-- gives it. The changes lead to it from the map that was published last, and where all are joined there are few.
pub record Follows (options : Options) (history : List HistoryEvent) (f : Followed) : Type 0 where
  pub within : f.kept ≤ revision_of history
  pub shown_within : IfSome f.shown (λ revision. revision ≤ revision_of history)
  pub row : Endpoint
  pub live : live_endpoint (id_in f) (state_after options history f.kept) ≡ Some row
  pub filters : f.work.filters ≡ filters_at options (state_after options history f.kept) row
  pub sets : AllListed (λ p. set_given f.work.rows p ≡ set_at (state_after options history f.kept).identities p) f.work.filters
  pub canonical : map_at options history (id_in f) f.kept ≡ Some (map_of f.work)
  pub leads : LeadsFrom (table_then options history (id_in f) f.shown) f
  pub base : table_of (base_of f) ≡ table_then options history (id_in f) f.shown
  pub few : KeepsFew f
