-- Reports of an endpoint: that its map was published, or that it is too large to be.
use Rattle.std.specs.Prelude.{◌≡◌, ℕ, ◌+◌, ◌<◌, if◌then◌else◌, List, [], ◌∷◌, slice_get, Option, None, Some, option_map}
use Rattle.pol_mapkey.specs.Entries.{Entry as MapEntry}
use Rattle.pol_model.specs.PolicyMap.{policy_map, map_size}
use Rattle.pol_model.specs.declared.options.Options.{Options}
use Rattle.pol_history.specs.declared.event.EndpointId.{EndpointId}
use Rattle.pol_history.specs.declared.event.HistoryEvent.{HistoryEvent}
use Rattle.pol_history.specs.declared.event.HistoryEvent.TheVariants as event
use Rattle.pol_history.specs.declared.event.LastReport.{LastReport}
use Rattle.pol_history.specs.Commits.{live_endpoint, revision_of, same_endpoint, state_after}

-- ---- by the index of events

-- the event is a report of the endpoint at that revision
abbrev pub Reports : HistoryEvent → EndpointId → ℕ → Type 0
Reports (event.Commit pass number request) endpoint revision = ⊥
Reports (event.Publish other at_revision table) endpoint revision = (other ≡ endpoint) × (at_revision ≡ revision)
Reports (event.Blocked other at_revision count) endpoint revision = (other ≡ endpoint) × (at_revision ≡ revision)

-- event i of the history is a report of the endpoint at that revision
pub record IsReport (history : List HistoryEvent) (i : ℕ) (endpoint : EndpointId) (revision : ℕ) : Type 0 where
  pub event : HistoryEvent
  pub there : slice_get history i ≡ Some event
  pub reports : Reports event endpoint revision

-- event i of the history is the last report of the endpoint among the first n events
pub record IsLastReport (history : List HistoryEvent) (n i : ℕ) (endpoint : EndpointId) (revision : ℕ) : Type 0 where
  pub report : IsReport history i endpoint revision
  pub among : i < n
  pub none_after : (later other : ℕ) → i < later → later < n → IsReport history later endpoint other → ⊥

-- event i of the history publishes a map of the endpoint at that revision
pub record IsPublish (history : List HistoryEvent) (i : ℕ) (endpoint : EndpointId) (revision : ℕ) : Type 0 where
  pub table : List MapEntry
  pub there : slice_get history i ≡ Some (event.Publish endpoint revision table)

-- the endpoint's last published map is of that revision
pub record IsLastPublish (history : List HistoryEvent) (endpoint : EndpointId) (revision : ℕ) : Type 0 where
  pub place : ℕ
  pub publish : IsPublish history place endpoint revision
  pub none_after : (later other : ℕ) → place < later → IsPublish history later endpoint other → ⊥

-- ---- by a fold

-- the revision of the last published map, where a report was made before
abbrev pub published_before : Option LastReport → Option ℕ
published_before None = None
published_before (Some report) = report.published

-- the last report of the endpoint after an event, which so many commits stand before
abbrev pub report_after : EndpointId → ℕ → Option LastReport → HistoryEvent → Option LastReport
report_after endpoint commits last (event.Commit pass number request) = last
report_after endpoint commits last (event.Publish other revision table) =
    if same_endpoint other endpoint
    then Some (record { revision = revision; commits = commits; published = Some revision })
    else last
report_after endpoint commits last (event.Blocked other revision count) =
    if same_endpoint other endpoint
    then Some (record { revision = revision; commits = commits; published = published_before last })
    else last

-- the same after events
abbrev pub report_after_all : EndpointId → ℕ → Option LastReport → List HistoryEvent → Option LastReport
report_after_all endpoint commits last [] = last
report_after_all endpoint commits last (first ∷ later) =
    report_after_all endpoint (commits + revision_of (first ∷ [])) (report_after endpoint commits last first) later

-- the last report of the endpoint
abbrev pub last_report : EndpointId → List HistoryEvent → Option LastReport
last_report endpoint history = report_after_all endpoint 0 None history

-- the revision of the endpoint's last published map
abbrev pub last_published : EndpointId → List HistoryEvent → Option ℕ
last_published endpoint history = published_before (last_report endpoint history)

-- ---- what is reported

-- the canonical map of the endpoint at a revision, where it is live there
abbrev pub map_at : Options → List HistoryEvent → EndpointId → ℕ → Option (List MapEntry)
map_at options history endpoint revision =
    option_map (policy_map options (state_after options history revision)) (live_endpoint endpoint (state_after options history revision))

-- the size of that map
abbrev pub size_at : Options → List HistoryEvent → EndpointId → ℕ → Option ℕ
size_at options history endpoint revision =
    option_map (map_size options (state_after options history revision)) (live_endpoint endpoint (state_after options history revision))
