-- Which event may come next in a history: what a step that adds it owes.
use Rattle.std.specs.Prelude.{⊤, ◌≡◌, ℕ, ◌<◌, ◌≤◌, not, List, [], ◌∷◌, ◌++◌, length, IsTrue, IfSome, None, Some}
use Rattle.pol_mapkey.specs.Entries.{Entry as MapEntry}
use Rattle.pol_model.specs.Fault.{fault_of}
use Rattle.pol_model.specs.declared.options.Options.{Options}
use Rattle.pol_model.specs.declared.request.Request.{Request}
use Rattle.pol_model.specs.FullRows.{fits_limit}
use Rattle.pol_history.specs.declared.event.EndpointId.{EndpointId}
use Rattle.pol_history.specs.declared.event.HistoryEvent.{HistoryEvent}
use Rattle.pol_history.specs.declared.event.HistoryEvent.TheVariants as event
use Rattle.pol_history.specs.Commits.{Lives, commits_by, revision_of, state_now}
use Rattle.pol_history.specs.Reports.{last_report, map_at, size_at}

-- the request has no fault now, and it is the pass's next commit
pub record CommitMayFollow (options : Options) (history : List HistoryEvent) (pass number : ℕ) (request : Request) : Type 0 where
  pub no_fault : fault_of (state_now options history) request ≡ None
  pub next : number ≡ length (commits_by pass history)

-- The endpoint is live now, and the revision is one since it was added; it is later than that of the endpoint's last
-- report, and has all commits that stand before that report.
pub record ReportMayFollow (options : Options) (history : List HistoryEvent) (endpoint : EndpointId) (revision : ℕ) : Type 0 where
  pub live : Lives (state_now options history) endpoint
  pub committed : revision ≤ revision_of history
  pub since_added : endpoint.added ≤ revision
  pub newer : IfSome (last_report endpoint history) (λ last. last.revision < revision)
  pub no_older_commits : IfSome (last_report endpoint history) (λ last. last.commits ≤ revision)

-- the report may come, the table is the canonical map at its revision, and the map fits the limit
pub record PublishMayFollow (options : Options) (history : List HistoryEvent) (endpoint : EndpointId) (revision : ℕ) (table : List MapEntry) : Type 0 where
  pub report : ReportMayFollow options history endpoint revision
  pub canonical : map_at options history endpoint revision ≡ Some table
  pub fits : IsTrue (fits_limit options.map_max (length table))

-- the report may come, the count is the size of the map at its revision, and it is above the limit
pub record BlockedMayFollow (options : Options) (history : List HistoryEvent) (endpoint : EndpointId) (revision count : ℕ) : Type 0 where
  pub report : ReportMayFollow options history endpoint revision
  pub size : size_at options history endpoint revision ≡ Some count
  pub too_many : IsTrue (not (fits_limit options.map_max count))

-- the event may follow the history
abbrev pub MayFollow : Options → List HistoryEvent → HistoryEvent → Type 0
MayFollow options history (event.Commit pass number request) = CommitMayFollow options history pass number request
MayFollow options history (event.Publish endpoint revision table) = PublishMayFollow options history endpoint revision table
MayFollow options history (event.Blocked endpoint revision count) = BlockedMayFollow options history endpoint revision count

-- each of the later events may follow those before it
abbrev pub FollowOn : Options → List HistoryEvent → List HistoryEvent → Type 0
FollowOn options history [] = ⊤
FollowOn options history (next ∷ later) = MayFollow options history next × FollowOn options (history ++ next ∷ []) later

-- each event of the history may follow those before it
abbrev pub EachMayFollow : Options → List HistoryEvent → Type 0
EachMayFollow options history = FollowOn options [] history
