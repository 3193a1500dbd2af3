-- Which histories are legal, by the index of their events.
use Rattle.std.specs.Prelude.{◌≡◌, ℕ, ◌<◌, ◌≤◌, not, List, length, take, slice_get, IsTrue, None, Some}
use Rattle.pol_mapkey.specs.Entries.{Entry as MapEntry}
use Rattle.pol_model.specs.Fault.{fault_of}
use Rattle.pol_model.specs.declared.options.Options.{Options}
use Rattle.pol_model.specs.declared.request.Request.{Request}
use Rattle.pol_model.specs.FullRows.{fits_limit}
use Rattle.pol_history.specs.declared.event.EndpointId.{EndpointId}
use Rattle.pol_history.specs.declared.event.HistoryEvent.{HistoryEvent}
use Rattle.pol_history.specs.declared.event.HistoryEvent.TheVariants as event
use Rattle.pol_history.specs.Commits.{Lives, commits_by, revision_of, state_now}
use Rattle.pol_history.specs.Reports.{IsLastReport, IsReport, map_at, size_at}

-- A legal history. Its events are counted from 0, so the first i events are those before event i.
pub record IsLegal (options : Options) (history : List HistoryEvent) : Type 0 where
  -- each request has no fault in the state of the commits before it
  pub no_fault : (i pass number : ℕ) (request : Request) → slice_get history i ≡ Some (event.Commit pass number request)
      → fault_of (state_now options (take i history)) request ≡ None
  -- the commits of each pass have the numbers 0, 1, 2 and so on
  pub numbered : (i pass number : ℕ) (request : Request) → slice_get history i ≡ Some (event.Commit pass number request)
      → number ≡ length (commits_by pass (take i history))
  -- the endpoint of a report is live in the state of the commits before it
  pub live : (i : ℕ) (endpoint : EndpointId) (revision : ℕ) → IsReport history i endpoint revision
      → Lives (state_now options (take i history)) endpoint
  -- its revision is at most the number of commits before it, and at least the one that added the endpoint
  pub committed : (i : ℕ) (endpoint : EndpointId) (revision : ℕ) → IsReport history i endpoint revision
      → revision ≤ revision_of (take i history)
  pub since_added : (i : ℕ) (endpoint : EndpointId) (revision : ℕ) → IsReport history i endpoint revision
      → endpoint.added ≤ revision
  -- it is greater than that of the endpoint's previous report, and at least the number of commits before that report
  pub newer : (i j : ℕ) (endpoint : EndpointId) (revision previous : ℕ) → IsReport history i endpoint revision
      → IsLastReport history i j endpoint previous → previous < revision
  pub no_older_commits : (i j : ℕ) (endpoint : EndpointId) (revision previous : ℕ) → IsReport history i endpoint revision
      → IsLastReport history i j endpoint previous → revision_of (take j history) ≤ revision
  -- a published table is the endpoint's canonical map at the revision, and has at most as many entries as the limit says
  pub table : (i : ℕ) (endpoint : EndpointId) (revision : ℕ) (table : List MapEntry)
      → slice_get history i ≡ Some (event.Publish endpoint revision table) → map_at options history endpoint revision ≡ Some table
  pub fits : (i : ℕ) (endpoint : EndpointId) (revision : ℕ) (table : List MapEntry)
      → slice_get history i ≡ Some (event.Publish endpoint revision table) → IsTrue (fits_limit options.map_max (length table))
  -- the count of a map that was blocked is its size at the revision, and is above the limit
  pub count : (i : ℕ) (endpoint : EndpointId) (revision count : ℕ)
      → slice_get history i ≡ Some (event.Blocked endpoint revision count) → size_at options history endpoint revision ≡ Some count
  pub too_many : (i : ℕ) (endpoint : EndpointId) (revision count : ℕ)
      → slice_get history i ≡ Some (event.Blocked endpoint revision count) → IsTrue (not (fits_limit options.map_max count))
