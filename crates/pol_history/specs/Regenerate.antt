-- What a slot's regeneration may answer, where `old` is what the slot's pass had seen before the call, and `new` is what
-- it has seen after it.
use Rattle.std.specs.Prelude.{◌≡◌, ℕ, ◌≤◌, ◌⊎◌, List, length, slice_get, None, Some}
use Rattle.pol_mapkey.specs.Entries.{Entry as MapEntry}
use Rattle.pol_model.specs.declared.options.Options.{Options}
use Rattle.pol_model.specs.declared.row.Endpoint.{Endpoint}
use Rattle.pol_history.specs.declared.event.EndpointId.{EndpointId}
use Rattle.pol_history.specs.declared.event.HistoryEvent.{HistoryEvent}
use Rattle.pol_history.specs.declared.event.HistoryEvent.TheVariants as event
use Rattle.pol_history.specs.declared.event.LastReport.{LastReport}
use Rattle.pol_history.specs.Calls.{IsBetween}
use Rattle.pol_history.specs.Commits.{Lives, live_endpoint, state_after, state_now}
use Rattle.pol_history.specs.Machine.{endpoint_id, endpoint_in}
use Rattle.pol_history.specs.Reports.{last_report, map_at}

-- The endpoint was taken in the slot: it is live there at the revision, which is at least the number of commits of `old`
-- and was committed.
pub record WasTaken (options : Options) (slot : ℕ) (old new : List HistoryEvent) (endpoint : EndpointId) (revision : ℕ) : Type 0 where
  pub between : IsBetween old new revision
  pub row : Endpoint
  pub live : live_endpoint endpoint (state_after options new revision) ≡ Some row
  pub in_slot : row.slot ≡ slot

-- the canonical map at the taken revision was published in the call
pub record IsPublished (options : Options) (slot : ℕ) (old new : List HistoryEvent) (revision : ℕ) : Type 0 where
  pub endpoint : EndpointId
  pub taken : WasTaken options slot old new endpoint revision
  pub table : List MapEntry
  pub place : ℕ
  pub there : slice_get new place ≡ Some (event.Publish endpoint revision table)
  pub past : length old ≤ place
  pub canonical : map_at options new endpoint revision ≡ Some table

-- the map at the taken revision was reported as too large in the call
pub record IsFull (options : Options) (slot : ℕ) (old new : List HistoryEvent) (revision count : ℕ) : Type 0 where
  pub endpoint : EndpointId
  pub taken : WasTaken options slot old new endpoint revision
  pub place : ℕ
  pub there : slice_get new place ≡ Some (event.Blocked endpoint revision count)
  pub past : length old ≤ place

-- the taken revision is that of the endpoint's last report
pub record IsAlready (options : Options) (slot : ℕ) (old new : List HistoryEvent) (revision : ℕ) : Type 0 where
  pub endpoint : EndpointId
  pub taken : WasTaken options slot old new endpoint revision
  pub report : LastReport
  pub last : last_report endpoint new ≡ Some report
  pub same : report.revision ≡ revision

-- the endpoint of the slot at a revision is no longer live
pub record HasGone (options : Options) (slot : ℕ) (new : List HistoryEvent) (revision : ℕ) : Type 0 where
  pub row : Endpoint
  pub was : endpoint_in slot (state_after options new revision).endpoints ≡ Some row
  pub gone : Lives (state_now options new) (endpoint_id row) → ⊥

-- At some revision from the number of commits of `old` to that of `new` the slot has no live endpoint, or has one that is
-- no longer live.
pub record IsGone (options : Options) (slot : ℕ) (old new : List HistoryEvent) : Type 0 where
  pub revision : ℕ
  pub between : IsBetween old new revision
  pub gone : (endpoint_in slot (state_after options new revision).endpoints ≡ None) ⊎ HasGone options slot new revision
