-- What a call with a pass may answer, where `old` is what the pass had seen before the call, and `new` is what it has
-- seen after it.
use Rattle.std.specs.Prelude.{◌≡◌, ℕ, ◌+◌, ◌<◌, ◌≤◌, ◌⊎◌, List, length, take, slice_get, None, Some}
use Rattle.std.specs.List.{AllByRecursion, Contains}
use Rattle.pol_mapkey.specs.Entries.{Entry as MapEntry}
use Rattle.pol_model.specs.Committed.{identity_given, slots_of}
use Rattle.pol_model.specs.Endpoints.{endpoint_of}
use Rattle.pol_model.specs.Explain.{explain_of}
use Rattle.pol_model.specs.Fault.{fault_of}
use Rattle.pol_model.specs.declared.answer.Committed.{Committed}
use Rattle.pol_model.specs.declared.answer.FullSlot.{FullSlot}
use Rattle.pol_model.specs.declared.answer.Refused.{Refused}
use Rattle.pol_model.specs.declared.answer.Trace.{Trace}
use Rattle.pol_model.specs.declared.options.Options.{Options}
use Rattle.pol_model.specs.declared.request.Query.{Query}
use Rattle.pol_model.specs.declared.request.Request.{Request}
use Rattle.pol_model.specs.FullRows.{FullRowsAscend}
use Rattle.pol_history.specs.declared.event.EndpointId.{EndpointId}
use Rattle.pol_history.specs.declared.event.HistoryEvent.{HistoryEvent}
use Rattle.pol_history.specs.declared.event.HistoryEvent.TheVariants as event
use Rattle.pol_history.specs.Commits.{Lives, revision_of, state_after, state_now}
use Rattle.pol_history.specs.Reports.{IsLastReport}

-- the revision lies from the number of commits of `old` to that of `new`
pub record IsBetween (old new : List HistoryEvent) (revision : ℕ) : Type 0 where
  pub from : revision_of old ≤ revision
  pub upto : revision ≤ revision_of new

-- ---- commits

-- The request was committed: its commit by the pass stands in `new` past `old`. The revision is its place among the
-- commits, counted from 1, and the identity and the slots are those of the state there.
pub record IsAccepted (options : Options) (pass : ℕ) (old new : List HistoryEvent) (request : Request) (done : Committed) : Type 0 where
  pub place : ℕ
  pub number : ℕ
  pub there : slice_get new place ≡ Some (event.Commit pass number request)
  pub past : length old ≤ place
  pub revision : done.revision ≡ revision_of (take place new) + 1
  pub identity : done.identity ≡ identity_given (state_after options new done.revision) request
  pub slots : done.slots ≡ slots_of (state_after options new done.revision).endpoints

-- the request was refused: it has this fault at the revision
pub record IsRefused (options : Options) (old new : List HistoryEvent) (request : Request) (refused : Refused) : Type 0 where
  pub between : IsBetween old new refused.revision
  pub fault : fault_of (state_after options new refused.revision) request ≡ Some refused.fault

-- ---- traces

-- the trace is the explanation at the revision
pub record IsTraced (options : Options) (old new : List HistoryEvent) (query : Query) (revision : ℕ) (trace : Trace) : Type 0 where
  pub between : IsBetween old new revision
  pub explains : explain_of options (state_after options new revision) query ≡ Some trace

-- no endpoint of that name is live at the revision
pub record IsAbsent (options : Options) (old new : List HistoryEvent) (query : Query) (revision : ℕ) : Type 0 where
  pub between : IsBetween old new revision
  pub absent : endpoint_of query.endpoint (state_after options new revision).endpoints ≡ None

-- ---- syncs

-- A report counts for a `sync` at a revision: it is of that revision or a later one, and it is its endpoint's last report
-- in some prefix of `new` that begins with `old`.
pub record Counts (old new : List HistoryEvent) (synced place : ℕ) (endpoint : EndpointId) (revision : ℕ) : Type 0 where
  pub newer : synced ≤ revision
  pub prefix : ℕ
  pub begins : length old ≤ prefix
  pub within : prefix ≤ length new
  pub last : IsLastReport new prefix place endpoint revision

-- the row is a map of the endpoint that was blocked, and counts
pub record IsRowOf (old new : List HistoryEvent) (synced : ℕ) (endpoint : EndpointId) (row : FullSlot) : Type 0 where
  pub name : endpoint.name ≡ row.name
  pub place : ℕ
  pub there : slice_get new place ≡ Some (event.Blocked endpoint row.revision row.count)
  pub counts : Counts old new synced place endpoint row.revision

pub record IsRow (old new : List HistoryEvent) (synced : ℕ) (row : FullSlot) : Type 0 where
  pub endpoint : EndpointId
  pub is : IsRowOf old new synced endpoint row

-- the endpoint has a row
pub record HasRow (old new : List HistoryEvent) (synced : ℕ) (full : List FullSlot) (endpoint : EndpointId) : Type 0 where
  pub row : FullSlot
  pub listed : Contains full row
  pub is : IsRowOf old new synced endpoint row

-- a map of the endpoint was published, and counts
pub record HasPublish (old new : List HistoryEvent) (synced : ℕ) (endpoint : EndpointId) : Type 0 where
  pub revision : ℕ
  pub table : List MapEntry
  pub place : ℕ
  pub there : slice_get new place ≡ Some (event.Publish endpoint revision table)
  pub counts : Counts old new synced place endpoint revision

-- What a `sync` tells: a revision, and rows that count, sorted and no two of one endpoint; and every endpoint that is
-- live at the revision and still live has a row, or a published map that counts.
pub record IsSynced (options : Options) (old new : List HistoryEvent) (revision : ℕ) (full : List FullSlot) : Type 0 where
  pub between : IsBetween old new revision
  pub rows : AllByRecursion (IsRow old new revision) full
  pub distinct : (a b : ℕ) (first second : FullSlot) (endpoint : EndpointId) → a < b
      → slice_get full a ≡ Some first → slice_get full b ≡ Some second
      → IsRowOf old new revision endpoint first → IsRowOf old new revision endpoint second → ⊥
  pub sorted : FullRowsAscend full
  pub complete : (endpoint : EndpointId) → Lives (state_after options new revision) endpoint → Lives (state_now options new) endpoint
      → HasRow old new revision full endpoint ⊎ HasPublish old new revision endpoint
