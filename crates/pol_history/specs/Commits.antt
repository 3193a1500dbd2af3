-- The commits of a history, whose events stand in the order in which they happened, and the states that they make.
use Rattle.std.specs.Prelude.{◌≡◌, ℕ, ◌==◌, ◌&&◌, Bool, if◌then◌else◌, List, length, take, Option, None, Some}
use Rattle.std.specs.List.{filter_map}
use Rattle.std.specs.Str.{bytes_eq}
use Rattle.pol_model.specs.State.{State}
use Rattle.pol_model.specs.After.{state_of}
use Rattle.pol_model.specs.Endpoints.{endpoint_of}
use Rattle.pol_model.specs.declared.options.Options.{Options}
use Rattle.pol_model.specs.declared.request.Request.{Request}
use Rattle.pol_model.specs.declared.row.Endpoint.{Endpoint}
use Rattle.pol_history.specs.declared.event.EndpointId.{EndpointId}
use Rattle.pol_history.specs.declared.event.HistoryEvent.{HistoryEvent}
use Rattle.pol_history.specs.declared.event.HistoryEvent.TheVariants as event

-- the request that an event commits
abbrev pub request_in : HistoryEvent → Option Request
request_in (event.Commit pass number request) = Some request
request_in (event.Publish endpoint revision table) = None
request_in (event.Blocked endpoint revision count) = None

-- the requests of the commits
abbrev pub commits_in : List HistoryEvent → List Request
commits_in history = filter_map request_in history

-- the revision of a history: how many commits it has
abbrev pub revision_of : List HistoryEvent → ℕ
revision_of history = length (commits_in history)

-- the request that an event commits by the pass
abbrev pub request_by : ℕ → HistoryEvent → Option Request
request_by pass (event.Commit other number request) = if other == pass then Some request else None
request_by pass (event.Publish endpoint revision table) = None
request_by pass (event.Blocked endpoint revision count) = None

-- the requests of the commits that the pass made
abbrev pub commits_by : ℕ → List HistoryEvent → List Request
commits_by pass history = filter_map (request_by pass) history

-- the state after all commits
abbrev pub state_now : Options → List HistoryEvent → State
state_now options history = state_of options (commits_in history)

-- the state at a revision: after so many of the commits
abbrev pub state_after : Options → List HistoryEvent → ℕ → State
state_after options history revision = state_of options (take revision (commits_in history))

-- whether both are one endpoint
abbrev pub same_endpoint : EndpointId → EndpointId → Bool
same_endpoint a b = bytes_eq a.name b.name && (a.added == b.added)

-- the row, where it was added at that revision
abbrev pub if_added : ℕ → Option Endpoint → Option Endpoint
if_added added None = None
if_added added (Some row) = if row.added == added then Some row else None

-- The row of an endpoint in a state, where it is live there: the live endpoint of its name is one that was added at
-- its revision.
abbrev pub live_endpoint : EndpointId → State → Option Endpoint
live_endpoint endpoint s = if_added endpoint.added (endpoint_of endpoint.name s.endpoints)

-- the endpoint is live in the state
pub record Lives (s : State) (endpoint : EndpointId) : Type 0 where
  pub row : Endpoint
  pub found : live_endpoint endpoint s ≡ Some row
