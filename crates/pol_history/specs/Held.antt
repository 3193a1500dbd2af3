-- What the content of a board tells of its history.
use Rattle.std.specs.Prelude.{◌≡◌, ℕ, ◌≤◌, List, Option, None, Some}
use Rattle.pol_addr.specs.declared.address.Addr.{Addr}
use Rattle.pol_model.specs.Endpoints.{endpoint_of}
use Rattle.pol_model.specs.PolicyMap.{policy_map}
use Rattle.pol_model.specs.declared.options.Options.{Options}
use Rattle.pol_model.specs.declared.row.Endpoint.{Endpoint}
use Rattle.pol_history.specs.declared.event.HistoryEvent.{HistoryEvent}
use Rattle.pol_history.specs.Commits.{revision_of, state_after, state_now}
use Rattle.pol_history.specs.Content.{BoardRow, PublishedMap, numbers_in}
use Rattle.pol_history.specs.Machine.{endpoint_id}
use Rattle.pol_history.specs.Reports.{last_published, last_report}

-- The map is the endpoint's last published one: the canonical map at its revision, with what each address was there.
pub record IsShownMap (options : Options) (history : List HistoryEvent) (endpoint : Endpoint) (map : PublishedMap) : Type 0 where
  pub last : last_published (endpoint_id endpoint) history ≡ Some map.revision
  pub since_added : endpoint.added ≤ map.revision
  pub committed : map.revision ≤ revision_of history
  pub canonical : map.table ≡ policy_map options (state_after options history map.revision) endpoint
  pub numbers : (address : Addr) → map.numbers address ≡ numbers_in (state_after options history map.revision) address

abbrev pub ShowsMap : Options → List HistoryEvent → Endpoint → Option PublishedMap → Type 0
ShowsMap options history endpoint None = last_published (endpoint_id endpoint) history ≡ None
ShowsMap options history endpoint (Some map) = IsShownMap options history endpoint map

-- the row is of the live endpoint of that name
pub record IsShownRow (options : Options) (history : List HistoryEvent) (name : List ℕ) (row : BoardRow) : Type 0 where
  pub endpoint : Endpoint
  pub found : endpoint_of name (state_now options history).endpoints ≡ Some endpoint
  pub added : row.added ≡ endpoint.added
  pub report : row.report ≡ last_report (endpoint_id endpoint) history
  pub map : ShowsMap options history endpoint row.map

-- what is held under a name
abbrev pub ShowsRow : Options → List HistoryEvent → List ℕ → Option BoardRow → Type 0
ShowsRow options history name None = endpoint_of name (state_now options history).endpoints ≡ None
ShowsRow options history name (Some row) = IsShownRow options history name row
