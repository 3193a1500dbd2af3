-- What a history makes of the content of a board, one event after another.
use Rattle.std.specs.Prelude.{ℕ, ◌+◌, ◌==◌, if◌then◌else◌, List, [], ◌∷◌, ◌++◌, take, Option, None, Some}
use Rattle.std.specs.Str.{bytes_eq}
use Rattle.pol_addr.specs.declared.address.Addr.{Addr}
use Rattle.pol_mapkey.specs.Entries.{Entry as MapEntry}
use Rattle.pol_model.specs.After.{state_of}
use Rattle.pol_model.specs.Remote.{number_at}
use Rattle.pol_model.specs.State.{State}
use Rattle.pol_model.specs.declared.options.Options.{Options}
use Rattle.pol_model.specs.declared.request.Request.{Request}
use Rattle.pol_model.specs.declared.request.Request.TheVariants.{AddEndpoint, RemoveEndpoint, AddIdentity, RemoveIdentity, Apply, Remove, SetMode}
use Rattle.pol_history.specs.declared.event.EndpointId.{EndpointId}
use Rattle.pol_history.specs.declared.event.HistoryEvent.{HistoryEvent}
use Rattle.pol_history.specs.declared.event.HistoryEvent.TheVariants as event
use Rattle.pol_history.specs.declared.event.LastReport.{LastReport}
use Rattle.pol_history.specs.Commits.{commits_in}
use Rattle.pol_history.specs.Reports.{published_before}

-- a published map: its revision, its entries, and the identity that each address had at the revision
pub record PublishedMap : Type 0 where
  pub revision : ℕ
  pub table : List MapEntry
  pub numbers : Addr → ℕ

-- a live endpoint: the revision that added it, its last report, and its last published map
pub record BoardRow : Type 0 where
  pub added : ℕ
  pub report : Option LastReport
  pub map : Option PublishedMap

pub record Content : Type 0 where
  -- how many commits there were
  pub commits : ℕ
  -- the live endpoints, by name; nothing is held of one that is gone
  pub live : List ℕ → Option BoardRow

abbrev pub no_content : Content
no_content = record { commits = 0; live = λ name. None }

-- ---- commits

-- an endpoint without a report
abbrev pub added_row : ℕ → BoardRow
added_row revision = record { added = revision; report = None; map = None }

-- the live endpoint of one name is now this
abbrev pub with_row : List ℕ → Option BoardRow → (List ℕ → Option BoardRow) → List ℕ → Option BoardRow
with_row name now live = λ other. if bytes_eq name other then now else live other

-- the live endpoints after a request, which is the commit of this number
abbrev pub live_after : ℕ → (List ℕ → Option BoardRow) → Request → List ℕ → Option BoardRow
live_after revision live (AddEndpoint name labels address) = with_row name (Some (added_row revision)) live
live_after revision live (RemoveEndpoint name) = with_row name None live
live_after revision live (AddIdentity name labels) = live
live_after revision live (RemoveIdentity name) = live
live_after revision live (Apply policy) = live
live_after revision live (Remove key) = live
live_after revision live (SetMode mode) = live

-- ---- reports

-- the row, where it is of the endpoint that was added at this revision, after a change of it
abbrev pub if_of : ℕ → (BoardRow → BoardRow) → Option BoardRow → Option BoardRow
if_of added change None = None
if_of added change (Some row) = if row.added == added then Some (change row) else Some row

-- the live endpoints after a change of this one's row
abbrev pub with_change : EndpointId → (BoardRow → BoardRow) → (List ℕ → Option BoardRow) → List ℕ → Option BoardRow
with_change endpoint change live = λ name. if bytes_eq endpoint.name name then if_of endpoint.added change (live name) else live name

-- the identity that each address has in the state
abbrev pub numbers_in : State → Addr → ℕ
numbers_in s address = number_at address s.endpoints s.identities

-- a map was published, after these commits
abbrev pub row_published : Options → List Request → ℕ → List MapEntry → ℕ → BoardRow → BoardRow
row_published options requests revision table commits row = record {
  added = row.added;
  report = Some (record { revision = revision; commits = commits; published = Some revision });
  map = Some (record { revision = revision; table = table; numbers = numbers_in (state_of options (take revision requests)) });
}

-- a map was reported as too large
abbrev pub row_blocked : ℕ → ℕ → BoardRow → BoardRow
row_blocked revision commits row = record {
  added = row.added;
  report = Some (record { revision = revision; commits = commits; published = published_before row.report });
  map = row.map;
}

-- ---- events

-- the content after an event, which these commits stand before
abbrev pub content_after : Options → List Request → Content → HistoryEvent → Content
content_after options requests content (event.Commit pass number request) =
    record { commits = content.commits + 1; live = live_after (content.commits + 1) content.live request }
content_after options requests content (event.Publish endpoint revision table) = record {
  commits = content.commits;
  live = with_change endpoint (row_published options requests revision table content.commits) content.live;
}
content_after options requests content (event.Blocked endpoint revision count) =
    record { commits = content.commits; live = with_change endpoint (row_blocked revision content.commits) content.live }

abbrev pub content_from : Options → List Request → Content → List HistoryEvent → Content
content_from options requests content [] = content
content_from options requests content (next ∷ later) =
    content_from options (requests ++ commits_in (next ∷ [])) (content_after options requests content next) later

-- what the history makes of it
abbrev pub content_of : Options → List HistoryEvent → Content
content_of options history = content_from options [] no_content history
