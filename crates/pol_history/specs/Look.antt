-- What a look-up finds in a history.
use Rattle.std.specs.Prelude.{◌≡◌, ℕ, ◌≤◌, List, Option, None, Some}
use Rattle.pol_mapkey.specs.declared.Word.{Word}
use Rattle.pol_model.specs.Endpoints.{endpoint_of}
use Rattle.pol_model.specs.Remote.{verdict_for}
use Rattle.pol_model.specs.declared.options.Options.{Options}
use Rattle.pol_model.specs.declared.request.Query.{Query}
use Rattle.pol_model.specs.declared.row.Endpoint.{Endpoint}
use Rattle.pol_history.specs.declared.event.HistoryEvent.{HistoryEvent}
use Rattle.pol_history.specs.Commits.{revision_of, state_after, state_now}
use Rattle.pol_history.specs.Reports.{last_published}

pub data Looked : Type 0 where
  -- no endpoint of that name is live at this revision
  NoEndpoint : ℕ → Looked
  -- it is live at this revision, and no map of it was published
  NotYet : ℕ → Looked
  -- the verdict of the last published map, which is of this revision
  Found : ℕ → Word → Looked

-- what is found of a live endpoint, where its last published map is of this revision
abbrev pub look_published : Options → List HistoryEvent → Query → Endpoint → Option ℕ → Looked
look_published options history query row None = NotYet (revision_of history)
look_published options history query row (Some revision) =
    Found revision (verdict_for options (state_after options history revision) query row)

-- what is found, where this is the live endpoint of the query's name
abbrev pub look_live : Options → List HistoryEvent → Query → Option Endpoint → Looked
look_live options history query None = NoEndpoint (revision_of history)
look_live options history query (Some row) =
    look_published options history query row (last_published (record { name = query.endpoint; added = row.added }) history)

-- What a look-up finds: the verdict of the endpoint's last published map, by a scan of all rules at the map's revision;
-- an address stands there for what it was at that revision.
abbrev pub look : Options → List HistoryEvent → Query → Looked
look options history query = look_live options history query (endpoint_of query.endpoint (state_now options history).endpoints)

-- a look-up finds a map of the revision or a later one
pub record FindsSince (options : Options) (history : List HistoryEvent) (query : Query) (revision : ℕ) : Type 0 where
  pub newer : ℕ
  pub word : Word
  pub found : look options history query ≡ Found newer word
  pub no_older : revision ≤ newer
