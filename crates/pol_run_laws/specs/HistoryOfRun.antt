-- What the history of a run holds of the answers that were written.
use Rattle.std.specs.Prelude.{◌≡◌, ℕ, ◌+◌, ◌≤◌, List, take, slice_get, Option, Some, Ok}
use Rattle.std.specs.List.{Contains}
use Rattle.pol_mapkey.specs.Entries.{Entry as MapEntry}
use Rattle.pol_mapkey.specs.declared.Word.{Word}
use Rattle.pol_model.specs.declared.answer.FullSlot.{FullSlot}
use Rattle.pol_model.specs.declared.options.Options.{Options}
use Rattle.pol_model.specs.declared.request.Query.{Query}
use Rattle.pol_model.specs.declared.request.Request.{Request}
use Rattle.pol_answer.specs.declared.answer.Answer.TheVariants as answer
use Rattle.pol_script.specs.declared.command.Command.TheVariants as command
use Rattle.pol_run.specs.ByIndex.{IsLine}
use Rattle.pol_run.specs.History.{history_of}
use Rattle.pol_run.specs.Spots.{Line, spots_of}
use Rattle.pol_history.specs.declared.event.EndpointId.{EndpointId}
use Rattle.pol_history.specs.declared.event.HistoryEvent.{HistoryEvent}
use Rattle.pol_history.specs.declared.event.HistoryEvent.TheVariants as event
use Rattle.pol_history.specs.Commits.{Lives, commits_in, revision_of, state_after, state_now}
use Rattle.pol_history.specs.Reports.{IsReport}

-- the k-th commit of the history, counted from 1, is of the pass
pub record IsCommitOf (history : List HistoryEvent) (pass k : ℕ) : Type 0 where
  pub place : ℕ
  pub number : ℕ
  pub request : Request
  pub there : slice_get history place ≡ Some (event.Commit pass number request)
  pub kth : k ≡ revision_of (take place history) + 1

-- a map of the endpoint at the revision was published
pub record HasPublished (history : List HistoryEvent) (endpoint : EndpointId) (revision : ℕ) : Type 0 where
  pub place : ℕ
  pub table : List MapEntry
  pub there : slice_get history place ≡ Some (event.Publish endpoint revision table)

-- a map of that size at the revision, of an endpoint of that name, was reported as too large
pub record HasBlocked (history : List HistoryEvent) (row : FullSlot) : Type 0 where
  pub place : ℕ
  pub endpoint : EndpointId
  pub there : slice_get history place ≡ Some (event.Blocked endpoint row.revision row.count)
  pub name : endpoint.name ≡ row.name

-- a report of the endpoint is of the revision or a later one
pub record HasReport (history : List HistoryEvent) (endpoint : EndpointId) (revision : ℕ) : Type 0 where
  pub place : ℕ
  pub of : ℕ
  pub report : IsReport history place endpoint of
  pub newer : revision ≤ of

-- What the history holds: the run's commits, each session's by a pass of its own; the published map of each verdict line,
-- the report of each row, and for each `synced` line a report of each endpoint that lived on.
pub record IsHistoryOf (options : Options) (history : List HistoryEvent) (lines : List Line) : Type 0 where
  pub commits : commits_in history ≡ history_of (spots_of lines)
  -- the pass of each session
  pub pass_of : ℕ → ℕ
  pub one_pass : (i session : ℕ) (request : Request) (k : ℕ) (identity : Option ℕ)
      → IsLine lines i (Ok (command.Commit session request)) (answer.Committed k identity) → IsCommitOf history (pass_of session) k
  pub apart : (i j session other : ℕ) (request later : Request) (k n : ℕ) (identity number : Option ℕ)
      → IsLine lines i (Ok (command.Commit session request)) (answer.Committed k identity)
      → IsLine lines j (Ok (command.Commit other later)) (answer.Committed n number)
      → pass_of session ≡ pass_of other → session ≡ other
  -- a verdict line at R is for the endpoint of its name that is live after R commits
  pub verdicts : (i session : ℕ) (query : Query) (revision : ℕ) (word : Word) (endpoint : EndpointId)
      → IsLine lines i (Ok (command.Look session query)) (answer.Verdict revision word)
      → endpoint.name ≡ query.endpoint → Lives (state_after options history revision) endpoint → HasPublished history endpoint revision
  pub rows : (i session revision : ℕ) (full : List FullSlot) (row : FullSlot)
      → IsLine lines i (Ok (command.Sync session)) (answer.Synced revision full) → Contains full row → HasBlocked history row
  pub syncs : (i session revision : ℕ) (full : List FullSlot) (endpoint : EndpointId)
      → IsLine lines i (Ok (command.Sync session)) (answer.Synced revision full)
      → Lives (state_after options history revision) endpoint → Lives (state_now options history) endpoint
      → HasReport history endpoint revision
