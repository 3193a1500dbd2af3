-- The conditions of `IsHistoryOf` one by one, and what lacks one of them alone.
use Rattle.std.specs.Prelude.{◌≡◌, ℕ, List, Option, Ok}
use Rattle.std.specs.List.{Contains}
use Rattle.pol_mapkey.specs.declared.Word.{Word}
use Rattle.pol_model.specs.declared.answer.FullSlot.{FullSlot}
use Rattle.pol_model.specs.declared.options.Options.{Options}
use Rattle.pol_model.specs.declared.request.Query.{Query}
use Rattle.pol_model.specs.declared.request.Request.{Request}
use Rattle.pol_answer.specs.declared.answer.Answer.TheVariants as answer
use Rattle.pol_script.specs.declared.command.Command.TheVariants as command
use Rattle.pol_run.specs.ByIndex.{IsLine}
use Rattle.pol_run.specs.History.{history_of}
use Rattle.pol_run.specs.Spots.{Line, spots_of}
use Rattle.pol_history.specs.declared.event.EndpointId.{EndpointId}
use Rattle.pol_history.specs.declared.event.HistoryEvent.{HistoryEvent}
use Rattle.pol_history.specs.Commits.{Lives, commits_in, state_after, state_now}
use Rattle.pol_run_laws.specs.HistoryOfRun.{HasBlocked, HasPublished, HasReport, IsCommitOf, IsHistoryOf}

pub data Condition : Type 0 where
  Commits : Condition
  OnePass : Condition
  Apart : Condition
  Verdicts : Condition
  Rows : Condition
  Syncs : Condition

-- the condition holds, where these are the passes of the sessions
abbrev pub Holds : Condition → Options → List HistoryEvent → List Line → (ℕ → ℕ) → Type 0
Holds Commits options history lines pass_of = commits_in history ≡ history_of (spots_of lines)
Holds OnePass options history lines pass_of = (i session : ℕ) (request : Request) (k : ℕ) (identity : Option ℕ)
    → IsLine lines i (Ok (command.Commit session request)) (answer.Committed k identity) → IsCommitOf history (pass_of session) k
Holds Apart options history lines pass_of = (i j session other : ℕ) (request later : Request) (k n : ℕ) (identity number : Option ℕ)
    → IsLine lines i (Ok (command.Commit session request)) (answer.Committed k identity)
    → IsLine lines j (Ok (command.Commit other later)) (answer.Committed n number)
    → pass_of session ≡ pass_of other → session ≡ other
Holds Verdicts options history lines pass_of = (i session : ℕ) (query : Query) (revision : ℕ) (word : Word) (endpoint : EndpointId)
    → IsLine lines i (Ok (command.Look session query)) (answer.Verdict revision word)
    → endpoint.name ≡ query.endpoint → Lives (state_after options history revision) endpoint → HasPublished history endpoint revision
Holds Rows options history lines pass_of = (i session revision : ℕ) (full : List FullSlot) (row : FullSlot)
    → IsLine lines i (Ok (command.Sync session)) (answer.Synced revision full) → Contains full row → HasBlocked history row
Holds Syncs options history lines pass_of = (i session revision : ℕ) (full : List FullSlot) (endpoint : EndpointId)
    → IsLine lines i (Ok (command.Sync session)) (answer.Synced revision full)
    → Lives (state_after options history revision) endpoint → Lives (state_now options history) endpoint
    → HasReport history endpoint revision

-- It is no history of the run, and for want of this condition alone: with these passes each other one holds.
pub record LacksAlone (missing : Condition) (options : Options) (history : List HistoryEvent) (lines : List Line) : Type 0 where
  pub pass_of : ℕ → ℕ
  pub others : (other : Condition) → (other ≡ missing → ⊥) → Holds other options history lines pass_of
  pub lacks : IsHistoryOf options history lines → ⊥
