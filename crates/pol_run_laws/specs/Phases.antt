-- Lines that were played phase by phase: in each phase every session plays its lines on from what all passes had seen at
-- the start of the phase, and at its end all passes meet.
use Rattle.std.specs.Prelude.{◌≡◌, ℕ, zero, suc, ◌+◌, if◌then◌else◌, List, [], ◌∷◌, take, slice_get, count_by, Option, None, Some, Ok, Err}
use Rattle.std.specs.List.{filter_map}
use mathlib.Core.List.{IsPrefix}
use Rattle.pol_model.specs.declared.options.Options.{Options}
use Rattle.pol_model.specs.declared.request.Request.{Request}
use Rattle.pol_answer.specs.declared.answer.Answer.{Answer}
use Rattle.pol_answer.specs.declared.answer.Answer.TheVariants as answer
use Rattle.pol_script.specs.declared.command.Command.{Command}
use Rattle.pol_script.specs.declared.command.Command.TheVariants as command
use Rattle.pol_script.specs.declared.line_fault.LineFault.{LineFault}
use Rattle.pol_run.specs.ByIndex.{IsLine, is_phase}
use Rattle.pol_run.specs.Spots.{Line, Reading, session_of, shares}
use Rattle.pol_history.specs.declared.event.HistoryEvent.{HistoryEvent}
use Rattle.pol_history.specs.declared.event.HistoryEvent.TheVariants as event
use Rattle.pol_history.specs.Commits.{commits_by}
use Rattle.pol_run_laws.specs.Placed.{IsLineOf, IsPassOfLine, requests_ok}
use Rattle.pol_run_laws.specs.Session.{PlaysOn}

-- the lines of a phase, counted from 0, but for the `phase` line that ends it
abbrev pub lines_in : ℕ → List Line → List Line
lines_in zero [] = []
lines_in (suc phase) [] = []
lines_in zero (line ∷ lines) = if is_phase line then [] else line ∷ lines_in zero lines
lines_in (suc phase) (line ∷ lines) = if is_phase line then lines_in phase lines else lines_in (suc phase) lines

-- a command of the session, with its answer
abbrev pub command_of : ℕ → Line → Option (Command × Answer)
command_of session (Ok command, told) = if shares (session_of (Ok command)) (Some session) then Some (command, told) else None
command_of session (Err fault, told) = None

-- the session's commands in the phase, with their answers
abbrev pub played_in : ℕ → ℕ → List Line → List (Command × Answer)
played_in phase session lines = filter_map (command_of session) (lines_in phase lines)

pub record ArePlayedInPhases (options : Options) (history : List HistoryEvent) (lines : List Line) : Type 0 where
  -- the pass of each session
  pub pass_of : ℕ → ℕ
  -- what all passes had seen at the start of a phase
  pub starts : ℕ → List HistoryEvent
  -- what a session's pass had seen after its last line of a phase
  pub ends : ℕ → ℕ → List HistoryEvent
  pub plays : (phase session : ℕ) → PlaysOn options (pass_of session) (starts phase) (ends phase session) (played_in phase session lines)
  pub meets : (phase session : ℕ) → IsPrefix (ends phase session) (starts (phase + 1))
  pub seen : (phase : ℕ) → IsPrefix (starts phase) history
  -- the rest is as where lines are placed
  pub faulty : (i : ℕ) (fault : LineFault) (told : Answer) → IsLine lines i (Err fault) told → told ≡ answer.BadLine fault
  pub phases : (i : ℕ) (told : Answer) → IsLine lines i (Ok command.Phase) told → told ≡ answer.Phase (count_by is_phase (take i lines) + 1)
  pub apart : (session i : ℕ) (first : Reading) (told : Answer) (other j : ℕ) (second : Reading) (later : Answer)
      → IsLineOf lines session i first told → IsLineOf lines other j second later → pass_of session ≡ pass_of other → session ≡ other
  pub own : (session i : ℕ) (reading : Reading) (told : Answer) → IsLineOf lines session i reading told
      → commits_by (pass_of session) history ≡ requests_ok session lines
  pub no_others : (place pass number : ℕ) (request : Request) → slice_get history place ≡ Some (event.Commit pass number request)
      → IsPassOfLine lines pass_of pass
