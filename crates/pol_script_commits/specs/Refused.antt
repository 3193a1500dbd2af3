-- What lines of a script are refused for, where its requests are committed in order ('profile').
use Rattle.std.specs.Prelude.{ℕ, ◌+◌, List, [], ◌∷◌, ◌++◌, Option, None, Some, Ok, Err}
use Rattle.pol_answer.specs.declared.answer.Answer.{Answer}
use Rattle.pol_answer.specs.declared.answer.Answer.TheVariants as answer
use Rattle.pol_model.specs.declared.answer.Fault.{Fault}
use Rattle.pol_model.specs.declared.options.Options.{Options}
use Rattle.pol_model.specs.After.{start}
use Rattle.pol_model.specs.Fault.{fault_of}
use Rattle.pol_model.specs.State.{State}
use Rattle.pol_run.specs.Serial.{state_then}
use Rattle.pol_run.specs.Spots.{Reading}
use Rattle.pol_script.specs.declared.command.Command.TheVariants as command
use Rattle.pol_script_commits.specs.declared.refusal.Refusal.{Refusal}

-- the answer to a request that has this fault
abbrev pub refused_by : State → Option Fault → Option Answer
refused_by s None = None
refused_by s (Some fault) = Some (answer.Refused (record { revision = s.revision; fault = fault }))

-- The answer to a line in a state, where it is refused: it has a fault, or its request has one there. No other line is.
abbrev pub refused_in : State → Reading → Option Answer
refused_in s (Err fault) = Some (answer.BadLine fault)
refused_in s (Ok (command.Commit session request)) = refused_by s (fault_of s request)
refused_in s (Ok (command.Look session query)) = None
refused_in s (Ok (command.Trace session query)) = None
refused_in s (Ok (command.Sync session)) = None
refused_in s (Ok command.Phase) = None

-- the line of the number, if it is refused
abbrev pub at_line : ℕ → Option Answer → List Refusal
at_line line None = []
at_line line (Some found) = record { line = line; answer = found } ∷ []

-- the lines that are refused, from a state and a number of lines before them on
abbrev pub refusals_from : ℕ → State → List Reading → List Refusal
refusals_from count s [] = []
refusals_from count s (reading ∷ readings) =
    at_line (count + 1) (refused_in s reading) ++ refusals_from (count + 1) (state_then s reading) readings

-- those of a script
abbrev pub refusals_of : Options → List Reading → List Refusal
refusals_of options readings = refusals_from 0 (start options) readings
