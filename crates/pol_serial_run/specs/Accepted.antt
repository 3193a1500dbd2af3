-- Which requests of a serial run are accepted: those of its `ok` lines.
use Rattle.std.specs.Prelude.{◌≡◌, ℕ, ◌+◌, List, [], ◌∷◌, ◌++◌, Option, None, Some, Ok, Err}
use mathlib.Core.List.{IsPrefix}
use Rattle.pol_answer.specs.declared.answer.Answer.{Answer}
use Rattle.pol_answer.specs.declared.answer.Answer.TheVariants as answer
use Rattle.pol_history.specs.Commits.{state_now}
use Rattle.pol_history.specs.Machine.{Machine}
use Rattle.pol_machine.specs.Serial.{machine_of}
use Rattle.pol_model.specs.Fault.{fault_of}
use Rattle.pol_model.specs.declared.answer.Fault.{Fault}
use Rattle.pol_model.specs.declared.options.Options.{Options}
use Rattle.pol_model.specs.declared.request.Request.{Request}
use Rattle.pol_run.specs.Spots.{Reading}
use Rattle.pol_script.specs.declared.command.Command.TheVariants as command
use Rattle.pol_serial_run.specs.SerialRun.{machine_then}

-- a request is accepted where it has no fault
abbrev pub unless_fault : Request → Option Fault → List Request
unless_fault request None = request ∷ []
unless_fault request (Some fault) = []

-- what is accepted of a line
abbrev pub accepted_by : Options → Machine → Reading → List Request
accepted_by options m (Err fault) = []
accepted_by options m (Ok (command.Commit session request)) = unless_fault request (fault_of (state_now options m.history) request)
accepted_by options m (Ok (command.Look session query)) = []
accepted_by options m (Ok (command.Trace session query)) = []
accepted_by options m (Ok (command.Sync session)) = []
accepted_by options m (Ok command.Phase) = []

-- of lines, from a machine on
abbrev pub accepted_from : Options → Machine → List Reading → List Request
accepted_from options m [] = []
accepted_from options m (reading ∷ readings) = accepted_by options m reading ++ accepted_from options (machine_then options m reading) readings

-- of the lines of a script, after these requests
abbrev pub accepted : Options → List Request → List Reading → List Request
accepted options start readings = accepted_from options (machine_of options start) readings

-- ---- as the answers tell it

-- how many of the answers are `ok` lines
abbrev pub one_if_ok : Answer → ℕ
one_if_ok (answer.Committed revision identity) = 1
one_if_ok (answer.Synced revision full) = 0
one_if_ok (answer.Phase number) = 0
one_if_ok (answer.Verdict revision word) = 0
one_if_ok (answer.NoEndpoint revision) = 0
one_if_ok (answer.NotYet revision) = 0
one_if_ok (answer.Traced revision trace) = 0
one_if_ok (answer.BadLine fault) = 0
one_if_ok (answer.Refused refused) = 0

abbrev pub ok_lines : List Answer → ℕ
ok_lines [] = 0
ok_lines (told ∷ answers) = one_if_ok told + ok_lines answers
