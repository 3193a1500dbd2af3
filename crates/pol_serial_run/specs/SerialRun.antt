-- **The serial run**: what the lines of a script are answered in one session, one after another, by the pure machine after some
-- requests ('profile').
use Rattle.std.specs.Prelude.{◌≡◌, ⊤, ℕ, List, [], ◌∷◌, Ok, Err}
use Rattle.pol_answer.specs.declared.answer.Answer.{Answer}
use Rattle.pol_answer.specs.declared.answer.Answer.TheVariants as answer
use Rattle.pol_history.specs.declared.machine.Event.TheVariants as step
use Rattle.pol_history.specs.Commits.{revision_of, state_now}
use Rattle.pol_history.specs.Look.{Looked, NoEndpoint, NotYet, Found, look}
use Rattle.pol_history.specs.Machine.{Machine, step_of}
use Rattle.pol_machine.specs.Serial.{ListsRows, machine_asked, machine_of}
use Rattle.pol_machine.specs.declared.asked.Asked.TheVariants.{Sync}
use Rattle.pol_model.specs.declared.options.Options.{Options}
use Rattle.pol_model.specs.declared.request.Request.{Request}
use Rattle.pol_run.specs.Serial.{commit_answer, trace_answer}
use Rattle.pol_run.specs.Spots.{Reading, phase_after}
use Rattle.pol_script.specs.declared.command.Command.TheVariants as command

-- ---- one line

-- what a look-up is answered
abbrev pub answer_looked : Looked → Answer
answer_looked (NoEndpoint revision) = answer.NoEndpoint revision
answer_looked (NotYet revision) = answer.NotYet revision
answer_looked (Found revision word) = answer.Verdict revision word

-- A sync is answered by the revision, and by the rows of the maps that are too large once the slot of each live endpoint was taken
-- and finished.
abbrev pub IsSyncAnswer : Options → Machine → Answer → Type 0
IsSyncAnswer options m (answer.Synced revision full) =
    (revision ≡ revision_of m.history) × ListsRows options (machine_asked options m Sync).history full
IsSyncAnswer options m other = ⊥

-- The answer to a line, in a phase: a faulty line has its fault, a commit and an explanation what the present state gives, and a
-- look-up what is found in the history.
abbrev pub IsLineAnswer : Options → Machine → ℕ → Reading → Answer → Type 0
IsLineAnswer options m phase (Err fault) told = told ≡ answer.BadLine fault
IsLineAnswer options m phase (Ok (command.Commit session request)) told = told ≡ commit_answer (state_now options m.history) request
IsLineAnswer options m phase (Ok (command.Look session query)) told = told ≡ answer_looked (look options m.history query)
IsLineAnswer options m phase (Ok (command.Trace session query)) told = told ≡ trace_answer options (state_now options m.history) query
IsLineAnswer options m phase (Ok (command.Sync session)) told = IsSyncAnswer options m told
IsLineAnswer options m phase (Ok command.Phase) told = told ≡ answer.Phase phase

-- the machine after a line
abbrev pub machine_then : Options → Machine → Reading → Machine
machine_then options m (Err fault) = m
machine_then options m (Ok (command.Commit session request)) = (step_of options m (step.Commit request)).1
machine_then options m (Ok (command.Look session query)) = m
machine_then options m (Ok (command.Trace session query)) = m
machine_then options m (Ok (command.Sync session)) = machine_asked options m Sync
machine_then options m (Ok command.Phase) = m

-- ---- all lines

-- the answers to lines, from a machine and a phase on
abbrev pub IsSerialFrom : Options → Machine → ℕ → List Reading → List Answer → Type 0
IsSerialFrom options m phase [] [] = ⊤
IsSerialFrom options m phase [] (told ∷ answers) = ⊥
IsSerialFrom options m phase (reading ∷ readings) [] = ⊥
IsSerialFrom options m phase (reading ∷ readings) (told ∷ answers) =
    IsLineAnswer options m phase reading told × IsSerialFrom options (machine_then options m reading) (phase_after phase reading) readings answers

-- the answers to the lines of a script, after these requests
abbrev pub IsSerial : Options → List Request → List Reading → List Answer → Type 0
IsSerial options start readings answers = IsSerialFrom options (machine_of options start) 1 readings answers

-- ---- after lines

abbrev pub machine_after_lines : Options → Machine → List Reading → Machine
machine_after_lines options m [] = m
machine_after_lines options m (reading ∷ readings) = machine_after_lines options (machine_then options m reading) readings

abbrev pub phase_after_lines : ℕ → List Reading → ℕ
phase_after_lines phase [] = phase
phase_after_lines phase (reading ∷ readings) = phase_after_lines (phase_after phase reading) readings
