-- What playing lines leaves.
use Rattle.std.specs.Prelude.{◌≡◌, ⊤, ℕ, ◌+◌, List, [], ◌∷◌, ◌++◌, IsErrOf, None, Result, Ok, Err}
use Rattle.std.specs.List.{list_any}
use Rattle.pol_answer.specs.Text.{texts_of}
use Rattle.pol_answer.specs.declared.answer.Answer.{Answer}
use Rattle.pol_answer.specs.declared.answer.Answer.TheVariants as answer
use Rattle.pol_disk.specs.Images.{LeavesOnly}
use Rattle.pol_history.specs.Commits.{commits_in, state_now}
use Rattle.pol_history.specs.Machine.{Machine}
use Rattle.pol_journal.specs.Journal.{IsJournalOrOneMore}
use Rattle.pol_kept.specs.Keeps.{IsKept, requests_in}
use Rattle.pol_machine.specs.Serial.{machine_of}
use Rattle.pol_machine.specs.Stands.{Stands, Stored, options_in}
use Rattle.pol_model.specs.Fault.{fault_of}
use Rattle.pol_model.specs.declared.options.Options.{Options}
use Rattle.pol_model.specs.declared.request.Request.{Request}
use Rattle.pol_run.specs.Run.{is_marked}
use Rattle.pol_run.specs.Spots.{Reading}
use Rattle.pol_script.specs.declared.command.Command.TheVariants as command
use Rattle.pol_serial_run.specs.Accepted.{accepted, accepted_by}
use Rattle.pol_serial_run.specs.SerialRun.{IsLineAnswer, IsSerial, machine_after_lines, machine_then, phase_after_lines}
use Rattle.pol_play_kept.specs.Images.{IsJournalOrMore}
use Rattle.pol_play_kept.specs.declared.line.Stopped.{Stopped}
use Rattle.pol_play_kept.specs.declared.line.Stopped.TheVariants.{Disk as DiskFailed}
use Rattle.pol_play_kept.specs.declared.progress.Progress.{Progress}

-- the line asks to commit a request that has no fault
pub record IsAccepted (options : Options) (m : Machine) (reading : Reading) : Type 0 where
  pub session : ℕ
  pub request : Request
  pub reads : reading ≡ Ok (command.Commit session request)
  pub no_fault : fault_of (state_now options m.history) request ≡ None

-- what a line leaves is said where it is answered
abbrev pub IfAnswered : (Answer → Type 0) → Result Answer Stopped → Type 0
IfAnswered P (Ok told) = P told
IfAnswered P (Err why) = ⊤

module _ {D : Type 0} (seen : D → List ℕ) (may_leave : D → List ℕ → Type 0) where
  -- a line was answered: by the answer of the serial run, and the machine and the disk are those after it
  pub record IsAnswered (options : Options) (m : Machine) (phase : ℕ) (reading : Reading) (told : Answer) (disk : D) (s : Stored) : Type 0 where
    pub is_told : IsLineAnswer options m phase reading told
    pub stands : Stands s (machine_then options m reading)
    pub kept : IsKept seen may_leave disk s

  -- What a line leaves, played over the machine m: the answer, the machine and the disk are those after it; the disk failed only where
  -- it asks to commit a request without a fault; and a crash at any moment leaves a journal of the requests before, or of these with
  -- what the line accepts.
  pub record PlaysLine (moment : D → ℕ) (left_since : D → ℕ → List ℕ → Type 0) (m : Machine) (phase : ℕ) (reading : Reading) (old : D) (s : Stored) (new : D) (t : Stored)
      (result : Result Answer Stopped) : Type 0 where
    pub answered : IfAnswered (λ told. IsAnswered (options_in s) m phase reading told new t) result
    pub accepted : IsErrOf result DiskFailed → IsAccepted (options_in s) m reading
    pub any_moment : LeavesOnly moment left_since old new (IsJournalOrMore (options_in s) (requests_in s) (accepted_by (options_in s) m reading))

  -- The disk failed at a line behind these: its request has no fault, and each image is a journal of the requests that were accepted
  -- before, or of this one more.
  pub record StopsHere (options : Options) (start : List Request) (readings : List Reading) (reading : Reading) (progress : Progress) (disk : D) : Type 0 where
    pub line : IsAccepted options (machine_after_lines options (machine_of options start) readings) reading
    pub answers : List Answer
    pub serial : IsSerial options start readings answers
    pub text : progress.text.items ≡ texts_of answers
    pub marked : progress.marked ≡ list_any is_marked answers
    pub images : (c : List ℕ) → may_leave disk c → IsJournalOrOneMore options (start ++ accepted options start readings) line.request c

  -- these lines were answered, after these requests
  pub record IsSoFar (options : Options) (start : List Request) (readings : List Reading) (progress : Progress) (disk : D) (s : Stored) : Type 0 where
    pub answers : List Answer
    pub serial : IsSerial options start readings answers
    pub text : progress.text.items ≡ texts_of answers
    pub marked : progress.marked ≡ list_any is_marked answers
    pub phase : progress.phase ≡ phase_after_lines 1 readings
    pub begun : commits_in (machine_of options start).history ≡ start
    pub options_are : options_in s ≡ options
    pub stands : Stands s (machine_after_lines options (machine_of options start) readings)
    pub kept : IsKept seen may_leave disk s

-- the phase after an answer: that to a phase's end is told by its number
abbrev pub phase_told : ℕ → Answer → ℕ
phase_told phase (answer.Committed revision identity) = phase
phase_told phase (answer.Synced revision full) = phase
phase_told phase (answer.Phase number) = phase + 1
phase_told phase (answer.Verdict revision word) = phase
phase_told phase (answer.NoEndpoint revision) = phase
phase_told phase (answer.NotYet revision) = phase
phase_told phase (answer.Traced revision trace) = phase
phase_told phase (answer.BadLine fault) = phase
phase_told phase (answer.Refused refused) = phase
