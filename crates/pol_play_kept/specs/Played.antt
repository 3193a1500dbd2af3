-- What the play of a script over a disk leaves, status by status.
use Rattle.std.specs.Prelude.{◌≡◌, ⊤, ◌⊎◌, ℕ, List, [], ◌∷◌, ◌++◌, Option, None, Ok, Result, Err}
use Rattle.std.specs.Io.KnownBytes.{Appends, Keeps}
use Rattle.pol_answer.specs.Text.{texts_of}
use Rattle.pol_answer.specs.declared.answer.Answer.{Answer}
use Rattle.pol_disk.specs.Images.{LeavesOnly}
use Rattle.pol_journal.specs.Journal.{IsJournalOrOneMore, journal_of}
use Rattle.pol_kept.specs.Keeps.{HoldsStill}
use Rattle.pol_machine.specs.Serial.{machine_of}
use Rattle.pol_model.specs.Fault.{fault_of}
use Rattle.pol_model.specs.declared.options.Options.{Options}
use Rattle.pol_model.specs.declared.request.Request.{Request}
use Rattle.pol_run.specs.Run.{readings_of, status_of}
use Rattle.pol_run.specs.Spots.{Reading}
use Rattle.pol_script.specs.declared.command.Command.TheVariants as command
use Rattle.pol_serial_run.specs.Accepted.{accepted}
use Rattle.pol_serial_run.specs.SerialRun.{IsSerial, machine_after_lines}
use Rattle.pol_status.specs.declared.status.Status.{Status}
use Rattle.pol_status.specs.declared.status.Status.TheVariants.{Clean, Marked, Usage, Read, Write, Memory, TooLong, Disk, Damaged}
use Rattle.pol_streams.specs.Bytes.{AppendsPart}
use Rattle.pol_play_kept.specs.Images.{AllAre, IsJournalWithin}
use Rattle.pol_play_kept.specs.Answering.{IsAccepted}
use Rattle.pol_play_kept.specs.declared.script.ScriptError.{ScriptError}
use Rattle.pol_play_kept.specs.declared.script.ScriptError.TheVariants as error

-- ---- texts, and what the disk holds with them

-- All lines were answered: the text is that of the serial run after these requests, with its status, and each image is a journal of
-- these requests and of all that were accepted.
pub record IsWhole (options : Options) (start : List Request) (readings : List Reading) (may_leave : List ℕ → Type 0) (text : List ℕ) (status : ℕ) : Type 0 where
  pub answers : List Answer
  pub serial : IsSerial options start readings answers
  pub text_is : text ≡ texts_of answers
  pub status_is : status ≡ status_of answers
  pub images : AllAre options (start ++ accepted options start readings) may_leave

-- The disk failed at the line of an accepted request: the text is that of the lines before it, and each image is a journal of these
-- requests and of those that were accepted before, or of this one more.
pub record StopsAt (options : Options) (start : List Request) (readings : List Reading) (may_leave : List ℕ → Type 0) (text : List ℕ) : Type 0 where
  pub before : List Reading
  pub later : List Reading
  pub reading : Reading
  pub split : readings ≡ before ++ reading ∷ later
  pub line : IsAccepted options (machine_after_lines options (machine_of options start) before) reading
  pub answers : List Answer
  pub serial : IsSerial options start before answers
  pub text_is : text ≡ texts_of answers
  pub images : (c : List ℕ) → may_leave c → IsJournalOrOneMore options (start ++ accepted options start before) line.request c

-- a text of either kind
abbrev pub IsAllowed : Options → List Request → List Reading → (List ℕ → Type 0) → List ℕ → Type 0
IsAllowed options start readings may_leave text =
    ((status : ℕ) × IsWhole options start readings may_leave text status) ⊎ StopsAt options start readings may_leave text

-- ---- what was written

-- the whole text of a serial run
pub record WritesSerial (options : Options) (start : List Request) (script : List ℕ) (may_leave : List ℕ → Type 0) (old new : Option (List ℕ)) (status : ℕ) : Type 0 where
  pub text : List ℕ
  pub whole : IsWhole options start (readings_of script) may_leave text status
  pub written : Appends old new text

-- the text of the lines before the one at which the disk failed
pub record WritesBefore (options : Options) (start : List Request) (script : List ℕ) (may_leave : List ℕ → Type 0) (old new : Option (List ℕ)) : Type 0 where
  pub text : List ℕ
  pub stops : StopsAt options start (readings_of script) may_leave text
  pub written : Appends old new text

-- nothing, since opening failed
pub record WritesNothing (options : Options) (start : List Request) (may_leave : List ℕ → Type 0) (old new : Option (List ℕ)) : Type 0 where
  pub images : AllAre options start may_leave
  pub written : Keeps old new

-- the first part of a text of a serial run, or of the lines before the one at which the disk failed
pub record WritesPart (options : Options) (start : List Request) (script : List ℕ) (may_leave : List ℕ → Type 0) (old new : Option (List ℕ)) : Type 0 where
  pub text : List ℕ
  pub is : IsAllowed options start (readings_of script) may_leave text
  pub written : AppendsPart old new text

-- ---- opening

-- the bytes are damaged at this gate
pub record IsDamaged (options : Options) (bytes : List ℕ) : Type 0 where
  pub gate : ℕ
  pub damaged : journal_of options bytes ≡ Err gate

-- where they are damaged at a gate, an error tells it
abbrev pub TellsGate : Options → List ℕ → ScriptError → Type 0
TellsGate options bytes (error.Damaged at) = journal_of options bytes ≡ Err at
TellsGate options bytes error.Disk = ⊤
TellsGate options bytes error.Memory = ⊤

-- then the disk holds what it held
abbrev pub HoldsAtGate : {D : Type 0} → (D → List ℕ) → (D → List ℕ → Type 0) → (D → ℕ) → (D → ℕ → List ℕ → Type 0)
    → D → ScriptError → D → Type 0
HoldsAtGate seen may_leave moment left_since old (error.Damaged at) new = HoldsStill seen may_leave moment left_since old new
HoldsAtGate seen may_leave moment left_since old error.Disk new = ⊤
HoldsAtGate seen may_leave moment left_since old error.Memory new = ⊤

-- they are a journal
pub record IsSomeJournal (options : Options) (bytes : List ℕ) : Type 0 where
  pub requests : List Request
  pub journal : journal_of options bytes ≡ Ok requests

-- **What a status says** of what was written and of what a crash may leave, after a script over a disk whose images were journals of
-- these requests ('profile').
abbrev pub IsPlayed : Options → List Request → List ℕ → (List ℕ → Type 0) → Option (List ℕ) → Option (List ℕ) → Status → Type 0
IsPlayed options start script may_leave old new Clean = WritesSerial options start script may_leave old new 0
IsPlayed options start script may_leave old new Marked = WritesSerial options start script may_leave old new 1
IsPlayed options start script may_leave old new Usage = Keeps old new
IsPlayed options start script may_leave old new Read = Keeps old new
IsPlayed options start script may_leave old new Write = WritesPart options start script may_leave old new
IsPlayed options start script may_leave old new Memory = Keeps old new
IsPlayed options start script may_leave old new TooLong = Keeps old new
IsPlayed options start script may_leave old new Disk =
    WritesNothing options start may_leave old new ⊎ WritesBefore options start script may_leave old new
IsPlayed options start script may_leave old new Damaged = Keeps old new

-- That, and at each moment since then an image was a journal of these requests and of a beginning of those that the script accepts.
pub record Plays {D : Type 0} (moment : D → ℕ) (left_since : D → ℕ → List ℕ → Type 0) (may_leave : D → List ℕ → Type 0) (options : Options) (start : List Request)
    (script : List ℕ) (old_disk new_disk : D) (old new : Option (List ℕ)) (status : Status) : Type 0 where
  pub played : IsPlayed options start script (may_leave new_disk) old new status
  pub any_moment : LeavesOnly moment left_since old_disk new_disk (IsJournalWithin options start (accepted options start (readings_of script)))
