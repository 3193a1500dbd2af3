-- What answering the lines of a source over a disk leaves, status by status.
use Rattle.std.specs.Prelude.{◌≡◌, ◌⊎◌, ℕ, List, [], ◌∷◌, ◌++◌, Option, IsTrue}
use Rattle.std.specs.Io.KnownBytes.{Appends, Keeps}
use Rattle.pol_answer.specs.Text.{text_of, texts_of}
use Rattle.pol_answer.specs.declared.answer.Answer.{Answer}
use Rattle.pol_disk.specs.Images.{LeavesOnly}
use Rattle.pol_model.specs.declared.options.Options.{Options}
use Rattle.pol_model.specs.declared.request.Request.{Request}
use Rattle.pol_play_kept.specs.Images.{AllAre, IsJournalWithin}
use Rattle.pol_play_kept.specs.Played.{IsWhole, WritesBefore, WritesNothing, WritesSerial}
use Rattle.pol_run.specs.Run.{readings_of}
use Rattle.pol_run.specs.Spots.{Reading}
use Rattle.pol_serial_run.specs.Accepted.{accepted}
use Rattle.pol_serial_run.specs.SerialRun.{IsSerial}
use Rattle.pol_status.specs.declared.status.Status.{Status}
use Rattle.pol_status.specs.declared.status.Status.TheVariants.{Clean, Marked, Usage, Read, Write, Memory, TooLong, Disk, Damaged}
use Rattle.pol_status.specs.Limits.{is_too_long}
use Rattle.pol_streams.specs.Bytes.{AppendsPart}

-- ---- what was written

-- the text of the first lines of a script, and each image has the requests that they accept and no other
pub record WritesFirst (options : Options) (start : List Request) (script : List ℕ) (may_leave : List ℕ → Type 0) (old new : Option (List ℕ)) : Type 0 where
  pub before : List Reading
  pub later : List Reading
  pub split : readings_of script ≡ before ++ later
  pub text : List ℕ
  pub status : ℕ
  pub whole : IsWhole options start before may_leave text status
  pub written : Appends old new text

-- The text of the first lines, and behind it a proper part of the answer to the next one, from its front. What that line accepts is
-- in each image.
pub record WritesCut (options : Options) (start : List Request) (script : List ℕ) (may_leave : List ℕ → Type 0) (old new : Option (List ℕ)) : Type 0 where
  pub before : List Reading
  pub reading : Reading
  pub later : List Reading
  pub split : readings_of script ≡ before ++ reading ∷ later
  pub answers : List Answer
  pub told : Answer
  pub serial : IsSerial options start (before ++ reading ∷ []) (answers ++ told ∷ [])
  pub whole_lines : Option (List ℕ)
  pub written : Appends old whole_lines (texts_of answers)
  pub part : AppendsPart whole_lines new (text_of told)
  pub images : AllAre options (start ++ accepted options start (before ++ reading ∷ [])) may_leave

-- ---- by the status

-- **What a status says** of what was written and of what a crash may leave, after the lines of a script were answered as they came,
-- over a disk whose images were journals of these requests ('profile').
abbrev pub IsServed : Options → List Request → List ℕ → (List ℕ → Type 0) → Option (List ℕ) → Option (List ℕ) → Status → Type 0
IsServed options start script may_leave old new Clean = WritesSerial options start script may_leave old new 0
IsServed options start script may_leave old new Marked = WritesSerial options start script may_leave old new 1
IsServed options start script may_leave old new Usage = Keeps old new
IsServed options start script may_leave old new Read = WritesFirst options start script may_leave old new
IsServed options start script may_leave old new Write = WritesCut options start script may_leave old new
IsServed options start script may_leave old new Memory =
    WritesFirst options start script may_leave old new ⊎ WritesBefore options start script may_leave old new
IsServed options start script may_leave old new TooLong = WritesFirst options start script may_leave old new
IsServed options start script may_leave old new Disk =
    WritesNothing options start may_leave old new ⊎ WritesBefore options start script may_leave old new
IsServed options start script may_leave old new Damaged = Keeps old new

-- What the status says; that a script which is told as too long is too long; and that at each moment since the old disk's each image that
-- a crash might leave was a journal of these requests and of a beginning of those that the script accepts.
pub record Serves {D : Type 0} (moment : D → ℕ) (left_since : D → ℕ → List ℕ → Type 0) (may_leave : D → List ℕ → Type 0) (options : Options) (start : List Request)
    (script : List ℕ) (old_disk new_disk : D) (old new : Option (List ℕ)) (status : Status) : Type 0 where
  pub served : IsServed options start script (may_leave new_disk) old new status
  pub too_long : status ≡ TooLong → IsTrue (is_too_long script)
  pub any_moment : LeavesOnly moment left_since old_disk new_disk (IsJournalWithin options start (accepted options start (readings_of script)))
