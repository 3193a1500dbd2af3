-- Lines of a script that were answered, each as it came.
use Rattle.std.specs.Prelude.{◌≡◌, ◌⊎◌, ℕ, ◌+◌, ◌≤◌, false, List, [], ◌++◌, length, map, Option, Result, Ok, Err, IsTrue}
use Rattle.std.specs.Io.KnownBytes.{Appends}
use Rattle.std.specs.List.{list_any}
use Rattle.pol_answer.specs.Text.{texts_of}
use Rattle.pol_answer.specs.declared.answer.Answer.{Answer}
use Rattle.pol_disk.specs.Images.{LeavesOnly}
use Rattle.pol_history.specs.Commits.{commits_in}
use Rattle.pol_kept.specs.Keeps.{IsKept}
use Rattle.pol_machine.specs.Serial.{machine_of}
use Rattle.pol_machine.specs.Stands.{Stands, Stored, options_in}
use Rattle.pol_model.specs.declared.options.Options.{Options}
use Rattle.pol_model.specs.declared.request.Request.{Request}
use Rattle.pol_play_kept.specs.Images.{IsJournalWithin}
use Rattle.pol_run.specs.Run.{is_marked, readings_of}
use Rattle.pol_script.specs.Lines.{is_one_line, lines_of}
use Rattle.pol_script.specs.Reading.{reading_of}
use Rattle.pol_serial_run.specs.Accepted.{accepted}
use Rattle.pol_serial_run.specs.SerialRun.{IsSerial, machine_after_lines, phase_after_lines}
use Rattle.pol_status.specs.Limits.{lines_max}
use Rattle.pol_status.specs.declared.status.Status.{Status}
use Rattle.pol_status.specs.declared.status.Status.TheVariants.{Write, Memory, TooLong, Disk}
use Rattle.policyd_kept.specs.Served.{Serves}
use Rattle.policyd_kept.specs.declared.course.Course.{Course}

-- a script that is answered with these options after these requests, and the disk and what was known to be written before its first line
pub record Story (D : Type 0) : Type 0 where
  pub options : Options
  pub start : List Request
  pub script : List ℕ
  pub disk : D
  pub written : Option (List ℕ)

module _ {D : Type 0} (moment : D → ℕ) (left_since : D → ℕ → List ℕ → Type 0) (seen : D → List ℕ) (may_leave : D → List ℕ → Type 0) where
  -- The first lines were answered, and the others stand in the rest. The texts of the answers were written, and nothing else.
  pub record IsServing (story : Story D) (rest : List ℕ) (course : Course) (written : Option (List ℕ)) (disk : D) (s : Stored) : Type 0 where
    pub before : List (List ℕ)
    pub split : lines_of story.script ≡ before ++ lines_of rest
    pub answers : List Answer
    pub serial : IsSerial story.options story.start (map reading_of before) answers
    pub wrote : Appends story.written written (texts_of answers)
    pub marked : course.marked ≡ list_any is_marked answers
    pub phase : course.phase ≡ phase_after_lines 1 (map reading_of before)
    pub lines : course.lines ≡ length before
    -- the machine and the disk are those after them
    pub begun : commits_in (machine_of story.options story.start).history ≡ story.start
    pub options_are : options_in s ≡ story.options
    pub stands : Stands s (machine_after_lines story.options (machine_of story.options story.start) (map reading_of before))
    pub kept : IsKept seen may_leave disk s
    pub moments : LeavesOnly moment left_since story.disk disk (IsJournalWithin story.options story.start (accepted story.options story.start (readings_of story.script)))

  -- More of them were, up to this rest; or else it ended.
  abbrev pub ServesOn : Story D → List ℕ → Course → Option (List ℕ) → D → Stored → Result (Unit {0}) Status → Type 0
  ServesOn story rest course written disk s (Ok done) = IsServing story rest course written disk s
  ServesOn story rest course written disk s (Err status) =
      Serves moment left_since may_leave story.options story.start story.script story.disk disk story.written written status

-- what is needed to answer a line more
pub record IsReady {D : Type 0} (seen : D → List ℕ) (may_leave : D → List ℕ → Type 0) (course : Course) (disk : D) (s : Stored) : Type 0 where
  pub kept : IsKept seen may_leave disk s
  pub phases : course.phase ≤ course.lines + 1
  pub lines : course.lines ≤ lines_max
  pub one_line : IsTrue (is_one_line course.begun.items)

-- why lines aren't answered on
abbrev pub IsLineError : Status → Type 0
IsLineError status = ((status ≡ TooLong) ⊎ (status ≡ Disk)) ⊎ ((status ≡ Memory) ⊎ (status ≡ Write))

-- before the first line
pub record IsFirst (course : Course) : Type 0 where
  pub phase : course.phase ≡ 1
  pub marked : course.marked ≡ false
  pub lines : course.lines ≡ 0
  pub begun : course.begun.items ≡ []
