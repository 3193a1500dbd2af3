-- What the program promises of what it wrote, and how it ended.
use Rattle.std.specs.Prelude.{◌≡◌, ℕ, Bool, not, if◌then◌else◌, List, length, Option, Some}
use Rattle.std.specs.Io.KnownBytes.{Appends}
use Rattle.std.specs.List.{zip}
use Rattle.pol_streams.specs.Bytes.{AppendsPart}
use Rattle.pol_answer.specs.Text.{texts_of}
use Rattle.pol_answer.specs.declared.answer.Answer.{Answer}
use Rattle.pol_compare.specs.declared.finding.Finding.{Finding}
use Rattle.pol_compare.specs.Finding.{IsFinding, is_same}
use Rattle.pol_compare.specs.Text.{finding_text}
use Rattle.pol_crash_drill.specs.Drill.{IsDrill}
use Rattle.pol_history.specs.declared.event.HistoryEvent.{HistoryEvent}
use Rattle.pol_generated.specs.HistoryOfRounds.{IsHistoryOfRounds}
use Rattle.pol_history.specs.Legal.{IsLegal}
use Rattle.pol_map_dump.specs.AtEnd.{is_live, map_text}
use Rattle.pol_model.specs.declared.options.Options.{Options}
use Rattle.pol_run_laws.specs.HistoryOfRun.{IsHistoryOf}
use Rattle.pol_script.specs.Lines.{lines_of}
use Rattle.pol_run.specs.History.{history_of}
use Rattle.pol_run.specs.Run.{IsRunOf, readings_of}
use Rattle.pol_run.specs.Spots.{spots_of}
use Rattle.pol_run.specs.Told.{history_told}

-- What was written is the text of a run of the policy machine on the script, which has this status. Whichever answers
-- witness the run, its history is the one that is read from the script and the text.
pub record WritesRun (options : Options) (old new : Option (List ℕ)) (script : List ℕ) (status : ℕ) : Type 0 where
  pub text : List ℕ
  pub run : IsRunOf options script text status
  pub history : (other : IsRunOf options script text status)
      → history_of (spots_of (zip (readings_of script) other.answers)) ≡ history_told script text
  pub written : Appends old new text

-- what was written is the first part of such a text
pub record WritesPartOfRun (options : Options) (old new : Option (List ℕ)) (script : List ℕ) : Type 0 where
  pub text : List ℕ
  pub status : ℕ
  pub run : IsRunOf options script text status
  pub written : AppendsPart old new text

-- The history is legal and holds what the text says: its commits are those of the run, each session's by a pass of its own,
-- and it has each map that was read and each report that a `synced` line speaks of.
pub record HoldsText (options : Options) (script text : List ℕ) (history : List HistoryEvent) : Type 0 where
  pub answers : List Answer
  pub one_each : length answers ≡ length (lines_of script)
  pub texts : text ≡ texts_of answers
  pub legal : IsLegal options history
  pub holds : IsHistoryOf options history (zip (readings_of script) answers)

-- what was written is such a text, of the history that was seen in the end
pub record LeavesHistory (options : Options) (old new : Option (List ℕ)) (script : List ℕ) (last : Option (List HistoryEvent)) : Type 0 where
  pub text : List ℕ
  pub history : List HistoryEvent
  pub seen : last ≡ Some history
  pub holds : HoldsText options script text history
  pub written : Appends old new text

-- what was seen of a generated script in the end: a legal history whose commits are its requests, in order, with the
-- published map of each verdict
pub record LeavesRounds (options : Options) (rounds : ℕ) (last : Option (List HistoryEvent)) : Type 0 where
  pub history : List HistoryEvent
  pub seen : last ≡ Some history
  pub legal : IsLegal options history
  pub holds : IsHistoryOfRounds options rounds history

-- What was written is the map of the endpoint of the name at the end of the script, and the status is 0; or that none of the
-- name is live there, and it is 1.
pub record WritesMap (options : Options) (name : List ℕ) (old new : Option (List ℕ)) (script : List ℕ) (status : ℕ) : Type 0 where
  pub written : Appends old new (map_text options name script)
  pub marked : status ≡ (if is_live options name script then 0 else 1)

-- the line tells what is found of the text, and is marked where it isn't that two tables say the same
pub record TellsFinding (text line : List ℕ) (marked : Bool) : Type 0 where
  pub finding : Finding
  pub is_finding : IsFinding text finding
  pub told : line ≡ finding_text finding
  pub mark : marked ≡ not (is_same finding)

-- what was written tells what is found of the two tables of the text, and the status is 0 where they say the same, else 1
pub record WritesFinding (old new : Option (List ℕ)) (text : List ℕ) (status : ℕ) : Type 0 where
  pub finding : Finding
  pub is_finding : IsFinding text finding
  pub written : Appends old new (finding_text finding)
  pub marked : status ≡ (if is_same finding then 0 else 1)

-- what was written is the first part of that
pub record WritesPartOfFinding (old new : Option (List ℕ)) (text : List ℕ) : Type 0 where
  pub finding : Finding
  pub is_finding : IsFinding text finding
  pub written : AppendsPart old new (finding_text finding)

-- What was written is what a drill of a crash at that call of the disk writes: the answers that come before it, and how many
-- requests are found behind it. The status is that of the answers.
pub record WritesDrill (options : Options) (call : ℕ) (old new : Option (List ℕ)) (script : List ℕ) (status : ℕ) : Type 0 where
  pub text : List ℕ
  pub drill : IsDrill options call (readings_of script) text status
  pub written : Appends old new text

-- what was written is the first part of such a text
pub record WritesPartOfDrill (options : Options) (call : ℕ) (old new : Option (List ℕ)) (script : List ℕ) : Type 0 where
  pub text : List ℕ
  pub status : ℕ
  pub drill : IsDrill options call (readings_of script) text status
  pub written : AppendsPart old new text
