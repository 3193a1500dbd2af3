-- The law of runs: what is to be proved of lines that a legal history places.
use Rattle.std.specs.Prelude.{◌≡◌, ℕ, List, length, slice_get, Some}
use Rattle.std.specs.List.{zip}
use Rattle.pol_model.specs.declared.options.Options.{Options}
use Rattle.pol_script.specs.Lines.{lines_of}
use Rattle.pol_answer.specs.Text.{texts_of}
use Rattle.pol_answer.specs.declared.answer.Answer.{Answer}
use Rattle.pol_run.specs.Run.{IsRun, IsRunOf, readings_of, status_of}
use Rattle.pol_run.specs.Spots.{Line, Reading, spots_of}
use Rattle.pol_history.specs.declared.event.HistoryEvent.{HistoryEvent}
use Rattle.pol_history.specs.Grows.{PassState}
use Rattle.pol_history.specs.Legal.{IsLegal}
use Rattle.pol_run_laws.specs.Cut.{AreSeated, answers_to, script_of}
use Rattle.pol_run_laws.specs.HistoryOfRun.{IsHistoryOf}
use Rattle.pol_run_laws.specs.Phases.{ArePlayedInPhases}
use Rattle.pol_run_laws.specs.Placed.{IsPlaced}
use Rattle.pol_run_laws.specs.Seats.{AreNewSeats, ArePhases}

-- The law of runs: lines that a legal history places are a run of the policy machine.
abbrev pub PlacedLinesAreARun : Type 0
PlacedLinesAreARun = (options : Options) (history : List HistoryEvent) (lines : List Line)
    → IsLegal options history → IsPlaced options history lines → IsRun options (spots_of lines)

-- the same of a script: the texts of its answers, with the status, are a run
abbrev pub PlacedAnswersAreARun : Type 0
PlacedAnswersAreARun = (options : Options) (history : List HistoryEvent) (script : List ℕ) (answers : List Answer)
    → length answers ≡ length (lines_of script)
    → IsLegal options history → IsPlaced options history (zip (readings_of script) answers)
    → IsRunOf options script (texts_of answers) (status_of answers)

-- and the history holds what was written
abbrev pub HistoriesHoldTheRun : Type 0
HistoriesHoldTheRun = (options : Options) (history : List HistoryEvent) (lines : List Line)
    → IsLegal options history → IsPlaced options history lines → IsHistoryOf options history lines

-- The law of phases: where the sessions of a script play it phase after phase, what any of them has seen in the end is a
-- legal history, in which the lines were played in phases.
abbrev pub PhasesArePlayed : Type 0
PhasesArePlayed = (options : Options) (handed_out : List ℕ) (olds news : List PassState) (lines : List Reading) (told : List (List (List Answer)))
    → AreNewSeats handed_out olds → AreSeated (length olds) lines
    → ArePhases options handed_out olds (script_of (length olds) lines) told news
    → (k : ℕ) (seat : PassState) → slice_get news k ≡ Some seat
    → IsLegal options seat.has.history × ArePlayedInPhases options seat.has.history (zip lines (answers_to lines told))

-- so they are a run of the policy machine
abbrev pub PhasesAreARun : Type 0
PhasesAreARun = (options : Options) (handed_out : List ℕ) (olds news : List PassState) (lines : List Reading) (told : List (List (List Answer)))
    → AreNewSeats handed_out olds → AreSeated (length olds) lines
    → ArePhases options handed_out olds (script_of (length olds) lines) told news
    → (k : ℕ) (seat : PassState) → slice_get news k ≡ Some seat
    → IsRun options (spots_of (zip lines (answers_to lines told)))

-- and what any of them has seen in the end holds what was written
abbrev pub PhasesAreOfAHistory : Type 0
PhasesAreOfAHistory = (options : Options) (handed_out : List ℕ) (olds news : List PassState) (lines : List Reading) (told : List (List (List Answer)))
    → AreNewSeats handed_out olds → AreSeated (length olds) lines
    → ArePhases options handed_out olds (script_of (length olds) lines) told news
    → (k : ℕ) (seat : PassState) → slice_get news k ≡ Some seat
    → IsHistoryOf options seat.has.history (zip lines (answers_to lines told))
