-- What sessions answered to a script that was cut is a run, and what they have seen in the end holds it.
use Rattle.std.proofs.Common.{◌≡◌, ℕ, List, length, map, Option, Some, sym, ap, subst, ◌∙◌}
use Rattle.std.specs.List.{zip}
use Rattle.pol_model.specs.declared.options.Options.{Options}
use Rattle.pol_answer.specs.declared.answer.Answer.{Answer}
use Rattle.pol_script.specs.declared.command.Command.{Command}
use Rattle.pol_history.specs.declared.event.HistoryEvent.{HistoryEvent}
use Rattle.pol_history.specs.Legal.{IsLegal}
use Rattle.pol_run_laws.specs.Cut.{AreSeated, answers_to, script_of}
use Rattle.pol_run_laws.specs.HistoryOfRun.{IsHistoryOf}
use Rattle.pol_run_laws.specs.Seats.{ArePhases}
use Rattle.pol_run_laws.proofs.Held.{histories_hold}
use Rattle.pol_run_laws.proofs.Law.{placed_lines}
use Rattle.pol_run_laws.proofs.Phased.{are_placed}
use Rattle.pol_run_laws.proofs.PutBack.{one_each}
use Rattle.pol_run_laws.proofs.SeatedLines.{phases_played}
use Rattle.pol_run.specs.Run.{IsRun}
use Rattle.pol_run.specs.Spots.{Reading, spots_of}
use Rattle.pol_phases.specs.declared.mark.Mark.{Mark}
use Rattle.pol_phases.specs.Marks.{mark_of}
use Rattle.pol_sessions.specs.Sessions.{IsScriptPlayed}

-- What holds of a run that was played so: the answers are put back, and the history is what a pass had seen.
pub record IsHeld (options : Options) (lines : List Reading) (answers : List Answer) (last : List HistoryEvent) : Type 0 where
  pub one_answer : length answers ≡ length lines
  pub run : IsRun options (spots_of (zip lines answers))
  pub legal : IsLegal options last
  pub history : IsHistoryOf options last (zip lines answers)

pub held : (options : Options) (sessions : ℕ) (lines : List Reading) (told : List (List (List Answer))) (last : List HistoryEvent) (answers : List Answer)
    → AreSeated sessions lines → IsScriptPlayed options sessions (script_of sessions lines) told last → answers ≡ answers_to lines told → IsHeld options lines answers last
held options sessions lines told last answers seated played is =
    let seats : AreSeated (length played.seats) lines = subst (λ (n : ℕ). AreSeated n lines) (sym played.as_many) seated in
    let phases : ArePhases options played.handed_out played.seats (script_of (length played.seats) lines) told played.after =
    subst (λ (n : ℕ). ArePhases options played.handed_out played.seats (script_of n lines) told played.after) (sym played.as_many) played.are in
    let found = phases_played options played.handed_out played.seats played.after lines told played.new seats phases played.k played.seat played.there in
    let placed = are_placed options played.seat.has.history (zip lines (answers_to lines told)) found.1 in record {
      one_answer = ap (λ (as_told : List Answer). length as_told) is ∙ one_each 1 lines told;
      run = subst (λ (as_told : List Answer). IsRun options (spots_of (zip lines as_told))) (sym is) (placed_lines options played.seat.has.history (zip lines (answers_to lines told)) found.0 placed);
      legal = subst (λ (history : List HistoryEvent). IsLegal options history) (sym played.seen) found.0;
      history = subst (λ (history : List HistoryEvent). IsHistoryOf options history (zip lines answers)) (sym played.seen)
          (subst (λ (as_told : List Answer). IsHistoryOf options played.seat.has.history (zip lines as_told)) (sym is)
          (histories_hold options played.seat.has.history (zip lines (answers_to lines told)) found.0 placed));
    }

abbrev with_limit : Options → Option ℕ → Options
with_limit options limit = record { mode = options.mode; localhost = options.localhost; map_max = limit }

-- the same of options whose limit was taken out, and of answers that were put back by the marks of the lines
pub held_by : (options : Options) (limit sessions : ℕ) (lines : List Reading) (phases : List (List (List Command))) (marks : List Mark) (told : List (List (List Answer))) (last : List HistoryEvent)
    (answers : List Answer) → options.map_max ≡ Some limit → AreSeated sessions lines → phases ≡ script_of sessions lines → marks ≡ map mark_of lines
    → IsScriptPlayed (with_limit options (Some limit)) sessions phases told last
    → ((these : List Reading) → marks ≡ map mark_of these → answers ≡ answers_to these told) → IsHeld options lines answers last
held_by options limit sessions lines phases marks told last answers is seated cut marked played back =
    let same : with_limit options (Some limit) ≡ options = ap (with_limit options) (sym is) in
    let of_these = subst (λ (o : Options). IsScriptPlayed o sessions phases told last) same played in
    held options sessions lines told last answers seated (subst (λ (ps : List (List (List Command))). IsScriptPlayed options sessions ps told last) cut of_these) (back lines marked)
