-- A generated script that was played has the summary, and what was seen of it holds its rounds.
use Rattle.std.proofs.Common.{◌≡◌, ℕ, List, length, map, ap, ◌∙◌, subst}
use Rattle.std.proofs.lemmas.List.{length-map}
use Rattle.std.specs.List.{zip}
use Rattle.pol_answer.specs.declared.answer.Answer.{Answer}
use Rattle.pol_gen.specs.Generated.{generated}
use Rattle.pol_generated.proofs.AnsweredAt.{holds_rounds}
use Rattle.pol_generated.proofs.ScriptRun.{one_run}
use Rattle.pol_generated.specs.HistoryOfRounds.{IsHistoryOfRounds}
use Rattle.pol_generated.specs.Maps.{HasRoom, most_entries}
use Rattle.pol_generated.specs.OneRun.{IsRunOfRounds}
use Rattle.pol_history.specs.declared.event.HistoryEvent.{HistoryEvent}
use Rattle.pol_model.specs.declared.options.Options.{Options}
use Rattle.pol_run_laws.specs.HistoryOfRun.{IsHistoryOf}
use Rattle.pol_run.specs.Run.{IsRun, readings_of}
use Rattle.pol_run.specs.Spots.{Reading, spots_of}
use Rattle.pol_script.specs.Lines.{lines_of}
use Rattle.pol_script.specs.Reading.{reading_of}
use Rattle.pol_summary.specs.Summary.{summary, summary_text}

module _ (options : Options) (n : ℕ) (readings : List Reading) (answers : List Answer) (room : HasRoom most_entries options) (read : readings ≡ readings_of (generated n))
    (one_each : length answers ≡ length readings) (run : IsRun options (spots_of (zip readings answers))) where
  is_run : IsRunOfRounds options n answers
  is_run = record {
    one_each = one_each ∙ ap (λ (xs : List Reading). length xs) read ∙ length-map (lines_of (generated n)) reading_of;
    run = subst (λ (xs : List Reading). IsRun options (spots_of (zip xs answers))) read run;
  }

  pub is_summary : (text : List ℕ) → text ≡ summary_text answers → text ≡ summary options n
  is_summary text is = is ∙ ap summary_text (one_run options n answers room is_run)

  pub holds : (last : List HistoryEvent) → IsHistoryOf options last (zip readings answers) → IsHistoryOfRounds options n last
  holds last is = holds_rounds options n answers last room is_run (subst (λ (xs : List Reading). IsHistoryOf options last (zip xs answers)) read is)
