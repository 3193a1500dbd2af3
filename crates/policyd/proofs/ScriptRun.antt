-- What is printed for a script is a run of the policy machine.
use Rattle.std.proofs.Common.{◌≡◌, ℕ, ◌^◌, ◌<◌, ◌≤◌, Bool, true, false, not, ◌||◌, nat_lt, List, length, map, Option, Some, IsTrue, refl, ap, sym, ◌∙◌, subst, arith, ltb-false}
use Rattle.std.specs.Prelude.{if◌then◌else◌}
use Rattle.std.specs.List.{list_any, zip}
use Rattle.std.specs.Io.KnownBytes.{Appends}
use Rattle.std.proofs.lemmas.List.{length-map}
use Rattle.pol_streams.specs.Bytes.{AppendsPart}
use Rattle.pol_answer.specs.Text.{texts_of}
use Rattle.pol_answer.specs.declared.answer.Answer.{Answer}
use Rattle.pol_history.specs.declared.event.HistoryEvent.{HistoryEvent}
use Rattle.pol_history.specs.Legal.{IsLegal}
use Rattle.pol_model.specs.declared.options.Options.{Options}
use Rattle.pol_run_laws.specs.HistoryOfRun.{IsHistoryOf}
use Rattle.pol_script.specs.Lines.{lines_of}
use Rattle.pol_script.specs.Reading.{reading_of}
use Rattle.pol_run.specs.Run.{IsRun, IsRunOf, is_marked, readings_of}
use Rattle.pol_run.specs.Spots.{spots_of}
use Rattle.pol_run.proofs.ToldHistory.{run_history_told}
use Rattle.policyd.specs.Headline.{HoldsText, LeavesHistory, WritesRun, WritesPartOfRun}
use Rattle.pol_status.specs.Limits.{fits_limits, input_max, lines_max}

-- lines that were played and printed
pub printed_run : (options : Options) (script text : List ℕ) (answers : List Answer) (marked : Bool)
    → length answers ≡ length (readings_of script) → IsRun options (spots_of (zip (readings_of script) answers))
    → text ≡ texts_of answers → marked ≡ list_any is_marked answers → IsRunOf options script text (if marked then 1 else 0)
printed_run options script text answers marked one_each run printed marks = record {
  answers = answers;
  one_each = one_each ∙ length-map (lines_of script) reading_of;
  text = printed;
  run = run;
  status = ap (λ (b : Bool). if b then 1 else 0) marks;
}

-- and the history that was seen in the end holds them
pub printed_history : (options : Options) (script text : List ℕ) (answers : List Answer) (history : List HistoryEvent)
    → length answers ≡ length (readings_of script) → IsLegal options history → IsHistoryOf options history (zip (readings_of script) answers)
    → text ≡ texts_of answers → HoldsText options script text history
printed_history options script text answers history one_each legal holds printed = record {
  answers = answers;
  one_each = one_each ∙ length-map (lines_of script) reading_of;
  texts = printed;
  legal = legal;
  holds = holds;
}

-- a script within the limits has few lines
few_lines : (long many : Bool) (n : ℕ) → nat_lt lines_max n ≡ many → not (long || many) ≡ true → n < 2 ^ 64
few_lines false false n is within = let few : n ≤ lines_max = ltb-false lines_max n is in omega (arith, few)
few_lines false true n is within = absurd cc
few_lines true many n is within = absurd cc

module _ (options : Options) (old new : Option (List ℕ)) (script text : List ℕ) (status : ℕ) (run : IsRunOf options script text status) where
  -- all answers were written
  pub writes_run : (ended : ℕ) → IsTrue (fits_limits script) → ended ≡ status → Appends old new text → WritesRun options old new script ended
  writes_run ended within same written =
      let few = few_lines (nat_lt input_max (length script)) (nat_lt lines_max (length (lines_of script))) (length (lines_of script)) refl within in
      record {
        text = text;
        run = subst (λ (s : ℕ). IsRunOf options script text s) (sym same) run;
        history = λ other. run_history_told options script text ended other few;
        written = written;
      }

  -- some of them were
  pub writes_part : AppendsPart old new text → WritesPartOfRun options old new script
  writes_part written = record { text = text; status = status; run = run; written = written }

module _ (options : Options) (old new : Option (List ℕ)) (script text : List ℕ) (history : List HistoryEvent) (holds : HoldsText options script text history) where
  -- all answers were written, and the history is given back
  pub leaves_history : (last : Option (List HistoryEvent)) → last ≡ Some history → Appends old new text → LeavesHistory options old new script last
  leaves_history last seen written = record { text = text; history = history; seen = seen; holds = holds; written = written }
