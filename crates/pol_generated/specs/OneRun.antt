-- Generated scripts have one run.
use Rattle.std.specs.Prelude.{◌≡◌, ℕ, List, length}
use Rattle.std.specs.List.{zip}
use Rattle.pol_answer.specs.declared.answer.Answer.{Answer}
use Rattle.pol_gen.specs.Generated.{generated}
use Rattle.pol_model.specs.declared.options.Options.{Options}
use Rattle.pol_run.specs.Run.{IsRun, readings_of}
use Rattle.pol_run.specs.Serial.{serial_answers}
use Rattle.pol_run.specs.Spots.{spots_of}
use Rattle.pol_script.specs.Lines.{lines_of}
use Rattle.pol_generated.specs.Maps.{HasRoom, most_entries}

-- The answers are one for each line of the generated script of n rounds, and the lines with them are a run.
pub record IsRunOfRounds (options : Options) (n : ℕ) (answers : List Answer) : Type 0 where
  pub one_each : length answers ≡ length (lines_of (generated n))
  pub run : IsRun options (spots_of (zip (readings_of (generated n)) answers))

-- Where maps have room, the answers in input order are a run: each from the state after the commits of the lines before it,
-- verdicts at the newest revision, and no `synced` line with a row.
abbrev pub SerialAnswersAreARun : Type 0
SerialAnswersAreARun = (options : Options) (n : ℕ) → HasRoom most_entries options
    → IsRunOfRounds options n (serial_answers options (readings_of (generated n)))

-- And there is no other.
abbrev pub HasOneRun : Type 0
HasOneRun = (options : Options) (n : ℕ) (answers : List Answer) → HasRoom most_entries options → IsRunOfRounds options n answers
    → answers ≡ serial_answers options (readings_of (generated n))
