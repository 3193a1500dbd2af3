-- The summary of a generated script: how many of its lines were answered in each way.
use Rattle.std.specs.Prelude.{ℕ, Bool, true, false, List, ◌++◌, codes, count_by}
use Rattle.std.specs.Fmt.{decimal}
use Rattle.pol_mapkey.specs.declared.Word.TheVariants.{Allowed, DeniedByRule, DeniedByDefault}
use Rattle.pol_model.specs.declared.options.Options.{Options}
use Rattle.pol_answer.specs.declared.answer.Answer.{Answer}
use Rattle.pol_answer.specs.declared.answer.Answer.TheVariants as answer
use Rattle.pol_gen.specs.Generated.{generated}
use Rattle.pol_summary.specs.declared.summary.AnswerKind.{AnswerKind}
use Rattle.pol_summary.specs.declared.summary.AnswerKind.TheVariants as kind
use Rattle.pol_run.specs.Run.{readings_of}
use Rattle.pol_run.specs.Serial.{serial_answers}

abbrev pub is_of : AnswerKind → Answer → Bool
is_of kind.Commit (answer.Committed revision identity) = true
is_of kind.Refusal (answer.BadLine fault) = true
is_of kind.Refusal (answer.Refused refused) = true
is_of kind.Allowed (answer.Verdict revision Allowed) = true
is_of kind.DeniedByRule (answer.Verdict revision DeniedByRule) = true
is_of kind.DeniedByDefault (answer.Verdict revision DeniedByDefault) = true
is_of _ _ = false

-- how many of the answers are of the kind
unfoldable pub count_of : AnswerKind → List Answer → ℕ
count_of kind answers = count_by (is_of kind) answers

-- `commits C refused F allowed A denied-by-rule D denied-by-default E`, of these answers
abbrev pub summary_text : List Answer → List ℕ
summary_text answers =
    codes "commits " ++ decimal (count_of kind.Commit answers)
    ++ codes " refused " ++ decimal (count_of kind.Refusal answers)
    ++ codes " allowed " ++ decimal (count_of kind.Allowed answers)
    ++ codes " denied-by-rule " ++ decimal (count_of kind.DeniedByRule answers)
    ++ codes " denied-by-default " ++ decimal (count_of kind.DeniedByDefault answers)
    ++ codes "\n"

-- The summary of the generated script of n rounds. It is counted by a scan of its lines in order, each verdict by
-- the rules after the commits before it.
abbrev pub summary : Options → ℕ → List ℕ
summary options n = summary_text (serial_answers options (readings_of (generated n)))
