use Rattle.std.proofs.Common.{sym, ◌∙◌}
use Rattle.pol_answer.proofs.TextsTell.{texts_tell}
use Rattle.answer_laws.proofs.NumbersOfRuns.{run_read}
use Rattle.answer_laws.proofs.PartsOfRuns.{run_parts}
use Rattle.answer_laws.proofs.SizesLeft.{all_left}
use Rattle.answer_laws.proofs.laws.the_output_tells_the_answers.Goals as goal

pub returns : goal.returns
returns c = record {
  all = λ options other script written ended other_ended a b few.
      texts_tell a.answers b.answers (run_parts options script written ended a few) (run_parts other script written other_ended b few) (sym a.text ∙ b.text);
  by_lines = λ options other script written ended other_ended a b small sizes other_sizes.
      texts_tell a.answers b.answers (all_left a.answers (run_read options script written ended a small) sizes)
      (all_left b.answers (run_read other script written other_ended b small) other_sizes) (sym a.text ∙ b.text);
}
