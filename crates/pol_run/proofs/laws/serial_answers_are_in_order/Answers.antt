-- The law is a lemma.
use Rattle.pol_run.proofs.SerialAnswers.{serial_answers_lines}
use Rattle.pol_run.proofs.laws.serial_answers_are_in_order.Goals as goal

pub returns : goal.returns
returns c = serial_answers_lines
