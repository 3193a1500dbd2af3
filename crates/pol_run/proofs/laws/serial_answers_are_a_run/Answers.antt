-- The law is a lemma.
use Rattle.pol_run.proofs.SerialAnswers.{serial_answers_run}
use Rattle.pol_run.proofs.laws.serial_answers_are_a_run.Goals as goal

pub returns : goal.returns
returns c = serial_answers_run
