-- The law is a lemma.
use Rattle.answer_laws.proofs.NumbersOfRuns.{run_read}
use Rattle.answer_laws.proofs.laws.answers_of_runs_are_small.Goals as goal

pub returns : goal.returns
returns c = run_read
