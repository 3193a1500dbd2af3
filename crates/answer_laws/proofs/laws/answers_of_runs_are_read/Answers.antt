-- The law is a lemma.
use Rattle.answer_laws.proofs.PartsOfRuns.{run_parts}
use Rattle.answer_laws.proofs.laws.answers_of_runs_are_read.Goals as goal

pub returns : goal.returns
returns c = run_parts
