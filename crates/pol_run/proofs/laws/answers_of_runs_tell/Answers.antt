-- The law is a lemma.
use Rattle.pol_run.proofs.RunsTell.{run_tells}
use Rattle.pol_run.proofs.laws.answers_of_runs_tell.Goals as goal

pub returns : goal.returns
returns c = run_tells
