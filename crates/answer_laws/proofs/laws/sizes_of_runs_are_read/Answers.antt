-- The law is a lemma.
use Rattle.answer_laws.proofs.SizesOfRuns.{run_sizes}
use Rattle.answer_laws.proofs.laws.sizes_of_runs_are_read.Goals as goal

pub returns : goal.returns
returns c = run_sizes
