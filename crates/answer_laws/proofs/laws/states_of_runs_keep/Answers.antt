-- The law is a lemma.
use Rattle.answer_laws.proofs.StatesOfRuns.{run_keeps}
use Rattle.answer_laws.proofs.laws.states_of_runs_keep.Goals as goal

pub returns : goal.returns
returns c = run_keeps
