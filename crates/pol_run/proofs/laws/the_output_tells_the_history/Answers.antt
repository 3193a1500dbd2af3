-- The laws are lemmas.
use Rattle.pol_run.proofs.TextHistory.{runs_commit_alike}
use Rattle.pol_run.proofs.ToldHistory.{run_history_told}
use Rattle.pol_run.proofs.laws.the_output_tells_the_history.Goals as goal

pub returns : goal.returns
returns c = record { commits = runs_commit_alike; history = run_history_told }
