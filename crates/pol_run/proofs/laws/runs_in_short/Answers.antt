-- The laws are lemmas.
use Rattle.pol_run.proofs.InShort.{run_in_short}
use Rattle.pol_run.proofs.FromShort.{run_from_short}
use Rattle.pol_run.proofs.laws.runs_in_short.Goals as goal

pub returns : goal.returns
returns c = record { said = run_in_short; all = run_from_short }
