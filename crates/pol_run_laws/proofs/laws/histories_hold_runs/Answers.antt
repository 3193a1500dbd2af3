-- The law is a lemma.
use Rattle.pol_run_laws.proofs.Held.{histories_hold}
use Rattle.pol_run_laws.proofs.laws.histories_hold_runs.Goals as goal

pub returns : goal.returns
returns c = histories_hold
