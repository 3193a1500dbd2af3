-- The law is two lemmas.
use Rattle.pol_generated.proofs.ScriptRun.{one_run}
use Rattle.pol_generated.proofs.SerialRun.{serial_rounds}
use Rattle.pol_generated.proofs.laws.generated_scripts_have_one_run.Goals as goal

pub returns-clause-run : goal.returns-clause-run
returns-clause-run c = serial_rounds

pub returns-clause-one : goal.returns-clause-one
returns-clause-one c = one_run
