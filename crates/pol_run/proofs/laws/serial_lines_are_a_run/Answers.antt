-- The law is a lemma.
use Rattle.pol_run.proofs.SerialLaw.{serial_run}
use Rattle.pol_run.proofs.laws.serial_lines_are_a_run.Goals as goal

pub returns : goal.returns
returns c = serial_run
