-- The law is a lemma.
use Rattle.pol_run_laws.proofs.Law.{placed_lines}
use Rattle.pol_run_laws.proofs.laws.placed_lines_are_a_run.Goals as goal

pub returns : goal.returns
returns c = placed_lines
