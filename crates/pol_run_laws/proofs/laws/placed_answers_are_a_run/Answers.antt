-- The law is a lemma.
use Rattle.pol_run_laws.proofs.Law.{placed_answers}
use Rattle.pol_run_laws.proofs.laws.placed_answers_are_a_run.Goals as goal

pub returns : goal.returns
returns c = placed_answers
