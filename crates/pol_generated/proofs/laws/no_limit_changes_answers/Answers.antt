-- The law is a lemma.
use Rattle.pol_generated.proofs.SerialRun.{any_limit}
use Rattle.pol_generated.proofs.laws.no_limit_changes_answers.Goals as goal

pub returns : goal.returns
returns c = any_limit
