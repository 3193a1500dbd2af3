-- The law is a lemma.
use Rattle.pol_generated.proofs.AnsweredAt.{holds_rounds}
use Rattle.pol_generated.proofs.laws.histories_hold_generated_scripts.Goals as goal

pub returns : goal.returns
returns c = holds_rounds
