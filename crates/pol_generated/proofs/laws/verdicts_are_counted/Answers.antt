-- The law is a lemma.
use Rattle.pol_generated.proofs.Counted.{verdicts_counted}
use Rattle.pol_generated.proofs.laws.verdicts_are_counted.Goals as goal

pub returns : goal.returns
returns c = verdicts_counted
