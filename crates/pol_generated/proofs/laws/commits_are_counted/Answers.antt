-- The law is a lemma.
use Rattle.pol_generated.proofs.Counted.{commits_counted}
use Rattle.pol_generated.proofs.laws.commits_are_counted.Goals as goal

pub returns : goal.returns
returns c = commits_counted
