-- The law is a lemma.
use Rattle.pol_netpol.proofs.Kept.{keeps}
use Rattle.pol_netpol.proofs.laws.keeps_its_meaning.Goals as goal

pub returns : goal.returns
returns c = keeps
