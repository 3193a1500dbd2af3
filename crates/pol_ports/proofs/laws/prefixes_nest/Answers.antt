-- The law is a lemma.
use Rattle.pol_ports.proofs.Containing.{nested}
use Rattle.pol_ports.proofs.laws.prefixes_nest.Goals as goal

pub returns : goal.returns
returns c = nested
