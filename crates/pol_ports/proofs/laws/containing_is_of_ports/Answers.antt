-- Each direction of the law is a lemma.
use Rattle.pol_ports.proofs.Containing.{contains_ports, contains_from_ports}
use Rattle.pol_ports.proofs.laws.containing_is_of_ports.Goals as goal

pub returns : goal.returns
returns c = λ p q. (contains_ports p q, contains_from_ports p q)
