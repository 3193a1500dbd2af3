-- The law is a lemma.
use Rattle.document_laws.proofs.NetworkPolicies.{networks_again}
use Rattle.document_laws.proofs.networks.networks_are_read_again.Goals as goal

pub returns : goal.returns
returns c = networks_again
