-- The law is a lemma.
use Rattle.document_laws.proofs.NetworkWritable.{printed_networks_again}
use Rattle.document_laws.proofs.networks.texts_of_networks_are_read_again.Goals as goal

pub returns : goal.returns
returns c = printed_networks_again
