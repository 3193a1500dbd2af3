use Rattle.document_laws.proofs.NetworkWhole.{network_whole}
use Rattle.document_laws.proofs.accepted.accepted_networks_are_whole.Goals as goal

pub returns : goal.returns
returns c = network_whole
