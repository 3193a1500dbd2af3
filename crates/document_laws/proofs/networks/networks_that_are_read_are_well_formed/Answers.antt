-- The laws are lemmas.
use Rattle.document_laws.proofs.NetworkPolicies.{networks_again, read_network_is_well_formed}
use Rattle.document_laws.proofs.networks.networks_that_are_read_are_well_formed.Goals as goal

pub returns : goal.returns
returns c = record { well = read_network_is_well_formed; again = λ d policy is. networks_again policy (read_network_is_well_formed d policy is) }
