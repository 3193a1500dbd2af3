-- The laws are lemmas.
use Rattle.pol_json.proofs.Keys.{name_of_network, namespace_of_network}
use Rattle.pol_json.proofs.laws.names_of_networks_have_their_forms.Goals as goal

pub returns : goal.returns
returns c = record { name = name_of_network; namespace = namespace_of_network }
