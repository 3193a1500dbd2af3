use Rattle.pol_json.proofs.FirstFaults.{network_refused_at_the_first}
use Rattle.pol_json.proofs.laws.the_first_fault_of_a_network_is_told.Goals as goal

pub returns : goal.returns
returns c = network_refused_at_the_first
