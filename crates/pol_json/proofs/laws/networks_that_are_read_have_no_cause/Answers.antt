use Rattle.pol_json.proofs.FirstFaults.{network_is_sound}
use Rattle.pol_json.proofs.laws.networks_that_are_read_have_no_cause.Goals as goal

pub returns : goal.returns
returns c = network_is_sound
