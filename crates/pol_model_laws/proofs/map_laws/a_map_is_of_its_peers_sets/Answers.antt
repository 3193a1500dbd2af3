use Rattle.pol_model_laws.proofs.PeerSets.{map_same}
use Rattle.pol_model_laws.proofs.map_laws.a_map_is_of_its_peers_sets.Goals as goal

pub returns : goal.returns
returns c = map_same
