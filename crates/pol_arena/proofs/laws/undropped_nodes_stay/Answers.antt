use Rattle.pol_arena.proofs.TwinRunLemmas.{all_stay}
use Rattle.pol_arena.proofs.laws.undropped_nodes_stay.Goals as goal

pub returns : goal.returns
returns g c = all_stay
