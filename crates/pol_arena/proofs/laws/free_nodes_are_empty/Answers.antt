use Rattle.pol_arena.proofs.PoolRunLemmas.{Contains-free}
use Rattle.pol_arena.proofs.laws.free_nodes_are_empty.Goals as goal

pub returns : goal.returns
returns g c = λ p node sound. Contains-free p node sound
