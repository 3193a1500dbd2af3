use Rattle.pol_arena.proofs.PoolRunLemmas.{stays_after_all}
use Rattle.pol_arena.proofs.laws.nodes_in_use_stay.Goals as goal

pub returns : goal.returns
returns g c = λ p os node value sound allowed leave at. stays_after_all p os node value sound allowed leave at
