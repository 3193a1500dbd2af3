use Rattle.pol_arena.proofs.PoolLemmas.{next_is_free}
use Rattle.pol_arena.proofs.laws.the_next_node_is_free.Goals as goal

pub returns : goal.returns
returns g c = λ p sound. next_is_free p.slots p.free p.spare sound
