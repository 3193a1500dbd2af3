use Rattle.pol_arena.proofs.PoolRunLemmas.{write_changes_one}
use Rattle.pol_arena.proofs.laws.a_write_changes_one_node.Goals as goal

pub returns : goal.returns
returns g c = write_changes_one
