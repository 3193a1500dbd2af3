use Rattle.pol_arena.proofs.TwinRunLemmas.{push_keeps}
use Rattle.pol_arena.proofs.laws.a_push_keeps_nodes.Goals as goal

pub returns : goal.returns
returns g c = push_keeps
