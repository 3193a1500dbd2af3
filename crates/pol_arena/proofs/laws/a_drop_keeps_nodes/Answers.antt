use Rattle.pol_arena.proofs.TwinRunLemmas.{drop_keeps}
use Rattle.pol_arena.proofs.laws.a_drop_keeps_nodes.Goals as goal

pub returns : goal.returns
returns g c = drop_keeps
