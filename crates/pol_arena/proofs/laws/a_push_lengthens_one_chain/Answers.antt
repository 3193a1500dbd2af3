use Rattle.pol_arena.proofs.TwinRunLemmas.{push_lengthens}
use Rattle.pol_arena.proofs.laws.a_push_lengthens_one_chain.Goals as goal

pub returns : goal.returns
returns g c = push_lengthens
