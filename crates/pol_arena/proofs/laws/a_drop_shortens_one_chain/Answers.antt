use Rattle.pol_arena.proofs.TwinRunLemmas.{drop_shortens}
use Rattle.pol_arena.proofs.laws.a_drop_shortens_one_chain.Goals as goal

pub returns : goal.returns
returns g c = drop_shortens
