use Rattle.pol_arena.proofs.TwinRunLemmas.{walks_chains}
use Rattle.pol_arena.proofs.laws.a_walk_goes_along_the_chain.Goals as goal

pub returns : goal.returns
returns g c = walks_chains
