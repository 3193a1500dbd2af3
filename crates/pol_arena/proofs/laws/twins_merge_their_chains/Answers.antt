use Rattle.pol_arena.proofs.TwinRunLemmas.{merges}
use Rattle.pol_arena.proofs.laws.twins_merge_their_chains.Goals as goal

pub returns : goal.returns
returns g c = merges
