use Rattle.pol_arena.proofs.PoolRunLemmas.{IsSound-after_all}
use Rattle.pol_arena.proofs.laws.pools_are_sound.Goals as goal

pub returns : goal.returns
returns g c = λ p os sound allowed. IsSound-after_all p os sound allowed
