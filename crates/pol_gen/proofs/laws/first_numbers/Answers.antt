use Rattle.std.proofs.Common.{refl}
use Rattle.pol_gen.specs.Draws.{after}
use Rattle.pol_gen.proofs.laws.first_numbers.Goals as goal

pub returns : goal.returns
unfolding after
returns c = record { number = refl; draw = refl }
