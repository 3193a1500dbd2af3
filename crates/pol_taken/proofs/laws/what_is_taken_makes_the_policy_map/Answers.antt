use Rattle.pol_taken.proofs.Agreed.{taken_map}
use Rattle.pol_taken.proofs.laws.what_is_taken_makes_the_policy_map.Goals as goal

pub returns : goal.returns
returns c = taken_map
