use Rattle.pol_map_changes.proofs.Differences.{whole_is_difference}
use Rattle.pol_map_changes.proofs.laws.the_whole_is_a_difference.Goals as goal

pub returns : goal.returns
returns c = whole_is_difference
