use Rattle.pol_map_changes.proofs.Differences.{later_change_stands}
use Rattle.pol_map_changes.proofs.laws.the_later_change_stands.Goals as goal

pub returns : goal.returns
returns c = later_change_stands
