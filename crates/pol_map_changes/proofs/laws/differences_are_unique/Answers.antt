use Rattle.pol_map_changes.proofs.Differences.{differences_are_unique}
use Rattle.pol_map_changes.proofs.laws.differences_are_unique.Goals as goal

pub returns : goal.returns
returns c = differences_are_unique
