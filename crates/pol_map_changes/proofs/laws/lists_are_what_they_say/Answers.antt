use Rattle.pol_map_changes.proofs.Differences.{lists_are_what_they_say}
use Rattle.pol_map_changes.proofs.laws.lists_are_what_they_say.Goals as goal

pub returns : goal.returns
returns c = lists_are_what_they_say
