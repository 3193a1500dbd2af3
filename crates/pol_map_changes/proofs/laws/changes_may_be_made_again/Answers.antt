use Rattle.pol_map_changes.proofs.Differences.{made_again}
use Rattle.pol_map_changes.proofs.laws.changes_may_be_made_again.Goals as goal

pub returns : goal.returns
returns c = made_again
