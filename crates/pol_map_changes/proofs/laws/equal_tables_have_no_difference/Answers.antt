use Rattle.pol_map_changes.proofs.Differences.{none_differs}
use Rattle.pol_map_changes.proofs.laws.equal_tables_have_no_difference.Goals as goal

pub returns : goal.returns
returns c = none_differs
