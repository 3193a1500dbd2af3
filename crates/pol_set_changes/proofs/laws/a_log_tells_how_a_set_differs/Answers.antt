use Rattle.pol_set_changes.proofs.Differences.{since_tells_difference}
use Rattle.pol_set_changes.proofs.laws.a_log_tells_how_a_set_differs.Goals as goal

pub returns : goal.returns
returns c = since_tells_difference
