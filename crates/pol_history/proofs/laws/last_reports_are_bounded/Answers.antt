use Rattle.pol_history.proofs.Looks.{report-bounds}
use Rattle.pol_history.proofs.laws.last_reports_are_bounded.Goals as goal

pub returns : goal.returns
returns c = report-bounds
