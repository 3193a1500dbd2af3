use Rattle.pol_run_laws.proofs.ReadSessions.{readings_seated}
use Rattle.pol_run_laws.proofs.phases.lines_are_seated.Goals as goal

pub returns : goal.returns
returns c = readings_seated
