use Rattle.pol_run_laws.proofs.OneMore.{phase_of}
use Rattle.pol_run_laws.proofs.phases.meetings_end_phases.Goals as goal

pub returns : goal.returns
returns c = phase_of
