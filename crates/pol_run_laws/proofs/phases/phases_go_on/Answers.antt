use Rattle.pol_run_laws.proofs.OneMore.{fault_more, line_more, phase_more, session_more}
use Rattle.pol_run_laws.proofs.phases.phases_go_on.Goals as goal

pub returns : goal.returns
returns c = record { command = line_more; fault = fault_more; session = session_more; phase = phase_more }
