use Rattle.pol_run.proofs.Examples.{no_op_is_json}
use Rattle.pol_run.proofs.refuted.kinds.Goals as goal

pub returns-clause-other_line_fault : goal.returns-clause-other_line_fault
returns-clause-other_line_fault c = λ run. no_op_is_json run.right.0

pub returns-clause-phase_for_sync : goal.returns-clause-phase_for_sync
returns-clause-phase_for_sync c = λ run. run.right.0

pub returns-clause-synced_for_phase : goal.returns-clause-synced_for_phase
returns-clause-synced_for_phase c = λ run. run.right.0

pub returns-clause-not_yet_for_trace : goal.returns-clause-not_yet_for_trace
returns-clause-not_yet_for_trace c = λ run. run.right.1.0

pub returns-clause-verdict_for_trace : goal.returns-clause-verdict_for_trace
returns-clause-verdict_for_trace c = λ run. run.right.1.0
