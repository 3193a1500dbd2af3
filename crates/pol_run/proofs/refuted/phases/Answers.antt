use Rattle.std.proofs.Common.{sym, arith}
use Rattle.pol_run.proofs.Examples.{less_is_same}
use Rattle.pol_run.proofs.refuted.phases.Goals as goal

pub returns-clause-first_phase_is_two : goal.returns-clause-first_phase_is_two
returns-clause-first_phase_is_two c = λ run. less_is_same 1 2 (omega arith) (sym run.right.0)

pub returns-clause-second_phase_is_one : goal.returns-clause-second_phase_is_one
returns-clause-second_phase_is_one c = λ run. less_is_same 1 2 (omega arith) run.right.1.0
