use Rattle.std.proofs.Common.{◌≤◌, arith}
use Rattle.pol_model.specs.declared.answer.Fault.TheVariants.{DuplicateEndpoint, UnknownEndpoint}
use Rattle.pol_run.proofs.Examples.{unknown_is_duplicate, some_same}
use Rattle.pol_run.proofs.refuted.refusals.Goals as goal

pub returns-clause-stale_refusal : goal.returns-clause-stale_refusal
returns-clause-stale_refusal c = λ run. let reached : 1 ≤ 0 = run.right.1.0.moment.reached in omega arith

pub returns-clause-stale_refusal_after_phase : goal.returns-clause-stale_refusal_after_phase
returns-clause-stale_refusal_after_phase c = λ run. let reached : 1 ≤ 0 = run.right.1.1.0.moment.reached in omega arith

pub returns-clause-refusal_ahead : goal.returns-clause-refusal_ahead
returns-clause-refusal_ahead c = λ run. let allowed : 1 ≤ 0 = run.right.0.moment.allowed in omega arith

pub returns-clause-other_fault : goal.returns-clause-other_fault
returns-clause-other_fault c = λ run. unknown_is_duplicate (some_same UnknownEndpoint DuplicateEndpoint run.right.0.fault)
