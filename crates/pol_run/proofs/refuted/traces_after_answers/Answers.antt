use Rattle.std.proofs.Common.{◌≤◌, arith}
use Rattle.pol_run.proofs.refuted.traces_after_answers.Goals as goal

pub returns-clause-older_than_refusal : goal.returns-clause-older_than_refusal
returns-clause-older_than_refusal c = λ run. let reached : 2 ≤ 1 = run.right.1.1.1.0.is_moment.reached in omega arith

pub returns-clause-older_than_trace : goal.returns-clause-older_than_trace
returns-clause-older_than_trace c = λ run. let reached : 2 ≤ 1 = run.right.1.1.1.0.is_moment.reached in omega arith

pub returns-clause-older_than_verdict : goal.returns-clause-older_than_verdict
returns-clause-older_than_verdict c = λ run. let reached : 2 ≤ 1 = run.right.1.1.1.0.is_moment.reached in omega arith

pub returns-clause-older_than_not_yet : goal.returns-clause-older_than_not_yet
returns-clause-older_than_not_yet c = λ run. let reached : 2 ≤ 1 = run.right.1.1.1.0.is_moment.reached in omega arith

pub returns-clause-older_than_no_endpoint : goal.returns-clause-older_than_no_endpoint
returns-clause-older_than_no_endpoint c = λ run. let reached : 2 ≤ 1 = run.right.1.1.1.0.is_moment.reached in omega arith

pub returns-clause-older_than_synced : goal.returns-clause-older_than_synced
returns-clause-older_than_synced c = λ run. let reached : 2 ≤ 1 = run.right.1.1.1.0.is_moment.reached in omega arith
