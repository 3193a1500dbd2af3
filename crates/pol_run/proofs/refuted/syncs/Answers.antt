use Rattle.std.proofs.Common.{◌≤◌, arith}
use Rattle.pol_run.proofs.refuted.syncs.Goals as goal

pub returns-clause-stale_sync : goal.returns-clause-stale_sync
returns-clause-stale_sync c = λ run. let reached : 1 ≤ 0 = run.right.1.0.is_moment.reached in omega arith

pub returns-clause-sync_ahead : goal.returns-clause-sync_ahead
returns-clause-sync_ahead c = λ run. let allowed : 1 ≤ 0 = run.right.0.is_moment.allowed in omega arith
