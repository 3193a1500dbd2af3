use Rattle.std.proofs.Common.{◌≤◌, arith}
use Rattle.pol_run.proofs.refuted.traces_after_rows.Goals as goal

pub returns : goal.returns
returns c = λ run. let reached : 2 ≤ 1 = run.right.1.1.1.0.is_moment.reached in omega arith
