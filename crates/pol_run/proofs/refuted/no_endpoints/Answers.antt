use Rattle.std.proofs.Common.{◌≤◌, arith}
use Rattle.pol_run.proofs.Examples.{web_since, some_is_none}
use Rattle.pol_run.proofs.refuted.no_endpoints.Goals as goal

pub returns-clause-stale_no_endpoint : goal.returns-clause-stale_no_endpoint
returns-clause-stale_no_endpoint c = λ run. let reached : 1 ≤ 0 = run.right.1.0.is_moment.reached in omega arith

pub returns-clause-no_endpoint_of_the_live : goal.returns-clause-no_endpoint_of_the_live
returns-clause-no_endpoint_of_the_live c = λ run. some_is_none (web_since 1) run.right.1.0.absent
