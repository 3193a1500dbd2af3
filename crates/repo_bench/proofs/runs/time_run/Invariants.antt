use Rattle.std.proofs.Common.{◌≡◌, None}
use Rattle.repo_bench.proofs.runs.time_run.Given as goal

abbrev pub invariant-loop-step : goal.invariant-loop-step
invariant-loop-step g l = l.repo.prepared ≡ None
