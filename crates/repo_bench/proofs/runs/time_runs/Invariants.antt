use Rattle.std.proofs.Common.{◌≡◌, None}
use Rattle.repo_bench.proofs.runs.time_runs.Given as goal

abbrev pub invariant-loop-run : goal.invariant-loop-run
invariant-loop-run g l = l.repo.prepared ≡ None
