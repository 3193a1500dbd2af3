use Rattle.std.proofs.Common.{◌≡◌, None}
use Rattle.repo_bench.proofs.time_all.Given as goal

abbrev pub invariant-loop-kind : goal.invariant-loop-kind
invariant-loop-kind g l = l.repo.prepared ≡ None
