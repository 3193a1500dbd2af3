use Rattle.std.proofs.Common.{◌≡◌, None}
use Rattle.repo_bench.proofs.filled.fill_with.Given as goal

abbrev pub invariant-loop-number : goal.invariant-loop-number
invariant-loop-number g l = l.repo.prepared ≡ None
