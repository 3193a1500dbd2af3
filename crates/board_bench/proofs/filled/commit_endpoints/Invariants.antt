use Rattle.std.proofs.Common.{◌≡◌}
use Rattle.board_bench.proofs.filled.commit_endpoints.Given as goal

abbrev pub invariant-loop-number : goal.invariant-loop-number
invariant-loop-number g l = l.pass.number ≡ l.initial.pass.number
