use Rattle.std.proofs.Common.{◌≡◌}
use Rattle.board_bench.proofs.changes.time_turns.Given as goal

abbrev pub invariant-loop-turn : goal.invariant-loop-turn
invariant-loop-turn g l = l.seats.commits.number ≡ l.initial.seats.commits.number
