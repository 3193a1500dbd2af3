use Rattle.std.proofs.Common.{◌≡◌, replicate}
use Rattle.pol_board.proofs.board.zeros.Given as goal

abbrev pub invariant-loop : goal.invariant-loop
invariant-loop l = l.all.items ≡ replicate l.counter 0
