use Rattle.std.proofs.Common.{◌≡◌}
use Rattle.pol_board.specs.Counts.{new_passes}
use Rattle.pol_board.proofs.board.Board.with_readers.Given as goal

abbrev pub invariant-loop-number : goal.invariant-loop-number
invariant-loop-number g l = l.passes.items ≡ new_passes l.number
