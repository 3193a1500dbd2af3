use Rattle.std.proofs.Common.{◌≡◌, true}
use Rattle.pol_history.specs.Meet.{has}
use Rattle.board_tests.proofs.looks.change_all.Given as goal

abbrev pub invariant-loop-number : goal.invariant-loop-number
invariant-loop-number g l = has g.N.NodeName.passes l.pass.number ≡ true
