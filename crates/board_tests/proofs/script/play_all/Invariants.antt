use Rattle.std.proofs.Common.{◌≡◌, true}
use Rattle.pol_history.specs.Meet.{has}
use Rattle.board_tests.proofs.script.play_all.Given as goal

abbrev pub invariant-loop-line : goal.invariant-loop-line
invariant-loop-line g l = has g.N.NodeName.passes l.pass.number ≡ true
