use Rattle.std.proofs.Common.{◌≡◌, true}
use Rattle.pol_history.specs.Meet.{has}
use Rattle.board_bench.proofs.looks.change_on.Given as goal

abbrev pub invariant-loop-turn : goal.invariant-loop-turn
invariant-loop-turn g l = has g.N.NodeName.passes l.pass.number ≡ true
