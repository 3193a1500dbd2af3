use Rattle.std.proofs.Common.{◌+◌, ◌*◌}
use Rattle.pol_parallel_lines.proofs.cut.+cut_halves+fn-cut_halves-join+arg2+fn-cut_halves-join+arg3.Given as goal

abbrev pub decreases-join+arg2 : goal.decreases-join+arg2
decreases-join+arg2 g l = 2 * l.left + 1

abbrev pub decreases-join+arg3 : goal.decreases-join+arg3
decreases-join+arg3 g l = 2 * l.left + 1

abbrev pub decreases-cut_halves : goal.decreases-cut_halves
decreases-cut_halves g l = 2 * l.halvings
