use Rattle.std.proofs.Common.{◌+◌, ◌*◌}
use Rattle.pol_parallel_lines.proofs.print.+fn-print_halves-join+arg2+fn-print_halves-join+arg3+print_halves.Given as goal

abbrev pub decreases-join+arg2 : goal.decreases-join+arg2
decreases-join+arg2 g l = 2 * l.left + 1

abbrev pub decreases-join+arg3 : goal.decreases-join+arg3
decreases-join+arg3 g l = 2 * l.left + 1

abbrev pub decreases-print_halves : goal.decreases-print_halves
decreases-print_halves g l = 2 * l.halvings
