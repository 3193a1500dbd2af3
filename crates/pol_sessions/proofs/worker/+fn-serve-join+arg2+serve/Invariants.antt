use Rattle.std.proofs.Common.{◌+◌, ◌*◌}
use Rattle.pol_sessions.proofs.worker.+fn-serve-join+arg2+serve.Given as goal

abbrev pub decreases-join+arg2 : goal.decreases-join+arg2
decreases-join+arg2 g l = 2 * l.left + 1

abbrev pub decreases-serve : goal.decreases-serve
decreases-serve g l = 2 * l.count
