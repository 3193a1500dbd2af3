-- The numbers are printed out, and the rest computes.
use Rattle.std.proofs.Common.{refl}
use Rattle.std.specs.Fmt.{digits}
use Rattle.pol_run.proofs.laws.lines_that_tell.Goals as goal

pub returns-clause-first : goal.returns-clause-first
unfolding digits
returns-clause-first c = refl

pub returns-clause-order : goal.returns-clause-order
unfolding digits
returns-clause-order c = refl
