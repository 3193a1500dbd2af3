use Rattle.pol_hints.proofs.Steps.{forks}
use Rattle.pol_hints.proofs.hints.Hints.split.Goals as goal

pub another-other-requires-clause-rule : goal.another-other-requires-clause-rule
another-other-requires-clause-rule g c = forks _ _ c.pass.invariant.part c.pass.invariant.rests
