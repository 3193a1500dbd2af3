use Rattle.std.proofs.Common.{refl}
use Rattle.std.specs.Fmt.{digits}
use Rattle.script_examples.proofs.answers.traces.Goals as goal

pub returns-clause-none : goal.returns-clause-none
unfolding digits
returns-clause-none c = refl

pub returns-clause-one : goal.returns-clause-one
unfolding digits
returns-clause-one c = refl

pub returns-clause-some : goal.returns-clause-some
unfolding digits
returns-clause-some c = refl
