use Rattle.std.proofs.Common.{◌≤◌, arith}
use Rattle.session_examples.proofs.bases.changes_that_are_few.Goals as goal

pub returns-clause-none : goal.returns-clause-none
returns-clause-none c = omega arith

pub returns-clause-two_before : goal.returns-clause-two_before
returns-clause-two_before c = λ change entry. omega arith

pub returns-clause-two_after : goal.returns-clause-two_after
returns-clause-two_after c = λ change entry. omega arith

pub returns-clause-one_of_nothing : goal.returns-clause-one_of_nothing
returns-clause-one_of_nothing c = λ change it. let wrong : 1 ≤ 0 = it in omega (arith, wrong)

pub returns-clause-three_before : goal.returns-clause-three_before
returns-clause-three_before c = λ change entry it. let wrong : 3 ≤ 2 = it in omega (arith, wrong)

pub returns-clause-three_after : goal.returns-clause-three_after
returns-clause-three_after c = λ change entry it. let wrong : 3 ≤ 2 = it in omega (arith, wrong)
