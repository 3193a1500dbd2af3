use Rattle.std.proofs.Common.{◌≡◌, ◌≤◌, ◌+◌, refl, arith}
use Rattle.session_examples.proofs.machines.steps_cost.Goals as goal

pub returns-clause-look : goal.returns-clause-look
returns-clause-look c = λ s query. omega arith

pub returns-clause-dear_look : goal.returns-clause-dear_look
returns-clause-dear_look c = λ s query it. let wrong : 37 ≤ 36 = it in omega (arith, wrong)

pub returns-clause-take : goal.returns-clause-take
returns-clause-take c = λ s. refl

pub returns-clause-dear_take : goal.returns-clause-dear_take
returns-clause-dear_take c = λ s it. let wrong : 6 ≡ 5 = it in omega (arith, wrong)

pub returns-clause-finish : goal.returns-clause-finish
returns-clause-finish c = λ s. refl

pub returns-clause-dear_finish : goal.returns-clause-dear_finish
returns-clause-dear_finish c = λ s it. let wrong : 6 ≡ 5 = it in omega (arith, wrong)

pub returns-clause-commit : goal.returns-clause-commit
returns-clause-commit c = λ options no_policy. omega arith

pub returns-clause-dear_commit : goal.returns-clause-dear_commit
returns-clause-dear_commit c = λ options it. let wrong : 6 ≤ 5 = it refl in omega (arith, wrong)

pub returns-clause-commit_with_a_peer : goal.returns-clause-commit_with_a_peer
returns-clause-commit_with_a_peer c = λ options no_policy. let within : 6 ≤ 5 + 1 = omega arith in within

pub returns-clause-dear_commit_with_a_peer : goal.returns-clause-dear_commit_with_a_peer
returns-clause-dear_commit_with_a_peer c = λ options it. let wrong : 7 ≤ 5 + 1 = it refl in omega (arith, wrong)
