use Rattle.std.proofs.Common.{◌≤◌, [], refl, inl, ⊎_elim, arith}
use Rattle.kept_example.proofs.laws.time_goes_on.Goals as goal

pub returns-clause-is : goal.returns-clause-is
returns-clause-is c = record { later = omega arith; nothing_else = λ t c within left. left; keeps = λ t c within left. inl left }

pub returns-clause-back : goal.returns-clause-back
returns-clause-back c = λ it. let wrong : 1 ≤ 0 = it.later in omega (arith, wrong)

pub returns-clause-forgotten : goal.returns-clause-forgotten
returns-clause-forgotten c = λ it. it.keeps 0 [] (omega arith) refl

pub returns-clause-something_else : goal.returns-clause-something_else
returns-clause-something_else c = λ it. ⊎_elim (λ (left : ⊥). left) (λ (left : ⊥). left) (it.nothing_else 0 [] (omega arith) refl)
