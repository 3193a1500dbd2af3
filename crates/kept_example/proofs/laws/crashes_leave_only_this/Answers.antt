use Rattle.std.proofs.Common.{◌≡◌, ◌≤◌, [], refl, inl, ⊎_elim, arith}
use Rattle.kept_example.proofs.laws.crashes_leave_only_this.Goals as goal

pub returns-clause-is : goal.returns-clause-is
returns-clause-is c = record { later = omega arith; each = λ c left. left; before = λ t c within left. inl left }

pub returns-clause-back : goal.returns-clause-back
returns-clause-back c = λ it. let wrong : 1 ≤ 0 = it.later in omega (arith, wrong)

pub returns-clause-something_else : goal.returns-clause-something_else
returns-clause-something_else c = λ it. it.each [] refl

pub returns-clause-something_else_before : goal.returns-clause-something_else_before
returns-clause-something_else_before c = λ it.
    ⊎_elim (λ (left : (0 ≡ 0) × (0 ≡ 1)). let wrong : 0 ≡ 1 = left.1 in omega (arith, wrong)) (λ (left : ⊥). left) (it.before 0 [] (omega arith) (refl, refl))
