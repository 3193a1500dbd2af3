use Rattle.std.proofs.Common.{◌≡◌, [], ◌∷◌, refl, arith}
use Rattle.std.specs.List.Sorted.{IsPermutation}
use Rattle.std.proofs.lemmas.List.Sorted.{IsPermutation-refl, sum_by-IsPermutation}
use Rattle.pol_model.specs.declared.answer.FullSlot.{FullSlot}
use Rattle.session_examples.specs.Machines.{row}
use Rattle.session_examples.proofs.machines.syncs_tell_revisions.Goals as goal

pub returns-clause-is : goal.returns-clause-is
returns-clause-is c = (refl, record { those = IsPermutation-refl []; sorted = tt })

pub returns-clause-another_revision : goal.returns-clause-another_revision
returns-clause-another_revision c = λ it. let wrong : 0 ≡ 1 = it.0 in omega (arith, wrong)

pub returns-clause-with_a_row : goal.returns-clause-with_a_row
returns-clause-with_a_row c = (refl, record { those = IsPermutation-refl (row ∷ []); sorted = tt })

pub returns-clause-without_it : goal.returns-clause-without_it
returns-clause-without_it c = λ it.
    let those : IsPermutation (row ∷ []) [] = it.1.those in
    let wrong : 0 ≡ 1 = sum_by-IsPermutation (λ (row : FullSlot). 1) (row ∷ []) [] those in omega (arith, wrong)

pub returns-clause-of_another_kind : goal.returns-clause-of_another_kind
returns-clause-of_another_kind c = λ it. it
