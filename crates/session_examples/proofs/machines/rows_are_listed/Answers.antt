use Rattle.std.proofs.Common.{◌≡◌, false, true, [], ◌∷◌, refl, arith}
use Rattle.std.specs.List.Sorted.{IsPermutation}
use Rattle.std.proofs.lemmas.List.Sorted.{IsPermutation-refl, IsPermutation-reverse, sum_by-IsPermutation}
use Rattle.pol_model.specs.declared.answer.FullSlot.{FullSlot}
use Rattle.session_examples.specs.Machines.{db_row, row, web_row}
use Rattle.session_examples.proofs.machines.rows_are_listed.Goals as goal

pub returns-clause-one : goal.returns-clause-one
returns-clause-one c = record { those = IsPermutation-refl (row ∷ []); sorted = tt }

pub returns-clause-two : goal.returns-clause-two
returns-clause-two c = record { those = IsPermutation-reverse (web_row ∷ db_row ∷ []); sorted = (refl, tt) }

pub returns-clause-lacks_one : goal.returns-clause-lacks_one
returns-clause-lacks_one c = λ it.
    let those : IsPermutation (row ∷ []) [] = it.those in
    let wrong : 0 ≡ 1 = sum_by-IsPermutation (λ (row : FullSlot). 1) (row ∷ []) [] those in omega (arith, wrong)

pub returns-clause-by_slot : goal.returns-clause-by_slot
returns-clause-by_slot c = λ it. let wrong : false ≡ true = it.sorted.0 in cc
