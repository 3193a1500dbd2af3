use Rattle.std.proofs.Common.{◌≡◌, ℕ, [], ◌∷◌, None, refl, arith}
use Rattle.std.specs.List.Sorted.{IsPermutation}
use Rattle.std.proofs.lemmas.List.Sorted.{IsPermutation-refl, sum_by-IsPermutation}
use Rattle.pol_answer.specs.declared.answer.Answer.TheVariants as answer
use Rattle.pol_mapkey.specs.declared.Word.{Word}
use Rattle.pol_model.specs.declared.answer.FullSlot.{FullSlot}
use Rattle.pol_model.specs.declared.answer.Trace.{Trace}
use Rattle.pol_run.specs.ExampleLines.{first_number}
use Rattle.pol_script.specs.declared.line_fault.LineFault.TheVariants.{Json, NoOp}
use Rattle.session_examples.specs.Machines.{row}
use Rattle.session_examples.proofs.serial.lines_are_answered.Goals as goal

pub returns-clause-faulty : goal.returns-clause-faulty
returns-clause-faulty c = refl

other_fault : answer.BadLine NoOp ≡ answer.BadLine Json → ⊥
other_fault same = cc

pub returns-clause-another_fault : goal.returns-clause-another_fault
returns-clause-another_fault c = other_fault

pub returns-clause-commit : goal.returns-clause-commit
returns-clause-commit c = refl

no_number : answer.Committed 1 None ≡ answer.Committed 1 first_number → ⊥
no_number same = cc

pub returns-clause-commit_without_number : goal.returns-clause-commit_without_number
returns-clause-commit_without_number c = no_number

pub returns-clause-look : goal.returns-clause-look
returns-clause-look c = refl

same_look : (m n : ℕ) (a b : Word) → answer.Verdict m a ≡ answer.Verdict n b → m ≡ n
same_look m n a b same = cc

pub returns-clause-look_at_the_rules : goal.returns-clause-look_at_the_rules
returns-clause-look_at_the_rules c = λ it. let no : 2 ≡ 1 = same_look 2 1 _ _ it in omega (arith, no)

pub returns-clause-why : goal.returns-clause-why
returns-clause-why c = refl

same_trace : (m n : ℕ) (a b : Trace) → answer.Traced m a ≡ answer.Traced n b → m ≡ n
same_trace m n a b same = cc

pub returns-clause-why_by_the_map : goal.returns-clause-why_by_the_map
returns-clause-why_by_the_map c = λ it. let no : 1 ≡ 2 = same_trace 1 2 _ _ it in omega (arith, no)

pub returns-clause-sync : goal.returns-clause-sync
returns-clause-sync c = (refl, record { those = IsPermutation-refl (row ∷ []); sorted = tt })

pub returns-clause-sync_before : goal.returns-clause-sync_before
returns-clause-sync_before c = λ it. let no : 0 ≡ 1 = it.0 in omega (arith, no)

pub returns-clause-sync_without_row : goal.returns-clause-sync_without_row
returns-clause-sync_without_row c = λ it.
    let those : IsPermutation (row ∷ []) [] = it.1.those in
    let no : 0 ≡ 1 = sum_by-IsPermutation (λ (row : FullSlot). 1) (row ∷ []) [] those in omega (arith, no)

pub returns-clause-sync_of_another_kind : goal.returns-clause-sync_of_another_kind
returns-clause-sync_of_another_kind c = λ it. it

pub returns-clause-phase : goal.returns-clause-phase
returns-clause-phase c = refl

same_phase : (m n : ℕ) → answer.Phase m ≡ answer.Phase n → m ≡ n
same_phase m n same = cc

pub returns-clause-another_phase : goal.returns-clause-another_phase
returns-clause-another_phase c = λ it. let no : 1 ≡ 2 = same_phase 1 2 it in omega (arith, no)
