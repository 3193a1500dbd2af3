use Rattle.std.proofs.Common.{◌≡◌, ℕ, [], refl, arith}
use Rattle.std.proofs.lemmas.List.Sorted.{IsPermutation-refl}
use Rattle.pol_answer.specs.declared.answer.Answer.TheVariants as answer
use Rattle.pol_mapkey.specs.declared.Word.TheVariants.{Allowed}
use Rattle.session_examples.proofs.serial.runs_go_on.Goals as goal

pub returns-clause-is : goal.returns-clause-is
returns-clause-is c = (refl, (refl, ((refl, record { those = IsPermutation-refl []; sorted = tt }), (refl, (refl, (refl, tt))))))

pub returns-clause-nothing_else_changes : goal.returns-clause-nothing_else_changes
returns-clause-nothing_else_changes c = (refl, (refl, (refl, (refl, (refl, tt)))))

pub returns-clause-too_few : goal.returns-clause-too_few
returns-clause-too_few c = λ it. it

pub returns-clause-too_many : goal.returns-clause-too_many
returns-clause-too_many c = λ it. it

same_phase : (m n : ℕ) → answer.Phase m ≡ answer.Phase n → m ≡ n
same_phase m n same = cc

pub returns-clause-one_phase : goal.returns-clause-one_phase
returns-clause-one_phase c = λ it. let no : 1 ≡ 2 = same_phase 1 2 it.1.0 in omega (arith, no)

is_there : answer.NoEndpoint 0 ≡ answer.NotYet 1 → ⊥
is_there same = cc

pub returns-clause-not_committed : goal.returns-clause-not_committed
returns-clause-not_committed c = λ it. is_there it.1.0

pub returns-clause-not_begun : goal.returns-clause-not_begun
returns-clause-not_begun c = λ it. is_there it.0

is_published : answer.NotYet 1 ≡ answer.Verdict 1 Allowed → ⊥
is_published same = cc

pub returns-clause-not_published : goal.returns-clause-not_published
returns-clause-not_published c = λ it. is_published it.1.0
