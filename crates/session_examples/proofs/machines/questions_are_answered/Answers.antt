use Rattle.std.proofs.Common.{◌≡◌, ℕ, refl, ap, arith}
use Rattle.pol_history.specs.declared.machine.Reply.TheVariants as reply
use Rattle.pol_machine.specs.declared.asked.SerialAnswer.TheVariants.{Replied, Traced}
use Rattle.pol_model.specs.declared.answer.Committed.{Committed}
use Rattle.pol_model.specs.declared.answer.Trace.{Trace}
use Rattle.session_examples.proofs.machines.questions_are_answered.Goals as goal

pub returns-clause-commit : goal.returns-clause-commit
returns-clause-commit c = refl

same_commit : (a b : Committed) → Replied (reply.Committed a) ≡ Replied (reply.Committed b) → a ≡ b
same_commit a b same = cc

pub returns-clause-another_revision : goal.returns-clause-another_revision
returns-clause-another_revision c = λ it. let no : 2 ≡ 1 = ap (λ (done : Committed). done.revision) (same_commit _ _ it) in omega (arith, no)

pub returns-clause-look : goal.returns-clause-look
returns-clause-look c = refl

not_nobody : Replied (reply.NoEndpoint 1) ≡ Replied (reply.NotYet 1) → ⊥
not_nobody same = cc

pub returns-clause-looks_for_nobody : goal.returns-clause-looks_for_nobody
returns-clause-looks_for_nobody c = not_nobody

pub returns-clause-why : goal.returns-clause-why
returns-clause-why c = refl

same_revision : (m n : ℕ) (a b : Trace) → Traced m a ≡ Traced n b → m ≡ n
same_revision m n a b same = cc

pub returns-clause-why_before : goal.returns-clause-why_before
returns-clause-why_before c = λ it. let no : 0 ≡ 1 = same_revision 0 1 _ _ it in omega (arith, no)

pub returns-clause-nobody : goal.returns-clause-nobody
returns-clause-nobody c = refl

same_absence : (m n : ℕ) → Replied (reply.NoEndpoint m) ≡ Replied (reply.NoEndpoint n) → m ≡ n
same_absence m n same = cc

pub returns-clause-nobody_before : goal.returns-clause-nobody_before
returns-clause-nobody_before c = λ it. let no : 0 ≡ 1 = same_absence 0 1 it in omega (arith, no)
