use Rattle.std.proofs.Common.{◌≡◌, length, ap, arith}
use Rattle.pol_answer.specs.Text.{texts_of}
use Rattle.pol_run.proofs.WrongTexts.{texts_length, texts_of_none}
use Rattle.pol_run.proofs.refuted.one_answer_each.Goals as goal

pub returns-clause-missing : goal.returns-clause-missing
returns-clause-missing c = λ options run.
    let each : length run.answers ≡ 1 = run.one_each in
    let none : 0 ≡ length (texts_of run.answers) = ap length run.text in
    omega (arith, texts_length run.answers)

pub returns-clause-surplus : goal.returns-clause-surplus
returns-clause-surplus c = λ options run.
    let some : 8 ≡ length (texts_of run.answers) = ap length run.text in
    omega (arith, texts_of_none run.answers run.one_each)
