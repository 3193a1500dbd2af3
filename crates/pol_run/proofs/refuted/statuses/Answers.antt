use Rattle.std.proofs.Common.{refl, arith}
use Rattle.pol_run.proofs.WrongTexts.{marked_text, status_of_none}
use Rattle.pol_run.proofs.refuted.statuses.Goals as goal

pub returns-clause-refusal : goal.returns-clause-refusal
returns-clause-refusal c = λ options script run.
    omega (arith, run.status, marked_text run.answers _ _ run.text refl)

pub returns-clause-not_yet : goal.returns-clause-not_yet
returns-clause-not_yet c = λ options script run.
    omega (arith, run.status, marked_text run.answers _ _ run.text refl)

pub returns-clause-no_endpoint : goal.returns-clause-no_endpoint
returns-clause-no_endpoint c = λ options script run.
    omega (arith, run.status, marked_text run.answers _ _ run.text refl)

pub returns-clause-none : goal.returns-clause-none
returns-clause-none c = λ options run. omega (arith, run.status, status_of_none run.answers run.one_each)
