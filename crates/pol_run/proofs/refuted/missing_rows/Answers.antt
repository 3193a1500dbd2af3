use Rattle.std.proofs.Common.{◌≡◌, ℕ, ◌≤◌, [], ◌∷◌, length, refl, ap, sym, ◌∙◌, subst, arith}
use Rattle.pol_model.specs.declared.answer.FullSlot.{FullSlot}
use Rattle.pol_run.specs.Spots.{spots_of}
use Rattle.pol_run.specs.RightAnswer.{IsTooLarge}
use Rattle.pol_run.specs.ExampleLines.{one_entry, web, db, full}
use Rattle.pol_run.specs.WrongRows as wrong
use Rattle.pol_run.proofs.Lists.{every_contained}
use Rattle.pol_run.proofs.Examples.{web_since}
use Rattle.pol_run.proofs.refuted.missing_rows.Goals as goal

pub returns-clause-missing_row : goal.returns-clause-missing_row
returns-clause-missing_row c = λ run.
    let large : IsTooLarge one_entry (spots_of wrong.missing_row) web 1 1 =
    record { endpoint = web_since 1; live = record { found = refl }; same = refl; too_many = refl } in
    let row = run.right.1.0.complete web 1
    (λ k from (to : k ≤ 1).
    let now : 1 ≡ k = omega arith in
    subst (λ (n : ℕ). IsTooLarge one_entry (spots_of wrong.missing_row) web 1 n) now large) in
    omega (arith, row.listed.1)

pub returns-clause-missing_before_commit : goal.returns-clause-missing_before_commit
returns-clause-missing_before_commit c = λ run.
    let large : IsTooLarge one_entry (spots_of wrong.missing_before_commit) web 1 1 =
    record { endpoint = web_since 1; live = record { found = refl }; same = refl; too_many = refl } in
    let row = run.right.1.0.complete web 1
    (λ k from (to : k ≤ 1).
    let now : 1 ≡ k = omega arith in
    subst (λ (n : ℕ). IsTooLarge one_entry (spots_of wrong.missing_before_commit) web 1 n) now large) in
    omega (arith, row.listed.1)

pub returns-clause-row_of_the_other_alone : goal.returns-clause-row_of_the_other_alone
returns-clause-row_of_the_other_alone c = λ run.
    let large : IsTooLarge one_entry (spots_of wrong.row_of_the_other_alone) web 1 2 =
    record { endpoint = web_since 1; live = record { found = refl }; same = refl; too_many = refl } in
    let row = run.right.1.1.0.complete web 1
    (λ k from (to : k ≤ 2).
    let now : 2 ≡ k = omega arith in
    subst (λ (n : ℕ). IsTooLarge one_entry (spots_of wrong.row_of_the_other_alone) web 1 n) now large) in
    let named : row.row.name ≡ db =
    every_contained (λ (r : FullSlot). r.name ≡ db) (full db 2 2 ∷ []) row.row (refl, tt) row.listed in
    let lengths : length web ≡ length db = ap length (sym row.named ∙ named) in
    omega arith
