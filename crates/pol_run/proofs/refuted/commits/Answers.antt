use Rattle.std.proofs.Common.{◌≤◌, ◌<◌, refl, arith}
use Rattle.pol_model.specs.declared.answer.Fault.TheVariants.{DuplicateEndpoint}
use Rattle.pol_run.proofs.Examples.{some_is_none, some_same}
use Rattle.pol_run.proofs.refuted.commits.Goals as goal

pub returns-clause-repeated_number : goal.returns-clause-repeated_number
returns-clause-repeated_number c = λ run. run.numbered.each_once.0.0 refl

pub returns-clause-repeated_later : goal.returns-clause-repeated_later
returns-clause-repeated_later c = λ run. run.numbered.each_once.1.0.0 refl

pub returns-clause-gap : goal.returns-clause-gap
returns-clause-gap c = λ run. let last : 2 ≤ 1 = run.numbered.from_one.0.1 in omega arith

pub returns-clause-from_zero : goal.returns-clause-from_zero
returns-clause-from_zero c = λ run. let first : 1 ≤ 0 = run.numbered.from_one.0.0 in omega arith

pub returns-clause-descending_in_session : goal.returns-clause-descending_in_session
returns-clause-descending_in_session c =
    λ run. let later : 2 < 1 = run.numbered.ascending _ _ (0, (omega arith), refl) (1, (omega arith), refl) refl in omega arith

pub returns-clause-descending_over_phases : goal.returns-clause-descending_over_phases
returns-clause-descending_over_phases c =
    λ run. let later : 2 < 1 = run.numbered.ascending _ _ (0, (omega arith), refl) (1, (omega arith), refl) refl in omega arith

pub returns-clause-faulty_commit : goal.returns-clause-faulty_commit
returns-clause-faulty_commit c = λ run. some_is_none DuplicateEndpoint run.right.1.0.no_fault

pub returns-clause-other_number : goal.returns-clause-other_number
returns-clause-other_number c = λ run. omega (arith, some_same 257 256 run.right.0.identity)
