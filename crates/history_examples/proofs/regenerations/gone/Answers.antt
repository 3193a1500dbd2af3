use Rattle.std.proofs.Common.{◌≡◌, ℕ, ◌≤◌, inl, inr, None, refl, subst, arith}
use Rattle.pol_model.specs.declared.row.Endpoint.{Endpoint}
use Rattle.pol_history.specs.Commits.{Lives, state_after, state_now}
use Rattle.pol_history.specs.ExampleEvents.{at_most}
use Rattle.pol_history.specs.Machine.{endpoint_id, endpoint_in}
use Rattle.pol_history.specs.Regenerate.{HasGone}
use Rattle.pol_history.proofs.Lists.{no_element}
use Rattle.pol_history.proofs.Small.{some_is_none, some_same, web_row}
use Rattle.history_examples.specs.Histories as history
use Rattle.history_examples.proofs.regenerations.gone.Goals as goal

pub returns-clause-nobody : goal.returns-clause-nobody
returns-clause-nobody c = record { revision = 0; between = record { from = omega arith; upto = omega arith }; gone = inl refl }

pub returns-clause-another_slot : goal.returns-clause-another_slot
returns-clause-another_slot c = record { revision = 1; between = record { from = omega arith; upto = omega arith }; gone = inl refl }

pub returns-clause-at_the_end : goal.returns-clause-at_the_end
returns-clause-at_the_end c = record { revision = 2; between = record { from = omega arith; upto = omega arith }; gone = inl refl }

lives : (row : Endpoint) → web_row 1 ≡ row → Lives (state_now (at_most 2) history.added) (endpoint_id row)
lives row same = subst (λ (r : Endpoint). Lives (state_now (at_most 2) history.added) (endpoint_id r)) same (record { row = web_row 1; found = refl })

not_gone : HasGone (at_most 2) 0 history.added 1 → ⊥
not_gone it = it.gone (lives it.row (some_same (web_row 1) it.row it.was))

pub returns-clause-lives : goal.returns-clause-lives
returns-clause-lives c = λ it.
    let from : 1 ≤ it.revision = it.between.from in
    let upto : it.revision ≤ 1 = it.between.upto in
    let one : it.revision ≡ 1 = omega (arith, from, upto) in
    elim it.gone [
      | inl none ↦ some_is_none (web_row 1) (subst (λ (n : ℕ). endpoint_in 0 (state_after (at_most 2) history.added n).endpoints ≡ None) one none)
      | inr gone ↦ not_gone (subst (λ (n : ℕ). HasGone (at_most 2) 0 history.added n) one gone)
    ]

pub returns-clause-since : goal.returns-clause-since
returns-clause-since c = record { row = web_row 1; was = refl; gone = λ it. no_element it.row it.found }

pub returns-clause-nobody_was : goal.returns-clause-nobody_was
returns-clause-nobody_was c = λ it. no_element it.row it.was

pub returns-clause-lives_on : goal.returns-clause-lives_on
returns-clause-lives_on c = not_gone
