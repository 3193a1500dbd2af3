use Rattle.std.proofs.Common.{◌≡◌, suc, List, length, refl, ap, arith}
use Rattle.pol_model.specs.declared.answer.Fault.TheVariants.{DuplicateEndpoint}
use Rattle.pol_model.specs.declared.request.Request.{Request}
use Rattle.pol_history.specs.declared.event.HistoryEvent.{HistoryEvent}
use Rattle.pol_history.specs.ExampleEvents.{add_web, at_most, commit}
use Rattle.pol_history.specs.SmallHistories.{added_twice}
use Rattle.pol_history.proofs.LegalEvents.{each_legal, legal_follows}
use Rattle.pol_history.proofs.Small.{some_is_none}
use Rattle.history_examples.specs.Histories as history
use Rattle.history_examples.proofs.growth.calls_that_grow.Goals as goal

pub returns-clause-is : goal.returns-clause-is
returns-clause-is c = record {
  goes_on = (history.added, refl);
  legal = each_legal (at_most 2) history.added (record { no_fault = refl; next = refl }, tt);
  mine = refl;
}

-- nothing is no longer than one event
too_few : (rest : List HistoryEvent) → suc (length rest) ≡ 0 → ⊥
too_few rest is = omega (arith, is)

pub returns-clause-goes_back : goal.returns-clause-goes_back
returns-clause-goes_back c = λ it. too_few it.goes_on.0 (ap (λ (l : List HistoryEvent). length l) it.goes_on.1)

pub returns-clause-not_legal : goal.returns-clause-not_legal
returns-clause-not_legal c = λ it. some_is_none DuplicateEndpoint (legal_follows (at_most 2) added_twice it.legal 1 (commit 0 1 add_web) refl).no_fault

pub returns-clause-not_told : goal.returns-clause-not_told
returns-clause-not_told c = λ it. let many : 1 ≡ 0 = ap (λ (l : List Request). length l) it.mine in omega (arith, many)
