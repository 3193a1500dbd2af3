use Rattle.std.proofs.Common.{◌≡◌, ◌≤◌, ◌<◌, refl, arith}
use Rattle.std.proofs.lemmas.Option.{slice_get_within}
use Rattle.pol_history.specs.declared.event.HistoryEvent.TheVariants as event
use Rattle.pol_history.specs.Commits.{state_after}
use Rattle.pol_history.specs.ExampleEvents.{at_most, web_since}
use Rattle.pol_history.proofs.Lists.{no_element}
use Rattle.pol_history.proofs.Small.{web_row}
use Rattle.pol_run_laws.proofs.Places.{element_at}
use Rattle.history_examples.specs.Histories as history
use Rattle.history_examples.proofs.OneEndpoint.{HasTwo, not_first, only_slot}
use Rattle.history_examples.proofs.regenerations.full.Goals as goal

pub returns-clause-is : goal.returns-clause-is
returns-clause-is c = record {
  endpoint = web_since 1;
  taken = record { between = record { from = omega arith; upto = omega arith }; row = web_row 1; live = refl; in_slot = refl };
  place = 1;
  there = refl;
  past = omega arith;
}

pub returns-clause-of_an_old_revision : goal.returns-clause-of_an_old_revision
returns-clause-of_an_old_revision c = λ it. let no : 2 ≤ 1 = it.taken.between.from in omega (arith, no)

pub returns-clause-of_one_to_come : goal.returns-clause-of_one_to_come
returns-clause-of_one_to_come c = λ it. let no : 2 ≤ 1 = it.taken.between.upto in omega (arith, no)

pub returns-clause-of_another_slot : goal.returns-clause-of_another_slot
returns-clause-of_another_slot c = λ it.
    not_first (only_slot (state_after (at_most 1) history.full 1) (web_row 1) it.taken.row it.endpoint 1 refl refl it.taken.live it.taken.in_slot) refl

pub returns-clause-seen_before : goal.returns-clause-seen_before
returns-clause-seen_before c = λ it.
    let within : it.place < 2 = slice_get_within history.full it.place (event.Blocked it.endpoint 1 2) it.there in
    let past : 2 ≤ it.place = it.past in omega (arith, within, past)

pub returns-clause-another_count : goal.returns-clause-another_count
returns-clause-another_count c = λ it.
    let no : 3 ≡ 2 = element_at HasTwo history.full it.place (event.Blocked it.endpoint 1 3) (tt, (refl, tt)) it.there in omega (arith, no)

pub returns-clause-of_one_that_has_gone : goal.returns-clause-of_one_that_has_gone
returns-clause-of_one_that_has_gone c = λ it. no_element it.taken.row it.taken.live
