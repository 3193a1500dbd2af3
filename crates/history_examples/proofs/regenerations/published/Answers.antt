use Rattle.std.proofs.Common.{◌≡◌, ◌≤◌, ◌<◌, refl, subst, arith}
use Rattle.std.proofs.lemmas.Option.{slice_get_within}
use Rattle.pol_history.specs.declared.event.EndpointId.{EndpointId}
use Rattle.pol_history.specs.declared.event.HistoryEvent.TheVariants as event
use Rattle.pol_history.specs.Commits.{state_after}
use Rattle.pol_history.specs.ExampleEvents.{all_in, all_out, at_most, open_map, web_since}
use Rattle.pol_history.specs.Reports.{map_at}
use Rattle.pol_history.proofs.Small.{web_row}
use Rattle.pol_run_laws.proofs.Places.{element_at}
use Rattle.std.specs.Prelude.{Some}
use Rattle.history_examples.specs.Histories as history
use Rattle.history_examples.proofs.OneEndpoint.{IsEmptyOfWeb, IsNoReport, not_first, only_slot, two_are_none}
use Rattle.history_examples.proofs.regenerations.published.Goals as goal

pub returns-clause-is : goal.returns-clause-is
returns-clause-is c = record {
  endpoint = web_since 1;
  taken = record { between = record { from = omega arith; upto = omega arith }; row = web_row 1; live = refl; in_slot = refl };
  table = open_map;
  place = 1;
  there = refl;
  past = omega arith;
  canonical = refl;
}

pub returns-clause-of_an_old_revision : goal.returns-clause-of_an_old_revision
returns-clause-of_an_old_revision c = λ it. let no : 2 ≤ 1 = it.taken.between.from in omega (arith, no)

pub returns-clause-of_one_to_come : goal.returns-clause-of_one_to_come
returns-clause-of_one_to_come c = λ it. let no : 2 ≤ 1 = it.taken.between.upto in omega (arith, no)

pub returns-clause-of_another_slot : goal.returns-clause-of_another_slot
returns-clause-of_another_slot c = λ it.
    not_first (only_slot (state_after (at_most 2) history.published 1) (web_row 1) it.taken.row it.endpoint 1 refl refl it.taken.live it.taken.in_slot) refl

pub returns-clause-seen_before : goal.returns-clause-seen_before
returns-clause-seen_before c = λ it.
    let within : it.place < 2 = slice_get_within history.published it.place (event.Publish it.endpoint 1 it.table) it.there in
    let past : 2 ≤ it.place = it.past in omega (arith, within, past)

pub returns-clause-not_there : goal.returns-clause-not_there
returns-clause-not_there c = λ it. element_at IsNoReport history.added it.place (event.Publish it.endpoint 1 it.table) (tt, tt) it.there

pub returns-clause-another_map : goal.returns-clause-another_map
returns-clause-another_map c = λ it.
    let is = element_at IsEmptyOfWeb history.published_another it.place (event.Publish it.endpoint 1 it.table) (tt, ((refl, refl), tt)) it.there in
    let canonical = subst (λ (e : EndpointId). map_at (at_most 2) history.published_another e 1 ≡ Some it.table) is.0 it.canonical in
    two_are_none all_in all_out it.table canonical is.1
