use Rattle.std.proofs.Common.{◌≡◌, ◌≤◌, refl, sym, ap, subst, arith}
use Rattle.std.specs.Prelude.{Some}
use Rattle.pol_history.specs.declared.event.EndpointId.{EndpointId}
use Rattle.pol_history.specs.declared.event.LastReport.{LastReport}
use Rattle.pol_history.specs.Commits.{state_after}
use Rattle.pol_history.specs.ExampleEvents.{at_most, web_since}
use Rattle.pol_history.specs.Reports.{last_report}
use Rattle.pol_history.proofs.Lists.{no_element}
use Rattle.pol_history.proofs.Small.{some_same, web_row}
use Rattle.pol_run_laws.proofs.Sole.{only_live}
use Rattle.history_examples.specs.Histories as history
use Rattle.history_examples.proofs.OneEndpoint.{not_first, only_slot}
use Rattle.history_examples.proofs.regenerations.already.Goals as goal

abbrev report : LastReport
report = record { revision = 1; commits = 1; published = Some 1 }

pub returns-clause-is : goal.returns-clause-is
returns-clause-is c = record {
  endpoint = web_since 1;
  taken = record { between = record { from = omega arith; upto = omega arith }; row = web_row 1; live = refl; in_slot = refl };
  report = report;
  last = refl;
  same = refl;
}

pub returns-clause-of_an_old_revision : goal.returns-clause-of_an_old_revision
returns-clause-of_an_old_revision c = λ it. let no : 2 ≤ 1 = it.taken.between.from in omega (arith, no)

pub returns-clause-of_another_slot : goal.returns-clause-of_another_slot
returns-clause-of_another_slot c = λ it.
    not_first (only_slot (state_after (at_most 2) history.published 1) (web_row 1) it.taken.row it.endpoint 1 refl refl it.taken.live it.taken.in_slot) refl

pub returns-clause-not_reported : goal.returns-clause-not_reported
returns-clause-not_reported c = λ it. no_element it.report it.last

pub returns-clause-reported_before : goal.returns-clause-reported_before
returns-clause-reported_before c = λ it.
    let web = only_live (state_after (at_most 2) history.published_before 2) (web_row 1) it.endpoint refl (record { row = it.taken.row; found = it.taken.live }) in
    let last = subst (λ (e : EndpointId). last_report e history.published_before ≡ Some it.report) (sym web) it.last in
    let one : 1 ≡ it.report.revision = ap (λ (r : LastReport). r.revision) (some_same report it.report last) in
    let two : it.report.revision ≡ 2 = it.same in omega (arith, one, two)
