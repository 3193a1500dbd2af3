use Rattle.std.proofs.Common.{◌≤◌, ◌<◌, [], refl, arith}
use Rattle.pol_history.specs.ExampleEvents.{at_most, open_map, publish}
use Rattle.pol_history.specs.SmallHistories as history
use Rattle.pol_history.proofs.LegalEvents.{legal_follows}
use Rattle.pol_history.proofs.Lists.{no_element}
use Rattle.pol_history.proofs.examples.reports.Goals as goal

pub returns : goal.returns
returns c = record {
  of_the_gone = λ legal.
      let may = legal_follows (at_most 2) history.report_of_the_gone legal 2 (publish 1 1 open_map) refl in
      no_element may.report.live.row may.report.live.found;
  of_the_one_before = λ legal.
      let may = legal_follows (at_most 2) history.report_of_the_one_before legal 3 (publish 1 1 open_map) refl in
      no_element may.report.live.row may.report.live.found;
  ahead = λ legal.
      let no : 2 ≤ 1 = (legal_follows (at_most 2) history.report_ahead legal 1 (publish 1 2 open_map) refl).report.committed in omega (arith, no);
  older = λ legal.
      let no : 2 < 1 = (legal_follows (at_most 2) history.older_report legal 3 (publish 1 1 open_map) refl).report.newer in omega (arith, no);
  same = λ legal.
      let no : 1 < 1 = (legal_follows (at_most 2) history.same_report legal 2 (publish 1 1 open_map) refl).report.newer in omega (arith, no);
  older_than_commits = λ legal.
      let no : 3 ≤ 2 = (legal_follows (at_most 2) history.older_than_commits legal 4 (publish 1 2 []) refl).report.no_older_commits in omega (arith, no);
}
