use Rattle.std.proofs.Common.{◌∷◌, []}
use Rattle.pol_history.proofs.Contents.{content-more}
use Rattle.pol_history.proofs.Cuts.{commits-append, commits_by-append}
use Rattle.pol_history.proofs.LastReports.{last_report-more}
use Rattle.pol_history.proofs.laws.one_event_more.Goals as goal

pub returns : goal.returns
returns c = record {
  commits = λ history event. commits-append history (event ∷ []);
  own = λ pass history event. commits_by-append pass history (event ∷ []);
  report = last_report-more;
  content = content-more;
}
