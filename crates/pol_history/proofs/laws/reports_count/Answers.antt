use Rattle.pol_history.proofs.Reported.{last_of_all-counts, report-counts}
use Rattle.pol_history.proofs.laws.reports_count.Goals as goal

pub returns : goal.returns
returns c = record {
  made = λ old new synced place revision endpoint newer report past. report-counts old new synced endpoint revision newer place report past;
  last = λ old new synced place revision endpoint newer longer last. last_of_all-counts old new synced endpoint revision newer place longer last;
}
