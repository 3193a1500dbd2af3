use Rattle.pol_set_changes.proofs.LogLemmas.{logs_keep_last}
use Rattle.pol_set_changes.proofs.laws.logs_keep_the_last_changes.Goals as goal

pub returns : goal.returns
returns c = logs_keep_last
