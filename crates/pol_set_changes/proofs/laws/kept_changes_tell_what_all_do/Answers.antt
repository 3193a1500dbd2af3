use Rattle.pol_set_changes.proofs.LogLemmas.{kept_changes_tell}
use Rattle.pol_set_changes.proofs.laws.kept_changes_tell_what_all_do.Goals as goal

pub returns : goal.returns
returns c = kept_changes_tell
