use Rattle.pol_set_changes.proofs.NetLemmas.{nets_join}
use Rattle.pol_set_changes.proofs.laws.net_changes_join.Goals as goal

pub returns : goal.returns
returns c = nets_join
