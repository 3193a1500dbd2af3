use Rattle.pol_set_changes.proofs.NetLemmas.{net_is_exact}
use Rattle.pol_set_changes.proofs.laws.a_net_change_is_the_difference_of_two_sets.Goals as goal

pub returns : goal.returns
returns c = net_is_exact
