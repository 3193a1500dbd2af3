use Rattle.pol_selcache.proofs.Coming.{one_comes}
use Rattle.pol_selcache.proofs.laws.a_label_set_may_come.Goals as goal

pub returns : goal.returns
returns c = λ labels rows number revision cache ascend its new newer exact. one_comes labels rows number ascend its new revision cache newer exact
