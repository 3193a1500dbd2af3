use Rattle.std.proofs.Common.{refl}
use Rattle.pol_addr.specs.Cidr.{network}
use Rattle.pol_addr.specs.Prefix.{covers}
use Rattle.engine_examples.proofs.judged.few_are_judged.Goals as goal

pub returns-clause-prefix : goal.returns-clause-prefix
unfolding covers network
returns-clause-prefix c = refl

pub returns-clause-wider : goal.returns-clause-wider
unfolding covers network
returns-clause-wider c = refl

pub returns-clause-part : goal.returns-clause-part
unfolding covers network
returns-clause-part c = refl

pub returns-clause-of_a_family : goal.returns-clause-of_a_family
unfolding covers network
returns-clause-of_a_family c = refl
