use Rattle.std.proofs.Common.{refl}
use Rattle.pol_addr.specs.Cidr.{network}
use Rattle.pol_addr.specs.Prefix.{covers}
use Rattle.model_examples.proofs.policies.places_are_in_order.Goals as goal

pub returns-clause-allows_in : goal.returns-clause-allows_in
unfolding covers network
returns-clause-allows_in c options = refl

pub returns-clause-denies_in : goal.returns-clause-denies_in
unfolding covers network
returns-clause-denies_in c options = refl

pub returns-clause-allows_out : goal.returns-clause-allows_out
unfolding covers network
returns-clause-allows_out c options = refl

pub returns-clause-denies_out : goal.returns-clause-denies_out
unfolding covers network
returns-clause-denies_out c options = refl
