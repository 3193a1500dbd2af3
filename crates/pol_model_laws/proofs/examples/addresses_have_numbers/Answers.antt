use Rattle.std.proofs.Common.{refl}
use Rattle.pol_addr.specs.Cidr.{network}
use Rattle.pol_addr.specs.Prefix.{contains}
use Rattle.pol_model_laws.proofs.examples.addresses_have_numbers.Goals as goal

pub returns-clause-longest : goal.returns-clause-longest
unfolding contains network
returns-clause-longest c options = refl

pub returns-clause-around : goal.returns-clause-around
unfolding contains network
returns-clause-around c options = refl

pub returns-clause-outside : goal.returns-clause-outside
unfolding contains network
returns-clause-outside c options = refl
