use Rattle.std.proofs.Common.{refl}
use Rattle.pol_addr.specs.Cidr.{network}
use Rattle.pol_addr.specs.Prefix.{covers}
use Rattle.engine_examples.proofs.headings.identities_are_filed_under_their_octets.Goals as goal

pub returns-clause-octets : goal.returns-clause-octets
unfolding covers network
returns-clause-octets c = refl

pub returns-clause-families : goal.returns-clause-families
unfolding covers network
returns-clause-families c = refl

pub returns-clause-of_ipv4 : goal.returns-clause-of_ipv4
unfolding covers network
returns-clause-of_ipv4 c = refl
