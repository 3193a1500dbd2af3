use Rattle.std.proofs.Common.{refl}
use Rattle.pol_addr.specs.Prefix.{contains, covers}
use Rattle.pol_addr.specs.Cidr.{network}
use Rattle.pol_addr.proofs.examples.other_families.Goals as goal

pub returns-clause-ipv6 : goal.returns-clause-ipv6
unfolding contains covers network
returns-clause-ipv6 c = refl

pub returns-clause-ipv4 : goal.returns-clause-ipv4
unfolding contains covers network
returns-clause-ipv4 c = refl

pub returns-clause-covers : goal.returns-clause-covers
unfolding contains covers network
returns-clause-covers c = refl

pub returns-clause-longer : goal.returns-clause-longer
unfolding contains covers network
returns-clause-longer c = refl

pub returns-clause-own : goal.returns-clause-own
unfolding contains covers network
returns-clause-own c = refl
