use Rattle.std.proofs.Common.{refl}
use Rattle.pol_addr.specs.Cidr.{network}
use Rattle.engine_examples.proofs.headings.prefixes_and_entities_stand_under_theirs.Goals as goal

pub returns-clause-prefixes : goal.returns-clause-prefixes
unfolding network
returns-clause-prefixes c = refl

pub returns-clause-ipv6_prefixes : goal.returns-clause-ipv6_prefixes
unfolding network
returns-clause-ipv6_prefixes c = refl
