use Rattle.std.proofs.Common.{refl}
use Rattle.pol_addr.specs.Cidr.{network}
use Rattle.pol_addr.specs.Prefix.{contains, covers}
use Rattle.pol_model.specs.Enforced.{has_rule}
use Rattle.pol_model.specs.Verdict.{rule_covers}
use Rattle.model_examples.proofs.families.each_world_alone_by_address.Goals as goal

pub returns-clause-world : goal.returns-clause-world
unfolding has_rule rule_covers contains covers network
returns-clause-world c options = refl

pub returns-clause-ipv4 : goal.returns-clause-ipv4
unfolding has_rule rule_covers contains covers network
returns-clause-ipv4 c options = refl

pub returns-clause-ipv6 : goal.returns-clause-ipv6
unfolding has_rule rule_covers contains covers network
returns-clause-ipv6 c options = refl

pub returns-clause-cluster : goal.returns-clause-cluster
unfolding has_rule rule_covers contains covers network
returns-clause-cluster c options = refl
