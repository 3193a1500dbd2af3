use Rattle.std.proofs.Common.{refl}
use Rattle.pol_addr.specs.Cidr.{network}
use Rattle.pol_addr.specs.Prefix.{contains, covers}
use Rattle.pol_model.specs.Enforced.{has_rule}
use Rattle.pol_model.specs.Verdict.{rule_covers}
use Rattle.model_examples.proofs.families.addresses_have_their_worlds.Goals as goal

pub returns-clause-inside : goal.returns-clause-inside
unfolding has_rule rule_covers contains covers network
returns-clause-inside c options = refl

pub returns-clause-endpoint : goal.returns-clause-endpoint
unfolding has_rule rule_covers contains covers network
returns-clause-endpoint c options = refl

pub returns-clause-ipv6 : goal.returns-clause-ipv6
unfolding has_rule rule_covers contains covers network
returns-clause-ipv6 c options = refl

pub returns-clause-ipv4 : goal.returns-clause-ipv4
unfolding has_rule rule_covers contains covers network
returns-clause-ipv4 c options = refl

pub returns-clause-denied : goal.returns-clause-denied
unfolding has_rule rule_covers contains covers network
returns-clause-denied c options = refl

pub returns-clause-denied_ipv6 : goal.returns-clause-denied_ipv6
unfolding has_rule rule_covers contains covers network
returns-clause-denied_ipv6 c options = refl

pub returns-clause-denied_ipv4 : goal.returns-clause-denied_ipv4
unfolding has_rule rule_covers contains covers network
returns-clause-denied_ipv4 c options = refl

pub returns-clause-not_the_endpoint : goal.returns-clause-not_the_endpoint
unfolding has_rule rule_covers contains covers network
returns-clause-not_the_endpoint c options = refl
