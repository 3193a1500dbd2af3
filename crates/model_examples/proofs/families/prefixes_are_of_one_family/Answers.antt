use Rattle.std.proofs.Common.{refl}
use Rattle.pol_addr.specs.Cidr.{network}
use Rattle.pol_addr.specs.Prefix.{contains, covers}
use Rattle.pol_model.specs.Enforced.{has_rule}
use Rattle.pol_model.specs.Verdict.{rule_covers}
use Rattle.model_examples.proofs.families.prefixes_are_of_one_family.Goals as goal

pub returns-clause-ipv4 : goal.returns-clause-ipv4
unfolding has_rule rule_covers contains covers network
returns-clause-ipv4 c options = refl

pub returns-clause-ipv6 : goal.returns-clause-ipv6
unfolding has_rule rule_covers contains covers network
returns-clause-ipv6 c options = refl

pub returns-clause-number_ipv4 : goal.returns-clause-number_ipv4
unfolding has_rule rule_covers contains covers network
returns-clause-number_ipv4 c options = refl

pub returns-clause-number_ipv6 : goal.returns-clause-number_ipv6
unfolding has_rule rule_covers contains covers network
returns-clause-number_ipv6 c options = refl

pub returns-clause-same_bits : goal.returns-clause-same_bits
unfolding has_rule rule_covers contains covers network
returns-clause-same_bits c options = refl

pub returns-clause-same_bits_of_ipv4 : goal.returns-clause-same_bits_of_ipv4
unfolding has_rule rule_covers contains covers network
returns-clause-same_bits_of_ipv4 c options = refl

pub returns-clause-own_bits : goal.returns-clause-own_bits
unfolding has_rule rule_covers contains covers network
returns-clause-own_bits c options = refl

pub returns-clause-without_a_part : goal.returns-clause-without_a_part
unfolding has_rule rule_covers contains covers network
returns-clause-without_a_part c options = refl

pub returns-clause-beside_the_part : goal.returns-clause-beside_the_part
unfolding has_rule rule_covers contains covers network
returns-clause-beside_the_part c options = refl
