use Rattle.std.proofs.Common.{refl}
use Rattle.pol_addr.specs.Cidr.{network}
use Rattle.pol_addr.specs.Prefix.{contains, covers}
use Rattle.pol_model.specs.Enforced.{has_rule}
use Rattle.pol_model.specs.Verdict.{rule_covers}
use Rattle.model_examples.proofs.families.worlds_have_their_prefixes.Goals as goal

pub returns-clause-prefixes : goal.returns-clause-prefixes
unfolding has_rule rule_covers contains covers network
returns-clause-prefixes c = refl

pub returns-clause-no_number : goal.returns-clause-no_number
unfolding has_rule rule_covers contains covers network
returns-clause-no_number c options = refl

pub returns-clause-removed : goal.returns-clause-removed
unfolding has_rule rule_covers contains covers network
returns-clause-removed c options = refl

pub returns-clause-ipv4_released : goal.returns-clause-ipv4_released
unfolding has_rule rule_covers contains covers network
returns-clause-ipv4_released c = refl

pub returns-clause-ipv6_released : goal.returns-clause-ipv6_released
unfolding has_rule rule_covers contains covers network
returns-clause-ipv6_released c = refl

pub returns-clause-two_numbers : goal.returns-clause-two_numbers
unfolding has_rule rule_covers contains covers network
returns-clause-two_numbers c options = refl

pub returns-clause-two_addresses : goal.returns-clause-two_addresses
unfolding has_rule rule_covers contains covers network
returns-clause-two_addresses c options = refl

pub returns-clause-endpoint : goal.returns-clause-endpoint
unfolding has_rule rule_covers contains covers network
returns-clause-endpoint c options = refl

pub returns-clause-other_address : goal.returns-clause-other_address
unfolding has_rule rule_covers contains covers network
returns-clause-other_address c options = refl
