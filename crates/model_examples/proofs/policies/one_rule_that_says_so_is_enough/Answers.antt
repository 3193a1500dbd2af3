use Rattle.std.proofs.Common.{refl}
use Rattle.pol_addr.specs.Cidr.{network}
use Rattle.pol_addr.specs.Prefix.{covers}
use Rattle.pol_ports.specs.declared.Direction.TheVariants.{Ingress, Egress}
use Rattle.pol_model.specs.Enforced.{has_rule}
use Rattle.pol_model.specs.Verdict.{rule_covers}
use Rattle.model_examples.proofs.policies.one_rule_that_says_so_is_enough.Goals as goal

pub returns-clause-no_and_yes : goal.returns-clause-no_and_yes
unfolding has_rule rule_covers covers network
returns-clause-no_and_yes c options Ingress = refl
returns-clause-no_and_yes c options Egress = refl

pub returns-clause-no_and_a_section : goal.returns-clause-no_and_a_section
unfolding has_rule rule_covers covers network
returns-clause-no_and_a_section c options Ingress = refl
returns-clause-no_and_a_section c options Egress = refl

pub returns-clause-yes_to_others : goal.returns-clause-yes_to_others
unfolding has_rule rule_covers covers network
returns-clause-yes_to_others c options Ingress = refl
returns-clause-yes_to_others c options Egress = refl

pub returns-clause-always : goal.returns-clause-always
unfolding has_rule rule_covers covers network
returns-clause-always c options Ingress = refl
returns-clause-always c options Egress = refl

pub returns-clause-never : goal.returns-clause-never
unfolding has_rule rule_covers covers network
returns-clause-never c options Ingress = refl
returns-clause-never c options Egress = refl

pub returns-clause-init : goal.returns-clause-init
unfolding has_rule rule_covers covers network
returns-clause-init c options Ingress = refl
returns-clause-init c options Egress = refl
