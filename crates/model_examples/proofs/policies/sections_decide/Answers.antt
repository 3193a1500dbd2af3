use Rattle.std.proofs.Common.{refl}
use Rattle.pol_addr.specs.Cidr.{network}
use Rattle.pol_addr.specs.Prefix.{covers}
use Rattle.pol_model.specs.Enforced.{has_rule}
use Rattle.pol_model.specs.Verdict.{rule_covers}
use Rattle.model_examples.proofs.policies.sections_decide.Goals as goal

pub returns-clause-none : goal.returns-clause-none
unfolding has_rule rule_covers covers network
returns-clause-none c options = refl

pub returns-clause-ingress : goal.returns-clause-ingress
unfolding has_rule rule_covers covers network
returns-clause-ingress c options = refl

pub returns-clause-ingress_alone : goal.returns-clause-ingress_alone
unfolding has_rule rule_covers covers network
returns-clause-ingress_alone c options = refl

pub returns-clause-ingress_deny : goal.returns-clause-ingress_deny
unfolding has_rule rule_covers covers network
returns-clause-ingress_deny c options = refl

pub returns-clause-ingress_deny_alone : goal.returns-clause-ingress_deny_alone
unfolding has_rule rule_covers covers network
returns-clause-ingress_deny_alone c options = refl

pub returns-clause-egress : goal.returns-clause-egress
unfolding has_rule rule_covers covers network
returns-clause-egress c options = refl

pub returns-clause-egress_alone : goal.returns-clause-egress_alone
unfolding has_rule rule_covers covers network
returns-clause-egress_alone c options = refl

pub returns-clause-egress_deny : goal.returns-clause-egress_deny
unfolding has_rule rule_covers covers network
returns-clause-egress_deny c options = refl

pub returns-clause-egress_deny_alone : goal.returns-clause-egress_deny_alone
unfolding has_rule rule_covers covers network
returns-clause-egress_deny_alone c options = refl

pub returns-clause-ingress_part : goal.returns-clause-ingress_part
unfolding has_rule rule_covers covers network
returns-clause-ingress_part c options = refl

pub returns-clause-egress_part : goal.returns-clause-egress_part
unfolding has_rule rule_covers covers network
returns-clause-egress_part c options = refl
