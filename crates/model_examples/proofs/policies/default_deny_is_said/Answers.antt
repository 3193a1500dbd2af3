use Rattle.std.proofs.Common.{refl}
use Rattle.pol_addr.specs.Cidr.{network}
use Rattle.pol_addr.specs.Prefix.{covers}
use Rattle.pol_ports.specs.declared.Direction.TheVariants.{Ingress, Egress}
use Rattle.pol_model.specs.Enforced.{has_rule}
use Rattle.pol_model.specs.Verdict.{rule_covers}
use Rattle.model_examples.proofs.policies.default_deny_is_said.Goals as goal

pub returns-clause-absent : goal.returns-clause-absent
unfolding has_rule rule_covers covers network
returns-clause-absent c options Ingress = refl
returns-clause-absent c options Egress = refl

pub returns-clause-absent_allows : goal.returns-clause-absent_allows
unfolding has_rule rule_covers covers network
returns-clause-absent_allows c options Ingress = refl
returns-clause-absent_allows c options Egress = refl

pub returns-clause-absent_denies : goal.returns-clause-absent_denies
unfolding has_rule rule_covers covers network
returns-clause-absent_denies c options Ingress = refl
returns-clause-absent_denies c options Egress = refl

pub returns-clause-absent_covers_nothing : goal.returns-clause-absent_covers_nothing
unfolding has_rule rule_covers covers network
returns-clause-absent_covers_nothing c options Ingress = refl
returns-clause-absent_covers_nothing c options Egress = refl

pub returns-clause-yes : goal.returns-clause-yes
unfolding has_rule rule_covers covers network
returns-clause-yes c options Ingress = refl
returns-clause-yes c options Egress = refl

pub returns-clause-yes_allows : goal.returns-clause-yes_allows
unfolding has_rule rule_covers covers network
returns-clause-yes_allows c options Ingress = refl
returns-clause-yes_allows c options Egress = refl

pub returns-clause-yes_denies : goal.returns-clause-yes_denies
unfolding has_rule rule_covers covers network
returns-clause-yes_denies c options Ingress = refl
returns-clause-yes_denies c options Egress = refl

pub returns-clause-no : goal.returns-clause-no
unfolding has_rule rule_covers covers network
returns-clause-no c options Ingress = refl
returns-clause-no c options Egress = refl

pub returns-clause-no_allows : goal.returns-clause-no_allows
unfolding has_rule rule_covers covers network
returns-clause-no_allows c options Ingress = refl
returns-clause-no_allows c options Egress = refl

pub returns-clause-no_denies : goal.returns-clause-no_denies
unfolding has_rule rule_covers covers network
returns-clause-no_denies c options Ingress = refl
returns-clause-no_denies c options Egress = refl

pub returns-clause-no_covers_nothing : goal.returns-clause-no_covers_nothing
unfolding has_rule rule_covers covers network
returns-clause-no_covers_nothing c options Ingress = refl
returns-clause-no_covers_nothing c options Egress = refl

pub returns-clause-yes_of_the_other : goal.returns-clause-yes_of_the_other
unfolding has_rule rule_covers covers network
returns-clause-yes_of_the_other c options Ingress = refl
returns-clause-yes_of_the_other c options Egress = refl

pub returns-clause-no_of_the_other : goal.returns-clause-no_of_the_other
unfolding has_rule rule_covers covers network
returns-clause-no_of_the_other c options Ingress = refl
returns-clause-no_of_the_other c options Egress = refl
