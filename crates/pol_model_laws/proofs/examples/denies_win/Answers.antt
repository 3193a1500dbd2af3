use Rattle.std.proofs.Common.{refl}
use Rattle.pol_addr.specs.Cidr.{network}
use Rattle.pol_addr.specs.Prefix.{covers}
use Rattle.pol_model.specs.Enforced.{has_rule}
use Rattle.pol_model.specs.Verdict.{rule_covers}
use Rattle.pol_model_laws.proofs.examples.denies_win.Goals as goal

pub returns-clause-allowed : goal.returns-clause-allowed
unfolding has_rule rule_covers covers network
returns-clause-allowed c options = refl

pub returns-clause-denied : goal.returns-clause-denied
unfolding has_rule rule_covers covers network
returns-clause-denied c options = refl

pub returns-clause-by_default : goal.returns-clause-by_default
unfolding has_rule rule_covers covers network
returns-clause-by_default c options = refl

pub returns-clause-not_enforced : goal.returns-clause-not_enforced
unfolding has_rule rule_covers covers network
returns-clause-not_enforced c options = refl
