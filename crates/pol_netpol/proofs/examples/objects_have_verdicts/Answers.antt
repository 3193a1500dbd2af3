-- They compute.
use Rattle.std.proofs.Common.{refl}
use Rattle.pol_model.specs.Enforced.{has_rule}
use Rattle.pol_model.specs.Verdict.{rule_covers}
use Rattle.pol_netpol.proofs.examples.objects_have_verdicts.Goals as goal

pub returns-clause-web : goal.returns-clause-web
unfolding has_rule rule_covers
returns-clause-web c options = refl

pub returns-clause-db : goal.returns-clause-db
unfolding has_rule rule_covers
returns-clause-db c options = refl

pub returns-clause-egress : goal.returns-clause-egress
unfolding has_rule rule_covers
returns-clause-egress c options = refl

pub returns-clause-denied : goal.returns-clause-denied
unfolding has_rule rule_covers
returns-clause-denied c options = refl

pub returns-clause-opened : goal.returns-clause-opened
unfolding has_rule rule_covers
returns-clause-opened c options = refl
