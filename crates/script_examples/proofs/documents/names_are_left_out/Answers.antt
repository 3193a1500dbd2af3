use Rattle.std.proofs.Common.{refl}
use Rattle.std.specs.Fmt.{digits}
use Rattle.script_examples.proofs.documents.names_are_left_out.Goals as goal

pub returns-clause-rule : goal.returns-clause-rule
unfolding digits
returns-clause-rule c = refl

pub returns-clause-ingress : goal.returns-clause-ingress
unfolding digits
returns-clause-ingress c = refl

pub returns-clause-egress : goal.returns-clause-egress
unfolding digits
returns-clause-egress c = refl

pub returns-clause-cidr_set : goal.returns-clause-cidr_set
unfolding digits
returns-clause-cidr_set c = refl

pub returns-clause-port_item : goal.returns-clause-port_item
unfolding digits
returns-clause-port_item c = refl

pub returns-clause-unknown_rule : goal.returns-clause-unknown_rule
unfolding digits
returns-clause-unknown_rule c = refl

pub returns-clause-unknown_ingress : goal.returns-clause-unknown_ingress
unfolding digits
returns-clause-unknown_ingress c = refl

pub returns-clause-unknown_egress : goal.returns-clause-unknown_egress
unfolding digits
returns-clause-unknown_egress c = refl

pub returns-clause-unknown_port_item : goal.returns-clause-unknown_port_item
unfolding digits
returns-clause-unknown_port_item c = refl
