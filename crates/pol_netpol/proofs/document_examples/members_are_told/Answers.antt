use Rattle.std.proofs.Common.{refl}
use Rattle.std.specs.Fmt.{digits}
use Rattle.pol_netpol.proofs.document_examples.members_are_told.Goals as goal

pub returns-clause-of_cilium : goal.returns-clause-of_cilium
unfolding digits
returns-clause-of_cilium c = refl

pub returns-clause-of_egress : goal.returns-clause-of_egress
unfolding digits
returns-clause-of_egress c = refl

pub returns-clause-of_ingress : goal.returns-clause-of_ingress
unfolding digits
returns-clause-of_ingress c = refl

pub returns-clause-named_port : goal.returns-clause-named_port
unfolding digits
returns-clause-named_port c = refl

pub returns-clause-port : goal.returns-clause-port
unfolding digits
returns-clause-port c = refl

pub returns-clause-no_cidr : goal.returns-clause-no_cidr
unfolding digits
returns-clause-no_cidr c = refl

pub returns-clause-document_first : goal.returns-clause-document_first
unfolding digits
returns-clause-document_first c = refl

pub returns-clause-no_member : goal.returns-clause-no_member
unfolding digits
returns-clause-no_member c = refl
