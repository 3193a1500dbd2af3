use Rattle.std.proofs.Common.{refl}
use Rattle.std.specs.Fmt.{digits}
use Rattle.pol_netpol.proofs.document_examples.documents_are_objects.Goals as goal

pub returns-clause-web : goal.returns-clause-web
unfolding digits
returns-clause-web c = refl

pub returns-clause-deny : goal.returns-clause-deny
unfolding digits
returns-clause-deny c = refl

pub returns-clause-opened : goal.returns-clause-opened
unfolding digits
returns-clause-opened c = refl

pub returns-clause-null_members : goal.returns-clause-null_members
unfolding digits
returns-clause-null_members c = refl
