use Rattle.std.proofs.Common.{refl}
use Rattle.std.specs.Fmt.{digits}
use Rattle.pol_netpol.proofs.document_examples.heads_are_told.Goals as goal

pub returns-clause-of_cilium : goal.returns-clause-of_cilium
unfolding digits
returns-clause-of_cilium c = refl

pub returns-clause-kind : goal.returns-clause-kind
unfolding digits
returns-clause-kind c = refl

pub returns-clause-no_name : goal.returns-clause-no_name
unfolding digits
returns-clause-no_name c = refl

pub returns-clause-no_selector : goal.returns-clause-no_selector
unfolding digits
returns-clause-no_selector c = refl
