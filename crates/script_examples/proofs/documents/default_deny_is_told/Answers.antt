use Rattle.std.proofs.Common.{refl}
use Rattle.std.specs.Fmt.{digits}
use Rattle.script_examples.proofs.documents.default_deny_is_told.Goals as goal

pub returns-clause-both : goal.returns-clause-both
unfolding digits
returns-clause-both c = refl

pub returns-clause-other_way : goal.returns-clause-other_way
unfolding digits
returns-clause-other_way c = refl

pub returns-clause-ingress : goal.returns-clause-ingress
unfolding digits
returns-clause-ingress c = refl

pub returns-clause-egress : goal.returns-clause-egress
unfolding digits
returns-clause-egress c = refl

pub returns-clause-nothing : goal.returns-clause-nothing
unfolding digits
returns-clause-nothing c = refl

pub returns-clause-null : goal.returns-clause-null
unfolding digits
returns-clause-null c = refl

pub returns-clause-null_members : goal.returns-clause-null_members
unfolding digits
returns-clause-null_members c = refl

pub returns-clause-unknown : goal.returns-clause-unknown
unfolding digits
returns-clause-unknown c = refl

pub returns-clause-of_text : goal.returns-clause-of_text
unfolding digits
returns-clause-of_text c = refl

pub returns-clause-of_list : goal.returns-clause-of_list
unfolding digits
returns-clause-of_list c = refl

pub returns-clause-of_truth : goal.returns-clause-of_truth
unfolding digits
returns-clause-of_truth c = refl

pub returns-clause-word : goal.returns-clause-word
unfolding digits
returns-clause-word c = refl

pub returns-clause-number : goal.returns-clause-number
unfolding digits
returns-clause-number c = refl

pub returns-clause-byte_order : goal.returns-clause-byte_order
unfolding digits
returns-clause-byte_order c = refl
