use Rattle.std.proofs.Common.{refl}
use Rattle.std.specs.Fmt.{digits}
use Rattle.script_examples.proofs.documents.heads_are_in_order.Goals as goal

pub returns-clause-no_policy : goal.returns-clause-no_policy
unfolding digits
returns-clause-no_policy c = refl

pub returns-clause-version : goal.returns-clause-version
unfolding digits
returns-clause-version c = refl

pub returns-clause-of_another_kind : goal.returns-clause-of_another_kind
unfolding digits
returns-clause-of_another_kind c = refl

pub returns-clause-no_metadata : goal.returns-clause-no_metadata
unfolding digits
returns-clause-no_metadata c = refl

pub returns-clause-no_name : goal.returns-clause-no_name
unfolding digits
returns-clause-no_name c = refl

pub returns-clause-empty_name : goal.returns-clause-empty_name
unfolding digits
returns-clause-empty_name c = refl

pub returns-clause-no_spec : goal.returns-clause-no_spec
unfolding digits
returns-clause-no_spec c = refl

pub returns-clause-null_spec : goal.returns-clause-null_spec
unfolding digits
returns-clause-null_spec c = refl

pub returns-clause-empty_specs : goal.returns-clause-empty_specs
unfolding digits
returns-clause-empty_specs c = refl

pub returns-clause-specs_of_text : goal.returns-clause-specs_of_text
unfolding digits
returns-clause-specs_of_text c = refl

pub returns-clause-specs_of_null : goal.returns-clause-specs_of_null
unfolding digits
returns-clause-specs_of_null c = refl

pub returns-clause-before_members : goal.returns-clause-before_members
unfolding digits
returns-clause-before_members c = refl
