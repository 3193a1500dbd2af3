use Rattle.std.proofs.Common.{refl}
use Rattle.std.specs.Fmt.{digits}
use Rattle.script_examples.proofs.documents.places_are_told.Goals as goal

pub returns-clause-unknown : goal.returns-clause-unknown
unfolding digits
returns-clause-unknown c = refl

pub returns-clause-shape : goal.returns-clause-shape
unfolding digits
returns-clause-shape c = refl

pub returns-clause-null_item : goal.returns-clause-null_item
unfolding digits
returns-clause-null_item c = refl

pub returns-clause-port : goal.returns-clause-port
unfolding digits
returns-clause-port c = refl

pub returns-clause-byte_order : goal.returns-clause-byte_order
unfolding digits
returns-clause-byte_order c = refl

pub returns-clause-spec_before_specs : goal.returns-clause-spec_before_specs
unfolding digits
returns-clause-spec_before_specs c = refl
