use Rattle.std.proofs.Common.{refl}
use Rattle.std.specs.Fmt.{digits}
use Rattle.pol_answer.proofs.laws.answer_examples.Goals as goal

pub returns-clause-commits : goal.returns-clause-commits
unfolding digits
returns-clause-commits c = refl

pub returns-clause-phase : goal.returns-clause-phase
unfolding digits
returns-clause-phase c = refl

pub returns-clause-looks : goal.returns-clause-looks
unfolding digits
returns-clause-looks c = refl

pub returns-clause-members : goal.returns-clause-members
unfolding digits
returns-clause-members c = refl

pub returns-clause-documents : goal.returns-clause-documents
unfolding digits
returns-clause-documents c = refl

pub returns-clause-rules : goal.returns-clause-rules
unfolding digits
returns-clause-rules c = refl

pub returns-clause-networks : goal.returns-clause-networks
unfolding digits
returns-clause-networks c = refl

pub returns-clause-requests : goal.returns-clause-requests
unfolding digits
returns-clause-requests c = refl
