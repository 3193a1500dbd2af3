use Rattle.std.proofs.Common.{refl}
use Rattle.std.specs.Fmt.{digits}
use Rattle.script_examples.proofs.answers.faults_of_requests.Goals as goal

pub returns-clause-endpoints : goal.returns-clause-endpoints
unfolding digits
returns-clause-endpoints c = refl

pub returns-clause-identities : goal.returns-clause-identities
unfolding digits
returns-clause-identities c = refl

pub returns-clause-policies : goal.returns-clause-policies
unfolding digits
returns-clause-policies c = refl
