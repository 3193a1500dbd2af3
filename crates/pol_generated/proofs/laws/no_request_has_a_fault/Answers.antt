-- The law is a lemma.
use Rattle.pol_generated.proofs.Faultless.{requests_commit}
use Rattle.pol_generated.proofs.laws.no_request_has_a_fault.Goals as goal

pub returns : goal.returns
returns c = requests_commit
