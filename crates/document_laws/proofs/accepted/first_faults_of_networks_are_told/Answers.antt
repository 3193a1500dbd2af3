use Rattle.document_laws.proofs.NetworkFaults.{accepted_none, refused_first}
use Rattle.document_laws.proofs.accepted.first_faults_of_networks_are_told.Goals as goal

pub returns-clause-is_one : goal.returns-clause-is_one
returns-clause-is_one c = λ raw fault is. (refused_first raw fault is).0

pub returns-clause-first : goal.returns-clause-first
returns-clause-first c = λ raw fault other is has. (refused_first raw fault is).1 other has

pub returns-clause-none : goal.returns-clause-none
returns-clause-none c = accepted_none
