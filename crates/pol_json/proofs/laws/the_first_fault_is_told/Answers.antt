use Rattle.pol_json.proofs.FirstFaults.{refused_at_the_first}
use Rattle.pol_json.proofs.laws.the_first_fault_is_told.Goals as goal

pub returns : goal.returns
returns c = refused_at_the_first
