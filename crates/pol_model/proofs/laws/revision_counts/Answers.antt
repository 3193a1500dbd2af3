use Rattle.pol_model.proofs.Histories.{state_of-revision}
use Rattle.pol_model.proofs.laws.revision_counts.Goals as goal

pub returns : goal.returns
returns c = state_of-revision
