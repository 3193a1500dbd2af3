use Rattle.pol_map_changes.proofs.Differences.{differences_lead}
use Rattle.pol_map_changes.proofs.laws.differences_lead.Goals as goal

pub returns : goal.returns
returns c = differences_lead
