use Rattle.pol_set_changes.proofs.NetLemmas.{differences_lead}
use Rattle.pol_set_changes.proofs.laws.a_difference_leads_from_set_to_set.Goals as goal

pub returns : goal.returns
returns c = differences_lead
