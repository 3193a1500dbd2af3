use Rattle.pol_model_laws.proofs.PolicyHolders.{policy_differ}
use Rattle.pol_prefixes.proofs.laws.policies_name_prefixes_once.Goals as goal

pub returns : goal.returns
returns c = policy_differ
