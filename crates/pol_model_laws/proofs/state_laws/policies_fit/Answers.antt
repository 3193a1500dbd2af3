use Rattle.pol_model_laws.proofs.LocalNumbers.{policies_fit}
use Rattle.pol_model_laws.proofs.state_laws.policies_fit.Goals as goal

pub returns : goal.returns
returns c = policies_fit
