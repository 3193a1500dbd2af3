use Rattle.pol_model_laws.proofs.Positive.{rows_positive}
use Rattle.pol_model_laws.proofs.map_laws.zero_is_no_identity.Goals as goal

pub returns : goal.returns
returns c = rows_positive
