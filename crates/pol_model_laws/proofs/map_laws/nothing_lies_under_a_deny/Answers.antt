use Rattle.pol_model_laws.proofs.Canonical.{canonical_under_none}
use Rattle.pol_model_laws.proofs.map_laws.nothing_lies_under_a_deny.Goals as goal

pub returns : goal.returns
returns c = canonical_under_none
