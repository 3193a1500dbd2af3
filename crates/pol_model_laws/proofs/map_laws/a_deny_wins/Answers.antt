use Rattle.pol_model_laws.proofs.Canonical.{canonical_denies}
use Rattle.pol_model_laws.proofs.map_laws.a_deny_wins.Goals as goal

pub returns : goal.returns
returns c = canonical_denies
