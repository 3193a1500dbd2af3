use Rattle.pol_model_laws.proofs.Canonical.{canonical_keys}
use Rattle.pol_model_laws.proofs.map_laws.which_keys_a_map_has.Goals as goal

pub returns : goal.returns
returns c = canonical_keys
