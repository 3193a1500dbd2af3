use Rattle.pol_model_laws.proofs.Canonical.{canonical_same}
use Rattle.pol_model_laws.proofs.map_laws.a_map_is_of_the_raw_entries.Goals as goal

pub returns : goal.returns
returns c = canonical_same
