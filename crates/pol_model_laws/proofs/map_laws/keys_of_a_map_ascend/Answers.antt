use Rattle.pol_model_laws.proofs.Canonical.{canonical_ascends, canonical_once}
use Rattle.pol_model_laws.proofs.map_laws.keys_of_a_map_ascend.Goals as goal

pub returns : goal.returns
returns c = record {
  ascend = canonical_ascends;
  once = canonical_once;
}
