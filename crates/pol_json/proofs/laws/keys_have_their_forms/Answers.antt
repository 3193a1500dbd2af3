-- The laws are lemmas.
use Rattle.pol_json.proofs.Keys.{key_name, key_namespace, wide_key}
use Rattle.pol_json.proofs.laws.keys_have_their_forms.Goals as goal

pub returns : goal.returns
returns c = record { name = key_name; namespace = key_namespace; cluster_wide = wide_key }
