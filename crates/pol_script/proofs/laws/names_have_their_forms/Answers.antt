-- The laws are lemmas.
use Rattle.pol_script.proofs.ReadNames.{endpoint_name, policy_name, policy_namespace, policy_wide, policy_of_cilium}
use Rattle.pol_script.proofs.laws.names_have_their_forms.Goals as goal

pub returns : goal.returns
returns c = record { endpoint = endpoint_name; policy = policy_name; namespace = policy_namespace; cluster_wide = policy_wide; of_cilium = policy_of_cilium }
