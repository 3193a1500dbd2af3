-- What a NetworkPolicy has to meet so that a document can write it: it has a key that documents give. Nothing else is judged before
-- the object is.
use Rattle.std.specs.Prelude.{◌≡◌, ◌++◌, false, IsTrue}
use Rattle.document_laws.specs.NetworkWritten.{net_front, net_name}
use Rattle.pol_json.specs.Texts.{is_dns_name}
use Rattle.pol_netpol.specs.declared.raw.RawNetworkPolicy.{RawNetworkPolicy}
use Rattle.pol_rule.specs.declared.policy.PolicyKey.{PolicyKey}

-- the object is in a namespace, and its name stands behind `networkpolicy/`; both names are those of Kubernetes
pub record IsWellFormedNetKey (key : PolicyKey) : Type 0 where
  pub not_wide : key.cluster_wide ≡ false
  pub namespace : IsTrue (is_dns_name key.namespace)
  pub front : key.name ≡ net_front ++ net_name key
  pub name : IsTrue (is_dns_name (net_name key))

abbrev pub IsWellFormedNetwork : RawNetworkPolicy → Type 0
IsWellFormedNetwork policy = IsWellFormedNetKey policy.key
