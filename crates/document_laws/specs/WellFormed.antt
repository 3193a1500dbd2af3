-- What a written policy has to meet so that a document can write it: nothing that the profile leaves out stands in its texts,
-- it has a key that documents give, and it has a rule.
use Rattle.std.specs.Prelude.{◌≡◌, ◌≢◌, not, true, false, List, [], IsTrue}
use Rattle.std.specs.List.{AllByRecursion, list_any}
use Rattle.pol_json.specs.Places.{is_icmp}
use Rattle.pol_json.specs.Texts.{is_dns_name, is_letter}
use Rattle.pol_rule.specs.declared.policy.PolicyKey.{PolicyKey}
use Rattle.pol_rule.specs.declared.raw.RawEntry.{RawEntry}
use Rattle.pol_rule.specs.declared.raw.RawPolicy.{RawPolicy}
use Rattle.pol_rule.specs.declared.raw.RawPort.{RawPort}
use Rattle.pol_rule.specs.declared.raw.RawPortItem.{RawPortItem}
use Rattle.pol_rule.specs.declared.raw.RawRule.{RawRule}

-- a port text with a letter is a named port; ICMP has no ports
pub record IsWellFormedPort (port : RawPort) : Type 0 where
  pub port_text : IsTrue (not (list_any is_letter port.port))
  pub protocol : IsTrue (not (is_icmp port.protocol))

abbrev pub IsWellFormedItem : RawPortItem → Type 0
IsWellFormedItem item = AllByRecursion IsWellFormedPort item.ports

abbrev pub IsWellFormedEntry : RawEntry → Type 0
IsWellFormedEntry entry = AllByRecursion IsWellFormedItem entry.ports

abbrev pub IsWellFormedSection : List RawEntry → Type 0
IsWellFormedSection entries = AllByRecursion IsWellFormedEntry entries

pub record IsWellFormedRule (rule : RawRule) : Type 0 where
  pub ingress : IsWellFormedSection rule.ingress
  pub ingress_deny : IsWellFormedSection rule.ingress_deny
  pub egress : IsWellFormedSection rule.egress
  pub egress_deny : IsWellFormedSection rule.egress_deny

-- names are those of Kubernetes; a policy is in a namespace, unless it is cluster-wide, and then in none
pub record IsWellFormedKey (key : PolicyKey) : Type 0 where
  pub name : IsTrue (is_dns_name key.name)
  pub namespace : key.cluster_wide ≡ false → IsTrue (is_dns_name key.namespace)
  pub no_namespace : key.cluster_wide ≡ true → key.namespace ≡ []

-- a document without a rule isn't read
pub record IsWellFormed (policy : RawPolicy) : Type 0 where
  pub key : IsWellFormedKey policy.key
  pub some_rule : policy.rules ≢ []
  pub rules : AllByRecursion IsWellFormedRule policy.rules
