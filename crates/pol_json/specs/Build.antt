-- The policy of a document, member by member. Where a member is absent, what stands for it is empty.
use Rattle.std.specs.Prelude.{ℕ, Bool, if◌then◌else◌, List, [], ◌∷◌, ◌++◌, codes, map, Option, option_map, option_and_then, unwrap_or}
use Rattle.serde_json.specs.Data.{Data, Members, no_members, member}
use Rattle.serde_json.specs.Find.{as_bool, as_str, as_object, as_number, as_u64}
use Rattle.pol_json.specs.Members.{is_null, is_text, present, text_at, list_at}
use Rattle.pol_ports.specs.declared.Direction.{Direction}
use Rattle.pol_ports.specs.declared.Direction.TheVariants.{Ingress, Egress}
use Rattle.pol_rule.specs.DefaultDeny.{nothing_said}
use Rattle.pol_rule.specs.declared.policy.DefaultDeny.{DefaultDeny}
use Rattle.pol_rule.specs.declared.policy.PolicyKey.{PolicyKey}
use Rattle.pol_rule.specs.declared.raw.RawCidrSet.{RawCidrSet}
use Rattle.pol_rule.specs.declared.raw.RawEntry.{RawEntry}
use Rattle.pol_rule.specs.declared.raw.RawExpression.{RawExpression}
use Rattle.pol_rule.specs.declared.raw.RawPair.{RawPair}
use Rattle.pol_rule.specs.declared.raw.RawPolicy.{RawPolicy}
use Rattle.pol_rule.specs.declared.raw.RawPort.{RawPort}
use Rattle.pol_rule.specs.declared.raw.RawPortItem.{RawPortItem}
use Rattle.pol_rule.specs.declared.raw.RawRule.{RawRule}
use Rattle.pol_rule.specs.declared.raw.RawSelector.{RawSelector}

-- the text that a value is
abbrev pub text_of : Data → List ℕ
text_of d = unwrap_or (as_str d) []

-- the text of a member
abbrev pub member_text : List ℕ → Data → List ℕ
member_text name d = unwrap_or (text_at name d) []

-- a member, as `of` has it; none where it is absent
abbrev pub member_of : {A : Type 0} → (Data → A) → List ℕ → Data → Option A
member_of of name d = option_map of (present name d)

-- the items of a member, each as `of` has it
abbrev pub member_items : {A : Type 0} → (Data → A) → List ℕ → Data → List A
member_items of name d = map of (unwrap_or (list_at name d) [])

-- the same, none where the member is absent
abbrev pub items_if_there : {A : Type 0} → (Data → A) → List ℕ → Data → Option (List A)
items_if_there of name d = option_map (map of) (list_at name d)

-- ---- selectors

abbrev pub pairs_of : Members → List RawPair
pairs_of no_members = []
pairs_of (member name d others) =
    if is_null d then pairs_of others else record { key = name; value = text_of d } ∷ pairs_of others

abbrev pub expression_of : Data → RawExpression
expression_of d =
    record { key = member_text (codes "key") d; operator = member_text (codes "operator") d; values = member_items text_of (codes "values") d }

abbrev pub labels_of : Data → List RawPair
labels_of d = unwrap_or (option_map pairs_of (option_and_then as_object (present (codes "matchLabels") d))) []

abbrev pub selector_of : Data → RawSelector
selector_of d = record { labels = labels_of d; expressions = member_items expression_of (codes "matchExpressions") d }

-- ---- entries

abbrev pub cidr_set_of : Data → RawCidrSet
cidr_set_of d = record { cidr = member_text (codes "cidr") d; except = member_items text_of (codes "except") d }

abbrev pub port_of : Data → RawPort
port_of d =
    record {
      port = member_text (codes "port") d;
      protocol = member_text (codes "protocol") d;
      end_port = option_and_then as_u64 (option_and_then as_number (present (codes "endPort") d));
    }

abbrev pub port_item_of : Data → RawPortItem
port_item_of d = record { ports = member_items port_of (codes "ports") d }

-- the first of two names is that of `ingress`
abbrev pub by_direction : Direction → List ℕ → List ℕ → List ℕ
by_direction Ingress from to = from
by_direction Egress from to = to

abbrev pub entry_of : Direction → Data → RawEntry
entry_of dir d =
    record {
      endpoints = items_if_there selector_of (by_direction dir (codes "fromEndpoints") (codes "toEndpoints")) d;
      cidrs = items_if_there text_of (by_direction dir (codes "fromCIDR") (codes "toCIDR")) d;
      cidr_sets = items_if_there cidr_set_of (by_direction dir (codes "fromCIDRSet") (codes "toCIDRSet")) d;
      entities = items_if_there text_of (by_direction dir (codes "fromEntities") (codes "toEntities")) d;
      ports = member_items port_item_of (codes "toPorts") d;
    }

-- ---- rules and the policy

-- whether a member is true or false; none where it is absent
abbrev pub member_bool : List ℕ → Data → Option Bool
member_bool name d = option_and_then as_bool (present name d)

abbrev pub default_deny_of : Data → DefaultDeny
default_deny_of d = record { ingress = member_bool (codes "ingress") d; egress = member_bool (codes "egress") d }

-- what a rule says of default deny
abbrev pub default_deny_at : Data → DefaultDeny
default_deny_at d = unwrap_or (member_of default_deny_of (codes "enableDefaultDeny") d) nothing_said

abbrev pub rule_of : Data → RawRule
rule_of d =
    record {
      subject = member_of selector_of (codes "endpointSelector") d;
      ingress = member_items (entry_of Ingress) (codes "ingress") d;
      ingress_deny = member_items (entry_of Ingress) (codes "ingressDeny") d;
      egress = member_items (entry_of Egress) (codes "egress") d;
      egress_deny = member_items (entry_of Egress) (codes "egressDeny") d;
      default_deny = default_deny_at d;
    }

-- a rule, then those of `specs`
abbrev pub rules_with : Option Data → Data → List RawRule
rules_with spec d = unwrap_or (option_map (λ spec. rule_of spec ∷ []) spec) [] ++ member_items rule_of (codes "specs") d

-- the rule of `spec`, then those of `specs`
abbrev pub rules_of : Data → List RawRule
rules_of d = rules_with (present (codes "spec") d) d

-- the namespace of a policy that names none (Kubernetes, "Namespaces")
abbrev pub default_namespace : List ℕ
default_namespace = codes "default"

-- the text of a member of the metadata, or else
abbrev pub metadata_text : List ℕ → List ℕ → Data → List ℕ
metadata_text name otherwise d = unwrap_or (option_and_then (text_at name) (present (codes "metadata") d)) otherwise

abbrev pub is_cluster_wide : Data → Bool
is_cluster_wide d = is_text (codes "CiliumClusterwideNetworkPolicy") (text_at (codes "kind") d)

-- a cluster-wide policy has none
abbrev pub namespace_of : Data → List ℕ
namespace_of d = if is_cluster_wide d then [] else metadata_text (codes "namespace") default_namespace d

abbrev pub key_of : Data → PolicyKey
key_of d = record { cluster_wide = is_cluster_wide d; namespace = namespace_of d; name = metadata_text (codes "name") [] d }

-- the key of a policy of a kind, with this metadata and this name
abbrev pub key_with : Bool → Data → List ℕ → PolicyKey
key_with cluster_wide metadata name =
    record {
      cluster_wide = cluster_wide;
      namespace = if cluster_wide then [] else unwrap_or (text_at (codes "namespace") metadata) default_namespace;
      name = name;
    }

abbrev pub policy_of : Data → RawPolicy
policy_of d = record { key = key_of d; rules = rules_of d }
