-- Policies as the documents that write them, of a CiliumNetworkPolicy or a CiliumClusterwideNetworkPolicy (Cilium, Network
-- Policy, "CiliumNetworkPolicy"). The members of an object stand in byte order, but for labels, which stand as they are
-- listed; what is empty is left out, but for what a member of an entry lists.
use Rattle.std.specs.Prelude.{ℕ, Bool, true, false, ◌||◌, if◌then◌else◌, List, [], ◌∷◌, codes, Option, None, Some, is_some, option_map}
use Rattle.serde_json.specs.Data.{Data, unsigned, boolean, number, string, object, Members, no_members, member}
use Rattle.document_laws.specs.Fields.{Fields, object_of, array_of, unless_empty}
use Rattle.pol_json.specs.Build.{by_direction}
use Rattle.pol_ports.specs.declared.Direction.{Direction}
use Rattle.pol_ports.specs.declared.Direction.TheVariants.{Ingress, Egress}
use Rattle.pol_rule.specs.declared.policy.DefaultDeny.{DefaultDeny}
use Rattle.pol_rule.specs.declared.policy.PolicyKey.{PolicyKey}
use Rattle.pol_rule.specs.declared.raw.RawCidrSet.{RawCidrSet}
use Rattle.pol_rule.specs.declared.raw.RawEntry.{RawEntry}
use Rattle.pol_rule.specs.declared.raw.RawExpression.{RawExpression}
use Rattle.pol_rule.specs.declared.raw.RawPair.{RawPair}
use Rattle.pol_rule.specs.declared.raw.RawPolicy.{RawPolicy}
use Rattle.pol_rule.specs.declared.raw.RawPort.{RawPort}
use Rattle.pol_rule.specs.declared.raw.RawPortItem.{RawPortItem}
use Rattle.pol_rule.specs.declared.raw.RawRule.{RawRule}
use Rattle.pol_rule.specs.declared.raw.RawSelector.{RawSelector}

abbrev pub texts_document : List (List ℕ) → Data
texts_document texts = array_of string texts

-- ---- selectors

abbrev pub label_members : List RawPair → Members
label_members [] = no_members
label_members (pair ∷ others) = member pair.key (string pair.value) (label_members others)

abbrev pub labels_document : List RawPair → Data
labels_document pairs = object (label_members pairs)

abbrev pub expression_fields : RawExpression → Fields
expression_fields expression =
    (codes "key", Some (string expression.key))
    ∷ (codes "operator", Some (string expression.operator))
    ∷ (codes "values", unless_empty texts_document expression.values)
    ∷ []

abbrev pub expression_document : RawExpression → Data
expression_document expression = object_of (expression_fields expression)

abbrev pub selector_fields : RawSelector → Fields
selector_fields selector =
    (codes "matchExpressions", unless_empty (array_of expression_document) selector.expressions)
    ∷ (codes "matchLabels", unless_empty labels_document selector.labels)
    ∷ []

abbrev pub selector_document : RawSelector → Data
selector_document selector = object_of (selector_fields selector)

-- ---- entries

abbrev pub cidr_set_fields : RawCidrSet → Fields
cidr_set_fields set =
    (codes "cidr", Some (string set.cidr))
    ∷ (codes "except", unless_empty texts_document set.except)
    ∷ []

abbrev pub cidr_set_document : RawCidrSet → Data
cidr_set_document set = object_of (cidr_set_fields set)

abbrev pub whole_document : ℕ → Data
whole_document n = number (unsigned n)

abbrev pub port_fields : RawPort → Fields
port_fields port =
    (codes "endPort", option_map whole_document port.end_port)
    ∷ (codes "port", Some (string port.port))
    ∷ (codes "protocol", unless_empty string port.protocol)
    ∷ []

abbrev pub port_document : RawPort → Data
port_document port = object_of (port_fields port)

abbrev pub port_item_fields : RawPortItem → Fields
port_item_fields item = (codes "ports", unless_empty (array_of port_document) item.ports) ∷ []

abbrev pub port_item_document : RawPortItem → Data
port_item_document item = object_of (port_item_fields item)

abbrev pub entry_fields : Direction → RawEntry → Fields
entry_fields dir entry =
    (by_direction dir (codes "fromCIDR") (codes "toCIDR"), option_map texts_document entry.cidrs)
    ∷ (by_direction dir (codes "fromCIDRSet") (codes "toCIDRSet"), option_map (array_of cidr_set_document) entry.cidr_sets)
    ∷ (by_direction dir (codes "fromEndpoints") (codes "toEndpoints"), option_map (array_of selector_document) entry.endpoints)
    ∷ (by_direction dir (codes "fromEntities") (codes "toEntities"), option_map texts_document entry.entities)
    ∷ (codes "toPorts", unless_empty (array_of port_item_document) entry.ports)
    ∷ []

abbrev pub entry_document : Direction → RawEntry → Data
entry_document dir entry = object_of (entry_fields dir entry)

-- ---- rules

abbrev pub section_document : Direction → List RawEntry → Data
section_document dir entries = array_of (entry_document dir) entries

abbrev pub default_deny_fields : DefaultDeny → Fields
default_deny_fields said =
    (codes "egress", option_map boolean said.egress)
    ∷ (codes "ingress", option_map boolean said.ingress)
    ∷ []

abbrev pub says_something : DefaultDeny → Bool
says_something said = is_some said.ingress || is_some said.egress

abbrev pub default_deny_document : DefaultDeny → Option Data
default_deny_document said = if says_something said then Some (object_of (default_deny_fields said)) else None

abbrev pub rule_fields : RawRule → Fields
rule_fields rule =
    (codes "egress", unless_empty (section_document Egress) rule.egress)
    ∷ (codes "egressDeny", unless_empty (section_document Egress) rule.egress_deny)
    ∷ (codes "enableDefaultDeny", default_deny_document rule.default_deny)
    ∷ (codes "endpointSelector", option_map selector_document rule.subject)
    ∷ (codes "ingress", unless_empty (section_document Ingress) rule.ingress)
    ∷ (codes "ingressDeny", unless_empty (section_document Ingress) rule.ingress_deny)
    ∷ []

abbrev pub rule_document : RawRule → Data
rule_document rule = object_of (rule_fields rule)

-- ---- policies

abbrev pub kind_text : Bool → List ℕ
kind_text true = codes "CiliumClusterwideNetworkPolicy"
kind_text false = codes "CiliumNetworkPolicy"

-- a cluster-wide policy is in no namespace
abbrev pub namespace_document : Bool → List ℕ → Option Data
namespace_document true namespace = None
namespace_document false namespace = Some (string namespace)

abbrev pub metadata_fields : PolicyKey → Fields
metadata_fields key =
    (codes "name", Some (string key.name))
    ∷ (codes "namespace", namespace_document key.cluster_wide key.namespace)
    ∷ []

abbrev pub metadata_document : PolicyKey → Data
metadata_document key = object_of (metadata_fields key)

abbrev pub policy_fields : PolicyKey → Option RawRule → List RawRule → Fields
policy_fields key spec specs =
    (codes "apiVersion", Some (string (codes "cilium.io/v2")))
    ∷ (codes "kind", Some (string (kind_text key.cluster_wide)))
    ∷ (codes "metadata", Some (metadata_document key))
    ∷ (codes "spec", option_map rule_document spec)
    ∷ (codes "specs", unless_empty (array_of rule_document) specs)
    ∷ []

-- the policy of this key, with a rule in `spec` where there is one, and with the others in `specs`
abbrev pub document_with : PolicyKey → Option RawRule → List RawRule → Data
document_with key spec specs = object_of (policy_fields key spec specs)

-- the first rule stands in `spec`, and the others in `specs`
abbrev pub ruled_document : PolicyKey → List RawRule → Data
ruled_document key [] = document_with key None []
ruled_document key (rule ∷ others) = document_with key (Some rule) others

abbrev pub document_of : RawPolicy → Data
document_of policy = ruled_document policy.key policy.rules

-- each rule stands in `specs`
abbrev pub listed_document_of : RawPolicy → Data
listed_document_of policy = document_with policy.key None policy.rules
