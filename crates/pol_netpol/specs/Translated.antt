-- The policy that a NetworkPolicy is translated to (Cilium, Network Policy, "Kubernetes NetworkPolicy").
--
-- A part that can't be read gives nothing here. An object with such a part has a fault.
use Rattle.std.specs.Prelude.{ℕ, false, if◌then◌else◌, List, [], ◌∷◌, ◌++◌, map, filter_map, codes, Option, None, Some, option_map, option_and_then, unwrap_or, Result}
use Rattle.std.specs.List.{cons_option}
use Rattle.pol_labels.specs.WellFormed.{all_well_formed}
use Rattle.pol_labels.specs.declared.requirement.Operator.{Operator}
use Rattle.pol_labels.specs.declared.requirement.Operator.TheVariants.{OneOf}
use Rattle.pol_labels.specs.declared.requirement.Requirement.{Requirement}
use Rattle.pol_ports.specs.PortRange.{range_from}
use Rattle.pol_ports.specs.declared.Direction.{Direction}
use Rattle.pol_ports.specs.declared.Direction.TheVariants.{Ingress, Egress}
use Rattle.pol_ports.specs.declared.PortRange.{PortRange}
use Rattle.pol_rule.specs.declared.fault.RuleFault.{RuleFault}
use Rattle.pol_rule.specs.declared.policy.DefaultDeny.{DefaultDeny}
use Rattle.pol_rule.specs.declared.policy.Entry.{Entry}
use Rattle.pol_rule.specs.declared.policy.Peer.{Peer}
use Rattle.pol_rule.specs.declared.policy.Peer.TheVariants.{Labels}
use Rattle.pol_rule.specs.declared.policy.Peers.{Peers}
use Rattle.pol_rule.specs.declared.policy.Peers.TheVariants.{Every, Listed}
use Rattle.pol_rule.specs.declared.policy.Policy.{Policy}
use Rattle.pol_rule.specs.declared.policy.PortSpec.{PortSpec}
use Rattle.pol_rule.specs.declared.policy.Rule.{Rule}
use Rattle.pol_rule.specs.declared.raw.RawCidrSet.{RawCidrSet}
use Rattle.pol_rule.specs.declared.raw.RawExpression.{RawExpression}
use Rattle.pol_rule.specs.declared.raw.RawPair.{RawPair}
use Rattle.pol_rule.specs.declared.raw.RawSelector.{RawSelector}
use Rattle.pol_sanitize.specs.Keys.{namespace_labels}
use Rattle.pol_sanitize.specs.Peers.{set_peer}
use Rattle.pol_sanitize.specs.Ports.{number_to, port_max}
use Rattle.pol_sanitize.specs.Sanitized.{judged}
use Rattle.pol_sanitize.specs.Selectors.{has_namespace, is_in_namespace, operator_of}
use Rattle.pol_netpol.specs.Faults.{first_fault}
use Rattle.pol_netpol.specs.Meaning.{entries_of, isolates, protocol_text}
use Rattle.pol_netpol.specs.Protocols.{proto_of}
use Rattle.pol_netpol.specs.declared.raw.RawNetEntry.{RawNetEntry}
use Rattle.pol_netpol.specs.declared.raw.RawNetPeer.{RawNetPeer}
use Rattle.pol_netpol.specs.declared.raw.RawNetPort.{RawNetPort}
use Rattle.pol_netpol.specs.declared.raw.RawNetworkPolicy.{RawNetworkPolicy}

-- ---- requirements

-- what is asked of Kubernetes' labels of a key
abbrev pub asks : List ℕ → Operator → List (List ℕ) → Requirement
asks key op values = record { any_source = false; source = codes "k8s"; key = key; op = op; values = values }

-- Keys of a namespace's labels have `io.cilium.k8s.namespace.labels.` in front, those of a pod nothing.
abbrev pub label_requirement : List ℕ → RawPair → Requirement
label_requirement front pair = asks (front ++ pair.key) OneOf (pair.value ∷ [])

abbrev pub expression_requirement : List ℕ → RawExpression → Option Requirement
expression_requirement front expression =
    option_map (λ op. asks (front ++ expression.key) op expression.values) (operator_of expression.operator)

abbrev pub requirements_of : List ℕ → RawSelector → List Requirement
requirements_of front selector =
    map (label_requirement front) selector.labels ++ filter_map (expression_requirement front) selector.expressions

-- a selector asks of the pods' own labels
abbrev pub of_pods : Option RawSelector → List Requirement
of_pods None = []
of_pods (Some selector) = requirements_of [] selector

-- the object's own namespace, or those that the selector selects
abbrev pub of_namespaces : List ℕ → Option RawSelector → List Requirement
of_namespaces own None = is_in_namespace own ∷ []
of_namespaces own (Some selector) = has_namespace ∷ requirements_of namespace_labels selector

-- the requirements, where they can be those of a selector
abbrev pub well_formed : List Requirement → Option (List Requirement)
well_formed requirements = if all_well_formed requirements then Some requirements else None

-- ---- peers

abbrev pub pods_peer : List ℕ → RawNetPeer → Option Peer
pods_peer own peer = option_map Labels (well_formed (of_pods peer.pods ++ of_namespaces own peer.namespaces))

abbrev pub peer_by : Option RawCidrSet → List ℕ → RawNetPeer → Option Peer
peer_by (Some block) own peer = set_peer block
peer_by None own peer = pods_peer own peer

abbrev pub peer_of : List ℕ → RawNetPeer → Option Peer
peer_of own peer = peer_by peer.block own peer

-- no list of peers, or an empty one, is every peer
abbrev pub peers_of : List ℕ → List RawNetPeer → Peers
peers_of own [] = Every
peers_of own (peer ∷ peers) = Listed (filter_map (peer_of own) (peer ∷ peers))

-- ---- ports

abbrev pub every_port : PortRange
every_port = range_from 0 port_max

abbrev pub range_of : Option ℕ → Option ℕ → Option PortRange
range_of None end = Some every_port
range_of (Some port) end =
    option_and_then (λ first. option_map (range_from first) (number_to port_max (unwrap_or end port))) (number_to port_max port)

abbrev pub spec_of : RawNetPort → Option PortSpec
spec_of port =
    option_and_then (λ range. option_map (λ proto. record { proto = Some proto; range = range }) (proto_of (protocol_text port.protocol)))
    (range_of port.port port.end_port)

-- every port of every protocol
abbrev pub every_spec : PortSpec
every_spec = record { proto = None; range = every_port }

-- An entry with neither peers nor ports is for every packet. In a rule such an entry would be for none, so it gets
-- all ports of every protocol.
abbrev pub ports_of : List RawNetPeer → List RawNetPort → List PortSpec
ports_of [] [] = every_spec ∷ []
ports_of [] (port ∷ ports) = filter_map spec_of (port ∷ ports)
ports_of (peer ∷ peers) ports = filter_map spec_of ports

-- ---- rules

abbrev pub entry_of : List ℕ → RawNetEntry → Entry
entry_of own entry = record { peers = peers_of own entry.peers; ports = ports_of entry.peers entry.ports }

-- a direction in which the object doesn't isolate has no entry
abbrev pub section_of : RawNetworkPolicy → Direction → List Entry
section_of raw dir = if isolates raw dir then map (entry_of raw.key.namespace) (entries_of dir raw) else []

-- the rule says of each direction whether the object isolates there, so also where no entry would say it
abbrev pub default_deny_of : RawNetworkPolicy → DefaultDeny
default_deny_of raw = record { ingress = Some (isolates raw Ingress); egress = Some (isolates raw Egress) }

-- the pods of the object's namespace that its `podSelector` selects
abbrev pub subject_of : List ℕ → RawSelector → Option (List Requirement)
subject_of own selector = well_formed (requirements_of [] selector ++ is_in_namespace own ∷ [])

abbrev pub rule_with : RawNetworkPolicy → List Requirement → Rule
rule_with raw subject = record {
  subject = subject;
  ingress = section_of raw Ingress;
  ingress_deny = [];
  egress = section_of raw Egress;
  egress_deny = [];
  default_deny = default_deny_of raw;
}

abbrev pub rule_of : RawNetworkPolicy → Option Rule
rule_of raw = option_map (rule_with raw) (option_and_then (subject_of raw.key.namespace) raw.subject)

abbrev pub policy_of : RawNetworkPolicy → Policy
policy_of raw = record { key = raw.key; rules = cons_option (rule_of raw) [] }

-- the policy, or the object's first fault
abbrev pub translated_of : RawNetworkPolicy → Result Policy RuleFault
translated_of raw = judged (first_fault raw) (policy_of raw)
