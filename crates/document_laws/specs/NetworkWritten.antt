-- NetworkPolicies as the documents that write them (Kubernetes, `NetworkPolicy`). The members of an object stand in byte order,
-- but for labels, which stand as they are listed; an empty list is left out.
use Rattle.std.specs.Prelude.{ℕ, List, ◌∷◌, [], codes, drop, length, Some, option_map}
use Rattle.serde_json.specs.Data.{Data, string}
use Rattle.document_laws.specs.Fields.{Fields, object_of, array_of, unless_empty}
use Rattle.document_laws.specs.Written.{cidr_set_document, selector_document, texts_document, whole_document}
use Rattle.pol_netpol.specs.declared.raw.RawNetEntry.{RawNetEntry}
use Rattle.pol_netpol.specs.declared.raw.RawNetPeer.{RawNetPeer}
use Rattle.pol_netpol.specs.declared.raw.RawNetPort.{RawNetPort}
use Rattle.pol_netpol.specs.declared.raw.RawNetworkPolicy.{RawNetworkPolicy}
use Rattle.pol_ports.specs.declared.Direction.{Direction}
use Rattle.pol_ports.specs.declared.Direction.TheVariants.{Ingress, Egress}
use Rattle.pol_rule.specs.declared.policy.PolicyKey.{PolicyKey}

-- ---- entries

abbrev pub net_port_fields : RawNetPort → Fields
net_port_fields port =
    (codes "endPort", option_map whole_document port.end_port)
    ∷ (codes "port", option_map whole_document port.port)
    ∷ (codes "protocol", option_map string port.protocol)
    ∷ []

abbrev pub net_port_document : RawNetPort → Data
net_port_document port = object_of (net_port_fields port)

-- `ipBlock` has the members of a prefix with exceptions
abbrev pub net_peer_fields : RawNetPeer → Fields
net_peer_fields peer =
    (codes "ipBlock", option_map cidr_set_document peer.block)
    ∷ (codes "namespaceSelector", option_map selector_document peer.namespaces)
    ∷ (codes "podSelector", option_map selector_document peer.pods)
    ∷ []

abbrev pub net_peer_document : RawNetPeer → Data
net_peer_document peer = object_of (net_peer_fields peer)

abbrev pub net_entry_fields : Direction → RawNetEntry → Fields
net_entry_fields Ingress entry =
    (codes "from", unless_empty (array_of net_peer_document) entry.peers)
    ∷ (codes "ports", unless_empty (array_of net_port_document) entry.ports)
    ∷ []
net_entry_fields Egress entry =
    (codes "ports", unless_empty (array_of net_port_document) entry.ports)
    ∷ (codes "to", unless_empty (array_of net_peer_document) entry.peers)
    ∷ []

abbrev pub net_entry_document : Direction → RawNetEntry → Data
net_entry_document dir entry = object_of (net_entry_fields dir entry)

-- ---- the object

abbrev pub net_spec_fields : RawNetworkPolicy → Fields
net_spec_fields policy =
    (codes "egress", unless_empty (array_of (net_entry_document Egress)) policy.egress)
    ∷ (codes "ingress", unless_empty (array_of (net_entry_document Ingress)) policy.ingress)
    ∷ (codes "podSelector", option_map selector_document policy.subject)
    ∷ (codes "policyTypes", unless_empty texts_document policy.types)
    ∷ []

abbrev pub net_spec_document : RawNetworkPolicy → Data
net_spec_document policy = object_of (net_spec_fields policy)

-- what stands in front of the object's name in its key ('profile')
abbrev pub net_front : List ℕ
net_front = codes "networkpolicy/"

-- the object's name, without that
abbrev pub net_name : PolicyKey → List ℕ
net_name key = drop (length net_front) key.name

abbrev pub net_metadata_fields : PolicyKey → Fields
net_metadata_fields key = (codes "name", Some (string (net_name key))) ∷ (codes "namespace", Some (string key.namespace)) ∷ []

abbrev pub net_metadata_document : PolicyKey → Data
net_metadata_document key = object_of (net_metadata_fields key)

abbrev pub network_fields : RawNetworkPolicy → Fields
network_fields policy =
    (codes "apiVersion", Some (string (codes "networking.k8s.io/v1")))
    ∷ (codes "kind", Some (string (codes "NetworkPolicy")))
    ∷ (codes "metadata", Some (net_metadata_document policy.key))
    ∷ (codes "spec", Some (net_spec_document policy))
    ∷ []

abbrev pub network_document_of : RawNetworkPolicy → Data
network_document_of policy = object_of (network_fields policy)
