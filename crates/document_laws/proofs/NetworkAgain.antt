-- The parts of a NetworkPolicy are read again.
use Rattle.std.proofs.Common.{◌≡◌, codes, refl, sym, ap, ◌∙◌}
use Rattle.serde_json.specs.Data.{string}
use Rattle.document_laws.proofs.Again.{items_come_again, member_again, whole_again}
use Rattle.document_laws.proofs.Entering.{cidr_set_again}
use Rattle.document_laws.proofs.Named.{has}
use Rattle.document_laws.proofs.Selecting.{selector_again, text_is_again}
use Rattle.document_laws.specs.NetworkWellFormed.{IsWellFormedNetKey}
use Rattle.document_laws.specs.NetworkWritten.{net_entry_document, net_entry_fields, net_peer_document, net_peer_fields, net_port_document, net_port_fields, net_spec_document, net_spec_fields, network_document_of}
use Rattle.document_laws.specs.Written.{cidr_set_document, selector_document}
use Rattle.pol_json.specs.Build.{cidr_set_of, selector_of, text_of}
use Rattle.pol_netpol.specs.Document.{key_of, raw_entry_of, raw_of, raw_peer_of, raw_port_of, raw_with}
use Rattle.pol_netpol.specs.declared.raw.RawNetEntry.{RawNetEntry}
use Rattle.pol_netpol.specs.declared.raw.RawNetPeer.{RawNetPeer}
use Rattle.pol_netpol.specs.declared.raw.RawNetPort.{RawNetPort}
use Rattle.pol_netpol.specs.declared.raw.RawNetworkPolicy.{RawNetworkPolicy}
use Rattle.pol_ports.specs.declared.Direction.{Direction}
use Rattle.pol_ports.specs.declared.Direction.TheVariants.{Ingress, Egress}
use Rattle.pol_rule.specs.declared.policy.PolicyKey.{PolicyKey}

port_again : (p : RawNetPort) → raw_port_of (net_port_document p) ≡ p
port_again p =
    let d = net_port_document p in
    let fields = net_port_fields p in
    let port = whole_again (codes "port") d p.port (has (codes "port") fields) in
    let protocol = member_again text_of string text_is_again (λ text. refl) (codes "protocol") d p.protocol (has (codes "protocol") fields) in
    let end_port = whole_again (codes "endPort") d p.end_port (has (codes "endPort") fields) in
    λ i. record { port = port i; protocol = protocol i; end_port = end_port i }

peer_again : (p : RawNetPeer) → raw_peer_of (net_peer_document p) ≡ p
peer_again p =
    let d = net_peer_document p in
    let fields = net_peer_fields p in
    let pods = member_again selector_of selector_document selector_again (λ s. refl) (codes "podSelector") d p.pods (has (codes "podSelector") fields) in
    let namespaces =
    member_again selector_of selector_document selector_again (λ s. refl) (codes "namespaceSelector") d p.namespaces (has (codes "namespaceSelector") fields) in
    let block = member_again cidr_set_of cidr_set_document cidr_set_again (λ s. refl) (codes "ipBlock") d p.block (has (codes "ipBlock") fields) in
    λ i. record { pods = pods i; namespaces = namespaces i; block = block i }

entry_again : (dir : Direction) (e : RawNetEntry) → raw_entry_of dir (net_entry_document dir e) ≡ e
entry_again Ingress e =
    let d = net_entry_document Ingress e in
    let fields = net_entry_fields Ingress e in
    let peers = items_come_again raw_peer_of net_peer_document peer_again (codes "from") d e.peers (has (codes "from") fields) in
    let ports = items_come_again raw_port_of net_port_document port_again (codes "ports") d e.ports (has (codes "ports") fields) in
    λ i. record { peers = peers i; ports = ports i }
entry_again Egress e =
    let d = net_entry_document Egress e in
    let fields = net_entry_fields Egress e in
    let peers = items_come_again raw_peer_of net_peer_document peer_again (codes "to") d e.peers (has (codes "to") fields) in
    let ports = items_come_again raw_port_of net_port_document port_again (codes "ports") d e.ports (has (codes "ports") fields) in
    λ i. record { peers = peers i; ports = ports i }

-- what its `spec` says, under any key
spec_again : (key : PolicyKey) (p : RawNetworkPolicy) → raw_with key (net_spec_document p) ≡ record p { key = key }
spec_again key p =
    let d = net_spec_document p in
    let fields = net_spec_fields p in
    let subject = member_again selector_of selector_document selector_again (λ s. refl) (codes "podSelector") d p.subject (has (codes "podSelector") fields) in
    let types = items_come_again text_of string text_is_again (codes "policyTypes") d p.types (has (codes "policyTypes") fields) in
    let ingress = items_come_again (raw_entry_of Ingress) (net_entry_document Ingress) (entry_again Ingress) (codes "ingress") d p.ingress (has (codes "ingress") fields) in
    let egress = items_come_again (raw_entry_of Egress) (net_entry_document Egress) (entry_again Egress) (codes "egress") d p.egress (has (codes "egress") fields) in
    λ i. record { key = key; subject = subject i; types = types i; ingress = ingress i; egress = egress i }

key_again : (p : RawNetworkPolicy) → IsWellFormedNetKey p.key → key_of (network_document_of p) ≡ p.key
key_again p well =
    λ i. record { cluster_wide = sym well.not_wide i; namespace = p.key.namespace; name = sym well.front i }

pub network_again : (p : RawNetworkPolicy) → IsWellFormedNetKey p.key → raw_of (network_document_of p) ≡ p
network_again p well = spec_again (key_of (network_document_of p)) p ∙ ap (λ key. record p { key = key }) (key_again p well)
