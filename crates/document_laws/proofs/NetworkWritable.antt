-- A NetworkPolicy is read again from the text of the document that writes it.
use Rattle.std.proofs.Common.{◌≡◌, ℕ, suc, List, codes, false, Option, None, Some, option_map, IfSome, Ok, refl, ap, ◌∙◌}
use Rattle.std.specs.List.{AllByRecursion}
use Rattle.serde_json.specs.Data.{string}
use Rattle.serde_json.specs.Read.{read}
use Rattle.serde_json.specs.Written.{compact_text}
use Rattle.document_laws.proofs.NetworkPolicies.{networks_again}
use Rattle.document_laws.proofs.Nothing.{each_sound}
use Rattle.document_laws.proofs.Printing.{document_again}
use Rattle.document_laws.proofs.Writable.{IsWritable, fields_writable, list_unless_empty, metadata_writable, set_writable, subject_writable, text_writable, texts_unless_empty, whole_writable}
use Rattle.document_laws.specs.Fields.{array_of, unless_empty}
use Rattle.document_laws.specs.NetworkKept.{IsKeptNetEntry, IsKeptNetPort, IsKeptNetwork, IsKeptPeer}
use Rattle.document_laws.specs.NetworkWellFormed.{IsWellFormedNetwork}
use Rattle.document_laws.specs.NetworkWritten.{net_entry_document, net_entry_fields, net_metadata_document, net_name, net_peer_document, net_peer_fields, net_port_document, net_port_fields, net_spec_document, net_spec_fields, network_document_of, network_fields}
use Rattle.document_laws.specs.Written.{cidr_set_document}
use Rattle.pol_netpol.specs.Document.{read_document}
use Rattle.pol_netpol.specs.declared.raw.RawNetEntry.{RawNetEntry}
use Rattle.pol_netpol.specs.declared.raw.RawNetPeer.{RawNetPeer}
use Rattle.pol_netpol.specs.declared.raw.RawNetPort.{RawNetPort}
use Rattle.pol_netpol.specs.declared.raw.RawNetworkPolicy.{RawNetworkPolicy}
use Rattle.pol_ports.specs.declared.Direction.{Direction}
use Rattle.pol_ports.specs.declared.Direction.TheVariants.{Ingress, Egress}
use Rattle.pol_rule.specs.declared.policy.PolicyKey.{PolicyKey}
use Rattle.pol_rule.specs.declared.raw.RawCidrSet.{RawCidrSet}

text_if_there : (n : ℕ) (text : Option (List ℕ)) → IfSome (option_map string text) (IsWritable n)
text_if_there n None = tt
text_if_there n (Some text) = text_writable n text

port_writable : (n : ℕ) (p : RawNetPort) → IsKeptNetPort p → IsWritable (suc n) (net_port_document p)
port_writable n p kept =
    fields_writable n (net_port_fields p) ((refl, (refl, tt)), ((refl, tt), (tt, tt)))
    (whole_writable n p.end_port kept.end, (whole_writable n p.port kept.first, (text_if_there n p.protocol, tt)))

block_if_there : (n : ℕ) (block : Option RawCidrSet) → IfSome (option_map cidr_set_document block) (IsWritable (suc (suc n)))
block_if_there n None = tt
block_if_there n (Some set) = set_writable n set

peer_writable : (n : ℕ) (p : RawNetPeer) → IsKeptPeer p → IsWritable (suc (suc (suc (suc (suc n))))) (net_peer_document p)
peer_writable n p kept =
    fields_writable (suc (suc (suc (suc n)))) (net_peer_fields p) ((refl, (refl, tt)), ((refl, tt), (tt, tt)))
    (block_if_there (suc (suc n)) p.block, (subject_writable n p.namespaces kept.namespaces, (subject_writable n p.pods kept.pods, tt)))

entry_writable : (n : ℕ) (dir : Direction) (e : RawNetEntry) → IsKeptNetEntry e → IsWritable (suc (suc (suc (suc (suc (suc (suc n))))))) (net_entry_document dir e)
entry_writable n Ingress e kept =
    let five = suc (suc (suc (suc (suc n)))) in
    let peers = list_unless_empty five net_peer_document e.peers (each_sound IsKeptPeer _ (peer_writable n) e.peers kept.peers) in
    let ports = list_unless_empty five net_port_document e.ports (each_sound IsKeptNetPort _ (port_writable (suc (suc (suc (suc n))))) e.ports kept.ports) in
    fields_writable (suc five) (net_entry_fields Ingress e) ((refl, tt), (tt, tt)) (peers, (ports, tt))
entry_writable n Egress e kept =
    let five = suc (suc (suc (suc (suc n)))) in
    let peers = list_unless_empty five net_peer_document e.peers (each_sound IsKeptPeer _ (peer_writable n) e.peers kept.peers) in
    let ports = list_unless_empty five net_port_document e.ports (each_sound IsKeptNetPort _ (port_writable (suc (suc (suc (suc n))))) e.ports kept.ports) in
    fields_writable (suc five) (net_entry_fields Egress e) ((refl, tt), (tt, tt)) (ports, (peers, tt))

section_writable : (n : ℕ) (dir : Direction) (entries : List RawNetEntry) → AllByRecursion IsKeptNetEntry entries
    → IfSome (unless_empty (array_of (net_entry_document dir)) entries) (IsWritable (suc (suc (suc (suc (suc (suc (suc (suc n)))))))))
section_writable n dir entries kept =
    list_unless_empty (suc (suc (suc (suc (suc (suc (suc n))))))) (net_entry_document dir) entries (each_sound IsKeptNetEntry _ (entry_writable n dir) entries kept)

spec_writable : (n : ℕ) (p : RawNetworkPolicy) → IsKeptNetwork p → IsWritable (suc (suc (suc (suc (suc (suc (suc (suc (suc n))))))))) (net_spec_document p)
spec_writable n p kept =
    let four = suc (suc (suc (suc n))) in
    fields_writable (suc (suc (suc (suc four)))) (net_spec_fields p) ((refl, (refl, (refl, tt))), ((refl, (refl, tt)), ((refl, tt), (tt, tt)))) (
      section_writable n Egress p.egress kept.egress,
      (
        section_writable n Ingress p.ingress kept.ingress,
        (subject_writable four p.subject kept.subject, (texts_unless_empty (suc (suc (suc four))) p.types, tt)),
      ),
    )

net_metadata_writable : (n : ℕ) (key : PolicyKey) → IsWritable (suc n) (net_metadata_document key)
net_metadata_writable n key = metadata_writable n (record { cluster_wide = false; namespace = key.namespace; name = net_name key })

network_writable : (p : RawNetworkPolicy) → IsKeptNetwork p → IsWritable 10 (network_document_of p)
network_writable p kept =
    fields_writable 9 (network_fields p) ((refl, (refl, (refl, tt))), ((refl, (refl, tt)), ((refl, tt), (tt, tt))))
    (text_writable 9 (codes "networking.k8s.io/v1"), (text_writable 9 (codes "NetworkPolicy"), (net_metadata_writable 8 p.key, (spec_writable 0 p kept, tt))))

pub printed_networks_again : (p : RawNetworkPolicy) → IsWellFormedNetwork p → IsKeptNetwork p
    → option_map read_document (read (compact_text (network_document_of p))) ≡ Some (Ok p)
printed_networks_again p well kept = ap (option_map read_document) (document_again (network_document_of p) (network_writable p kept)) ∙ ap Some (networks_again p well)
