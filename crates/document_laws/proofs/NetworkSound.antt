-- Nothing is wrong in the document of a well-formed NetworkPolicy.
use Rattle.std.proofs.Common.{◌≡◌, ℕ, List, [], ◌∷◌, codes, false, Option, None, Some, option_map, IfSome, refl}
use Rattle.serde_json.specs.Data.{string}
use Rattle.document_laws.proofs.Entering.{whole_sound}
use Rattle.document_laws.proofs.NetworkShapes.{block_is, block_shape, net_entry_is, net_entry_shape, net_peer_is, net_peer_shape, net_port_is, net_port_shape, net_spec_is, net_spec_shape, network_is, network_shape, port_number_shape}
use Rattle.document_laws.proofs.Nothing.{IsSound, all_sound, sound_at, sound_object, sound_unless_empty}
use Rattle.document_laws.proofs.Policies.{metadata_sound}
use Rattle.document_laws.proofs.Ruling.{subject_sound}
use Rattle.document_laws.proofs.Selecting.{any_text_sound}
use Rattle.document_laws.proofs.Shapes.{member_shape, metadata_shape, text_shape}
use Rattle.document_laws.specs.NetworkWellFormed.{IsWellFormedNetKey, IsWellFormedNetwork}
use Rattle.document_laws.specs.NetworkWritten.{net_entry_document, net_entry_fields, net_metadata_document, net_name, net_peer_document, net_peer_fields, net_port_document, net_port_fields, net_spec_document, net_spec_fields, network_document_of, network_fields}
use Rattle.document_laws.specs.Written.{cidr_set_document, cidr_set_fields, whole_document}
use Rattle.pol_json.specs.Places.{cause_of}
use Rattle.pol_netpol.specs.declared.raw.RawNetEntry.{RawNetEntry}
use Rattle.pol_netpol.specs.declared.raw.RawNetPeer.{RawNetPeer}
use Rattle.pol_netpol.specs.declared.raw.RawNetPort.{RawNetPort}
use Rattle.pol_netpol.specs.declared.raw.RawNetworkPolicy.{RawNetworkPolicy}
use Rattle.pol_ports.specs.declared.Direction.{Direction}
use Rattle.pol_ports.specs.declared.Direction.TheVariants.{Ingress, Egress}
use Rattle.pol_rule.specs.declared.policy.PolicyKey.{PolicyKey}
use Rattle.pol_rule.specs.declared.raw.RawCidrSet.{RawCidrSet}

-- ---- entries

number_sound : (n : Option ℕ) → IfSome (option_map whole_document n) (IsSound port_number_shape)
number_sound None = tt
number_sound (Some n) = sound_at port_number_shape (whole_document n) refl refl

protocol_sound : (protocol : Option (List ℕ)) → IfSome (option_map string protocol) (IsSound text_shape)
protocol_sound None = tt
protocol_sound (Some text) = any_text_sound text

port_sound : (p : RawNetPort) → IsSound net_port_shape (net_port_document p)
port_sound p =
    sound_object net_port_shape net_port_is (net_port_fields p) refl (whole_sound p.end_port, (number_sound p.port, (protocol_sound p.protocol, tt)))

block_cause : (cidr : List ℕ) (except : List (List ℕ)) → cause_of block_shape (cidr_set_document (record { cidr = cidr; except = except })) ≡ None
block_cause cidr [] = refl
block_cause cidr (text ∷ others) = refl

block_sound : (block : Option RawCidrSet) → IfSome (option_map cidr_set_document block) (IsSound block_shape)
block_sound None = tt
block_sound (Some s) =
    let except = sound_unless_empty string (member_shape block_shape (codes "except")) s.except tt (all_sound _ any_text_sound s.except) in
    sound_object block_shape block_is (cidr_set_fields s) (block_cause s.cidr s.except) (any_text_sound s.cidr, (except, tt))

peer_sound : (p : RawNetPeer) → IsSound net_peer_shape (net_peer_document p)
peer_sound p =
    sound_object net_peer_shape net_peer_is (net_peer_fields p) refl (block_sound p.block, (subject_sound p.namespaces, (subject_sound p.pods, tt)))

entry_sound : (dir : Direction) (e : RawNetEntry) → IsSound (net_entry_shape dir) (net_entry_document dir e)
entry_sound Ingress e =
    let peers = sound_unless_empty net_peer_document (member_shape (net_entry_shape Ingress) (codes "from")) e.peers tt (all_sound _ peer_sound e.peers) in
    let ports = sound_unless_empty net_port_document (member_shape (net_entry_shape Ingress) (codes "ports")) e.ports tt (all_sound _ port_sound e.ports) in
    sound_object (net_entry_shape Ingress) (net_entry_is Ingress) (net_entry_fields Ingress e) refl (peers, (ports, tt))
entry_sound Egress e =
    let peers = sound_unless_empty net_peer_document (member_shape (net_entry_shape Egress) (codes "to")) e.peers tt (all_sound _ peer_sound e.peers) in
    let ports = sound_unless_empty net_port_document (member_shape (net_entry_shape Egress) (codes "ports")) e.ports tt (all_sound _ port_sound e.ports) in
    sound_object (net_entry_shape Egress) (net_entry_is Egress) (net_entry_fields Egress e) refl (ports, (peers, tt))

-- ---- the object

spec_sound : (p : RawNetworkPolicy) → IsSound net_spec_shape (net_spec_document p)
spec_sound p =
    let egress =
    sound_unless_empty (net_entry_document Egress) (member_shape net_spec_shape (codes "egress")) p.egress tt
    (all_sound _ (entry_sound Egress) p.egress) in
    let ingress =
    sound_unless_empty (net_entry_document Ingress) (member_shape net_spec_shape (codes "ingress")) p.ingress tt
    (all_sound _ (entry_sound Ingress) p.ingress) in
    let types = sound_unless_empty string (member_shape net_spec_shape (codes "policyTypes")) p.types tt (all_sound _ any_text_sound p.types) in
    sound_object net_spec_shape net_spec_is (net_spec_fields p) refl (egress, (ingress, (subject_sound p.subject, (types, tt))))

-- the metadata are those of a policy of this namespace and name
net_metadata_sound : (key : PolicyKey) → IsWellFormedNetKey key → IsSound metadata_shape (net_metadata_document key)
net_metadata_sound key well =
    metadata_sound (record { cluster_wide = false; namespace = key.namespace; name = net_name key })
    (record { name = well.name; namespace = λ _. well.namespace; no_namespace = λ is. absurd cc })

pub network_sound : (p : RawNetworkPolicy) → IsWellFormedNetwork p → IsSound network_shape (network_document_of p)
network_sound p well =
    sound_object network_shape network_is (network_fields p) refl
    (any_text_sound (codes "networking.k8s.io/v1"), (any_text_sound (codes "NetworkPolicy"), (net_metadata_sound p.key well, (spec_sound p, tt))))
