-- NetworkPolicies are read again from the documents that write them, and what is read is well formed.
use Rattle.std.proofs.Common.{◌≡◌, true, None, Some, Ok, refl, subst}
use Rattle.serde_json.specs.Data.{Data}
use Rattle.document_laws.proofs.Needed.{no_fault}
use Rattle.document_laws.proofs.NetworkAgain.{network_again}
use Rattle.document_laws.proofs.NetworkSound.{network_sound}
use Rattle.document_laws.proofs.Policies.{long_name, no_head_fault, neither_fault, read_as}
use Rattle.document_laws.specs.NetworkWellFormed.{IsWellFormedNetKey, IsWellFormedNetwork}
use Rattle.document_laws.specs.NetworkWritten.{net_name, network_document_of}
use Rattle.pol_json.proofs.Keys.{name_of_network, namespace_of_network}
use Rattle.pol_json.specs.Document.{has_name}
use Rattle.pol_json.specs.Network.{network_fault, network_head_fault}
use Rattle.pol_json.specs.declared.fault.DocFault.TheVariants.{NotPolicy, NoName, NoSpec}
use Rattle.pol_netpol.specs.Document.{raw_of, read_document}
use Rattle.pol_netpol.specs.declared.raw.RawNetworkPolicy.{RawNetworkPolicy}

-- ---- they are read again

head_again : (p : RawNetworkPolicy) → IsWellFormedNetKey p.key → network_head_fault (network_document_of p) ≡ None
head_again p well =
    no_head_fault true (has_name (network_document_of p)) true (Some NotPolicy) (Some NoName) (Some NoSpec) refl (long_name (net_name p.key) well.name) refl

pub networks_again : (p : RawNetworkPolicy) → IsWellFormedNetwork p → read_document (network_document_of p) ≡ Ok p
networks_again p well =
    let d = network_document_of p in
    read_as (network_fault d) (raw_of d) p (neither_fault (network_head_fault d) _ (head_again p well) (network_sound p well)) (network_again p well)

-- ---- what is read is well formed

pub read_network_is_well_formed : (d : Data) (p : RawNetworkPolicy) → read_document d ≡ Ok p → IsWellFormedNetwork p
read_network_is_well_formed d p is =
    let both = no_fault (network_fault d) (raw_of d) p is in
    subst IsWellFormedNetwork both.1
    (record { not_wide = refl; namespace = namespace_of_network d both.0; front = refl; name = name_of_network d both.0 })
