-- What the document of a NetworkPolicy reads as (Kubernetes, `NetworkPolicy`): the object member by member, and the
-- policy that it is translated to, or the first fault: that of the document before those of the object ('profile').
use Rattle.std.specs.Prelude.{ℕ, false, List, ◌++◌, codes, Option, None, Some, option_and_then, unwrap_or, Result, Ok, Err}
use Rattle.serde_json.specs.Data.{Data, null}
use Rattle.serde_json.specs.Find.{as_number, as_u64}
use Rattle.pol_json.specs.Build.{cidr_set_of, member_items, member_of, selector_of, text_of}
use Rattle.pol_json.specs.Document.{unless_fault}
use Rattle.pol_json.specs.Members.{present}
use Rattle.pol_json.specs.Network.{network_fault, network_name, network_namespace}
use Rattle.pol_json.specs.declared.fault.DocFault.{DocFault}
use Rattle.pol_ports.specs.declared.Direction.{Direction}
use Rattle.pol_ports.specs.declared.Direction.TheVariants.{Ingress, Egress}
use Rattle.pol_rule.specs.declared.fault.RuleFault.{RuleFault}
use Rattle.pol_rule.specs.declared.policy.Policy.{Policy}
use Rattle.pol_rule.specs.declared.policy.PolicyKey.{PolicyKey}
use Rattle.pol_netpol.specs.Translated.{translated_of}
use Rattle.pol_netpol.specs.declared.fault.NetError.{NetError}
use Rattle.pol_netpol.specs.declared.fault.NetError.TheVariants as error
use Rattle.pol_netpol.specs.declared.fault.NetFault.{NetFault}
use Rattle.pol_netpol.specs.declared.fault.NetFault.TheVariants.{Doc, Rule}
use Rattle.pol_netpol.specs.declared.raw.RawNetEntry.{RawNetEntry}
use Rattle.pol_netpol.specs.declared.raw.RawNetPeer.{RawNetPeer}
use Rattle.pol_netpol.specs.declared.raw.RawNetPort.{RawNetPort}
use Rattle.pol_netpol.specs.declared.raw.RawNetworkPolicy.{RawNetworkPolicy}

-- ---- the object

abbrev pub number_at : List ℕ → Data → Option ℕ
number_at name d = option_and_then as_u64 (option_and_then as_number (present name d))

abbrev pub raw_port_of : Data → RawNetPort
raw_port_of d =
    record { port = number_at (codes "port") d; protocol = member_of text_of (codes "protocol") d; end_port = number_at (codes "endPort") d }

abbrev pub raw_peer_of : Data → RawNetPeer
raw_peer_of d =
    record {
      pods = member_of selector_of (codes "podSelector") d;
      namespaces = member_of selector_of (codes "namespaceSelector") d;
      block = member_of cidr_set_of (codes "ipBlock") d;
    }

abbrev pub peers_name : Direction → List ℕ
peers_name Ingress = codes "from"
peers_name Egress = codes "to"

abbrev pub raw_entry_of : Direction → Data → RawNetEntry
raw_entry_of dir d = record { peers = member_items raw_peer_of (peers_name dir) d; ports = member_items raw_port_of (codes "ports") d }

-- what stands in front of the object's name in its key ('profile')
abbrev pub name_front : List ℕ
name_front = codes "networkpolicy/"

-- the key of an object of this namespace and name, which no CiliumNetworkPolicy has
abbrev pub network_key : List ℕ → List ℕ → PolicyKey
network_key namespace name = record { cluster_wide = false; namespace = namespace; name = name_front ++ name }

abbrev pub raw_with : PolicyKey → Data → RawNetworkPolicy
raw_with key spec =
    record {
      key = key;
      subject = member_of selector_of (codes "podSelector") spec;
      types = member_items text_of (codes "policyTypes") spec;
      ingress = member_items (raw_entry_of Ingress) (codes "ingress") spec;
      egress = member_items (raw_entry_of Egress) (codes "egress") spec;
    }

abbrev pub key_of : Data → PolicyKey
key_of d = network_key (network_namespace d) (network_name d)

-- a document without a spec has a fault
abbrev pub spec_of : Data → Data
spec_of d = unwrap_or (present (codes "spec") d) null

-- the object of a document
abbrev pub raw_of : Data → RawNetworkPolicy
raw_of d = raw_with (key_of d) (spec_of d)

-- the object of a document, or the document's first fault
abbrev pub read_document : Data → Result RawNetworkPolicy DocFault
read_document d = unless_fault (network_fault d) (raw_of d)

-- ---- the policy

abbrev pub of_object : Result Policy RuleFault → Result Policy NetFault
of_object (Ok policy) = Ok policy
of_object (Err fault) = Err (Rule fault)

abbrev pub of_document : Result RawNetworkPolicy DocFault → Result Policy NetFault
of_document (Ok raw) = of_object (translated_of raw)
of_document (Err fault) = Err (Doc fault)

-- the policy of a document, or the document's first fault
abbrev pub netpol_of : Data → Result Policy NetFault
netpol_of d = of_document (read_document d)

-- ---- errors

-- the fault of an error, none where it is want of memory
abbrev pub net_fault_of : NetError → Option NetFault
net_fault_of error.Memory = None
net_fault_of (error.Fault fault) = Some fault
