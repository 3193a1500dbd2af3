-- What an entry covers (Cilium, Network Policy, "Layer 3 Examples" and "Layer 4 Examples"). Which peers
-- take the remote depends on the identities, so these definitions take that test as an argument.
use Rattle.std.specs.Prelude.{ℕ, Bool, true, false, ◌&&◌, ◌||◌, List, [], ◌∷◌, Option, None, Some}
use Rattle.std.specs.List.{list_any}
use Rattle.pol_ports.specs.Proto.{same_proto}
use Rattle.pol_ports.specs.PortRange.{holds}
use Rattle.pol_ports.specs.declared.Proto.{Proto}
use Rattle.pol_rule.specs.declared.policy.Peer.{Peer}
use Rattle.pol_rule.specs.declared.policy.Peers.{Peers}
use Rattle.pol_rule.specs.declared.policy.Peers.TheVariants.{Every, Listed}
use Rattle.pol_rule.specs.declared.policy.PortSpec.{PortSpec}
use Rattle.pol_rule.specs.declared.policy.Entry.{Entry}
use Rattle.pol_rule.specs.declared.policy.Rule.{Rule}
use Rattle.pol_rule.specs.declared.policy.Section.{Section}
use Rattle.pol_rule.specs.declared.policy.Section.TheVariants as section

-- no protocol stands for ANY, which is TCP, UDP and SCTP
abbrev pub takes_proto : Option Proto → Proto → Bool
takes_proto None proto = true
takes_proto (Some own) proto = same_proto own proto

abbrev pub port_covers : Proto → ℕ → PortSpec → Bool
port_covers proto port spec = takes_proto spec.proto proto && holds spec.range port

-- an entry without ports covers every protocol and port
abbrev pub ports_cover : Proto → ℕ → List PortSpec → Bool
ports_cover proto port [] = true
ports_cover proto port (spec ∷ specs) = list_any (port_covers proto port) (spec ∷ specs)

-- an entry without a peer member is for every remote, allocated or not
abbrev pub peers_take : (Peer → Bool) → Peers → Bool
peers_take takes Every = true
peers_take takes (Listed peers) = list_any takes peers

abbrev pub has_peers : Peers → Bool
has_peers Every = false
has_peers (Listed peers) = true

abbrev pub has_ports : List PortSpec → Bool
has_ports [] = false
has_ports (spec ∷ specs) = true

-- an entry with neither a peer member nor a port covers nothing, so `ingress: [{}]` is default deny
abbrev pub has_effect : Entry → Bool
has_effect entry = has_peers entry.peers || has_ports entry.ports

-- whether the entry covers a packet from or to a remote, where this says which peers take the remote
abbrev pub entry_covers : (Peer → Bool) → Proto → ℕ → Entry → Bool
entry_covers takes proto port entry = has_effect entry && peers_take takes entry.peers && ports_cover proto port entry.ports

-- the entries of a section
abbrev pub section_of : Section → Rule → List Entry
section_of section.Ingress rule = rule.ingress
section_of section.IngressDeny rule = rule.ingress_deny
section_of section.Egress rule = rule.egress
section_of section.EgressDeny rule = rule.egress_deny
