-- Small states, and what is told of them, for the laws that compute (`states`).
use Rattle.std.specs.Prelude.{ℕ, false, List, [], ◌∷◌, ◌++◌, codes, map, None, Some}
use Rattle.std.specs.List.{flat_map}
use Rattle.pol_addr.specs.Address.{addr_of_octets}
use Rattle.pol_addr.specs.declared.network.Prefix.{Prefix}
use Rattle.pol_addr.specs.declared.family.Family.TheVariants.{Ipv4, Ipv6}
use Rattle.pol_addr.specs.Prefix.{prefix_of, world}
use Rattle.pol_mapkey.specs.declared.Word.TheVariants.{Allowed}
use Rattle.pol_ports.specs.PortRange.{range_from}
use Rattle.pol_ports.specs.declared.Proto.{Proto}
use Rattle.pol_ports.specs.declared.Proto.TheVariants.{Tcp, Udp, Sctp}
use Rattle.pol_rule.specs.Plain.{rule_of}
use Rattle.pol_rule.specs.declared.policy.Entity.TheVariants as entity
use Rattle.pol_rule.specs.declared.policy.Entry.{Entry}
use Rattle.pol_rule.specs.declared.policy.Peer.{Peer}
use Rattle.pol_rule.specs.declared.policy.Peer.TheVariants as peer
use Rattle.pol_rule.specs.declared.policy.Peers.TheVariants.{Listed}
use Rattle.pol_rule.specs.declared.policy.PortSpec.{PortSpec}
use Rattle.pol_rule.specs.declared.policy.Rule.{Rule}
use Rattle.pol_model.specs.declared.options.Mode.TheVariants.{Always}
use Rattle.pol_model.specs.declared.request.Request.{Request}
use Rattle.pol_model.specs.declared.request.Request.TheVariants.{Apply, SetMode}
use Rattle.pol_model.specs.After.{state_of}
use Rattle.pol_model_laws.specs.WorkedMaps.{app_is, key_of, ordinary}
use Rattle.pol_port_ranges.specs.declared.said.Halves.{Halves}
use Rattle.pol_port_ranges.specs.Ranges.{range}
use Rattle.pol_connections.specs.declared.end.Connection.{Connection}
use Rattle.pol_connections.specs.declared.end.EndName.{EndName}
use Rattle.pol_connections.specs.declared.end.EndName.TheVariants as name
use Rattle.pol_connections.specs.Connections.{connections_below}
use Rattle.pol_connections.specs.Ends.{End, ends_of}
use Rattle.pol_connections.specs.Examples.{a, b, by_policy, elsewhere, low6, net, net6, pod, pods_of, tcp}
use Rattle.pol_connections.specs.Regions.{regions_of}

-- ---- policies
-- one port of a protocol
abbrev pub one_port : Proto → ℕ → PortSpec
one_port proto port = record { proto = Some proto; range = range_from port port }

-- an entry for one peer
abbrev pub entry : Peer → List PortSpec → Entry
entry p ports = record { peers = Listed (p ∷ []); ports = ports }

abbrev pub applies : List Rule → Request
applies rules = Apply (record { key = key_of (codes "p"); rules = rules })

-- b may receive from itself, from a on TCP ports 0 and 1, from the local host on TCP port 0 and from the prefix on UDP port 1,
-- and may send to itself and to the prefix on SCTP port 1
abbrev pub rule_of_b : Rule
rule_of_b = record (rule_of (app_is b ∷ [])) {
  ingress = entry (pods_of b) [] ∷ entry (pods_of a) (tcp 0 1 ∷ []) ∷ entry (peer.Entity entity.Host) (one_port Tcp 0 ∷ [])
      ∷ entry (peer.Cidr net []) (one_port Udp 1 ∷ []) ∷ [];
  egress = entry (pods_of b) [] ∷ entry (peer.Cidr net []) (one_port Sctp 1 ∷ []) ∷ [];
}

-- a may send to b on TCP port 1
abbrev pub rule_of_a : Rule
rule_of_a = record (rule_of (app_is a ∷ [])) { egress = entry (pods_of b) (one_port Tcp 1 ∷ []) ∷ [] }

abbrev pub x : List ℕ
x = codes "x"

-- A named identity of the app a, an endpoint b and a prefix, in mode `always`: nothing is open but by these rules.
abbrev pub few_open : List Request
few_open = SetMode Always ∷ elsewhere x a ∷ pod b 2 ∷ applies (rule_of_b ∷ rule_of_a ∷ []) ∷ []

-- ---- what is told of a state
abbrev pub open_below : ℕ → List Request → List Connection
open_below count requests = connections_below count by_policy (state_of by_policy requests)

abbrev pub both_allow : Halves
both_allow = record { sent = Allowed; received = Allowed }

-- these ports of a protocol are open
abbrev pub opened : EndName → EndName → Proto → ℕ → ℕ → Connection
opened from to proto first last =
    record { from = from; to = to; proto = proto; range = range first last (record { before = None; after = both_allow; halves = false }) }

-- ---- every port
-- every port is open, at each protocol
abbrev pub wide_open : EndName → EndName → List Connection
wide_open from to = opened from to Tcp 0 65535 ∷ opened from to Udp 0 65535 ∷ opened from to Sctp 0 65535 ∷ []

-- from each of the first to each of the second
abbrev pub wide_open_all : List EndName → List EndName → List Connection
wide_open_all froms tos = flat_map (λ from. flat_map (wide_open from) tos) froms

-- an endpoint and a named identity, without a policy
abbrev pub no_policies : List Request
no_policies = elsewhere x b ∷ pod a 1 ∷ []

-- they have policies of their own, and these have none
abbrev pub judged : List EndName
judged = name.Endpoint a ∷ name.Identity x ∷ []

abbrev pub unjudged : List EndName
unjudged = map name.Reserved (1 ∷ 3 ∷ 4 ∷ 5 ∷ 6 ∷ 7 ∷ 8 ∷ []) ++ map name.Region (world Ipv4 ∷ world Ipv6 ∷ [])

-- ---- the order of ends
-- 20.0.0.0/16 and 100.0.0.0/8
abbrev pub part : Prefix
part = prefix_of (addr_of_octets 20 0 0 0) 16

abbrev pub far : Prefix
far = prefix_of (addr_of_octets 100 0 0 0) 8

-- no list stands in the order of names, numbers or prefixes
abbrev pub in_no_order : List Request
in_no_order =
    elsewhere (codes "y") a
    ∷ pod b 9
    ∷ elsewhere (codes "X") b
    ∷ pod (codes "a10") 10
    ∷ pod (codes "B") 2
    ∷ pod a 1
    ∷ applies (record (rule_of []) { egress = map (λ prefix. entry (peer.Cidr prefix []) []) (net6 ∷ far ∷ part ∷ low6 ∷ net ∷ []) } ∷ [])
    ∷ []

abbrev pub names_told : List Request → List EndName
names_told requests =
    map (λ (end : End). end.name)
    (ends_of (regions_of (state_of ordinary requests).identities (state_of ordinary requests).identities) (state_of ordinary requests))
