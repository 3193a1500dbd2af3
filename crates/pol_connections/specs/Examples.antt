-- Small scripts, for the laws that compute.
use Rattle.std.specs.Prelude.{ℕ, ◌==◌, true, false, List, [], ◌∷◌, ◌++◌, codes, find, None, Some}
use Rattle.std.specs.Option.{option_map_or}
use Rattle.pol_addr.specs.Address.{addr_of_groups, addr_of_octets}
use Rattle.pol_addr.specs.declared.address.Addr.TheVariants.{V6}
use Rattle.pol_addr.specs.declared.network.Prefix.{Prefix}
use Rattle.pol_addr.specs.Prefix.{prefix_of}
use Rattle.pol_labels.specs.declared.label.Label.{Label}
use Rattle.pol_ports.specs.PortRange.{range_from}
use Rattle.pol_ports.specs.declared.Proto.{Proto}
use Rattle.pol_ports.specs.declared.Proto.TheVariants.{Tcp}
use Rattle.pol_mapkey.specs.declared.Word.{Word}
use Rattle.pol_rule.specs.declared.policy.Entity.{Entity}
use Rattle.pol_rule.specs.declared.policy.Entity.TheVariants as entity
use Rattle.pol_rule.specs.declared.policy.Entry.{Entry}
use Rattle.pol_rule.specs.declared.policy.Peer.{Peer}
use Rattle.pol_rule.specs.declared.policy.Peer.TheVariants as peer
use Rattle.pol_rule.specs.declared.policy.Peers.TheVariants.{Listed}
use Rattle.pol_rule.specs.declared.policy.PortSpec.{PortSpec}
use Rattle.pol_rule.specs.Plain.{rule_of}
use Rattle.pol_model.specs.declared.options.Mode.TheVariants.{Default}
use Rattle.pol_model.specs.declared.options.Options.{Options}
use Rattle.pol_model.specs.declared.request.Request.{Request}
use Rattle.pol_model.specs.declared.request.Request.TheVariants.{AddEndpoint, AddIdentity, Apply}
use Rattle.pol_model.specs.After.{state_of}
use Rattle.pol_model.specs.Worlds.{reserved_label}
use Rattle.pol_model_laws.specs.WorkedMaps.{app_is, k8s_label, key_of, ordinary}
use Rattle.pol_port_ranges.specs.declared.said.Halves.{Halves}
use Rattle.pol_port_ranges.specs.Ranges.{range}
use Rattle.pol_connections.specs.declared.end.Connection.{Connection}
use Rattle.pol_connections.specs.declared.end.EndName.{EndName}
use Rattle.pol_connections.specs.declared.end.EndName.TheVariants as name
use Rattle.pol_connections.specs.Connections.{changes_below, ends_alone}
use Rattle.pol_connections.specs.Ends.{End, endpoint_end}

-- ---- what there is
abbrev pub app : List ℕ → List Label
app name = k8s_label (codes "app") name ∷ []

-- a pod whose app has its name, at 10.0.0.N
abbrev pub pod : List ℕ → ℕ → Request
pod name n = AddEndpoint name (app name) (addr_of_octets 10 0 0 n)

-- a pod without labels yet
abbrev pub new_pod : List ℕ → ℕ → Request
new_pod name n = AddEndpoint name (reserved_label (codes "init") ∷ []) (addr_of_octets 10 0 0 n)

-- a pod of the app elsewhere
abbrev pub elsewhere : List ℕ → List ℕ → Request
elsewhere name of_app = AddIdentity name (app of_app)

-- ---- policies
abbrev pub tcp : ℕ → ℕ → PortSpec
tcp first last = record { proto = Some Tcp; range = range_from first last }

abbrev pub pods_of : List ℕ → Peer
pods_of of_app = peer.Labels (app_is of_app ∷ [])

abbrev pub on_ports : Peer → List PortSpec → List Entry
on_ports p ports = record { peers = Listed (p ∷ []); ports = ports } ∷ []

-- the app may receive from the peer on these ports
abbrev pub receives : List ℕ → Peer → List PortSpec → Request
receives of_app p ports = Apply (record {
  key = key_of (codes "receives");
  rules = record (rule_of (app_is of_app ∷ [])) { ingress = on_ports p ports } ∷ [];
})

-- it may not
abbrev pub refuses : List ℕ → Peer → List PortSpec → Request
refuses of_app p ports = Apply (record {
  key = key_of (codes "refuses");
  rules = record (rule_of (app_is of_app ∷ [])) { ingress_deny = on_ports p ports } ∷ [];
})

-- the app may send to the peer on these ports
abbrev pub sends : List ℕ → Peer → List PortSpec → Request
sends of_app p ports = Apply (record {
  key = key_of (codes "sends");
  rules = record (rule_of (app_is of_app ∷ [])) { egress = on_ports p ports } ∷ [];
})

-- it may not
abbrev pub withholds : List ℕ → Peer → List PortSpec → Request
withholds of_app p ports = Apply (record {
  key = key_of (codes "withholds");
  rules = record (rule_of (app_is of_app ∷ [])) { egress_deny = on_ports p ports } ∷ [];
})

-- ---- what changes, at the ports below a number
abbrev pub opened_below : ℕ → List Request → List Request → List Connection
opened_below count before after = changes_below count false ordinary (state_of ordinary before) (state_of ordinary after)

-- what of a half changes
abbrev pub turned_below : ℕ → List Request → List Request → List Connection
turned_below count before after = changes_below count true ordinary (state_of ordinary before) (state_of ordinary after)

-- the names that come
abbrev pub names_new : List Request → List Request → List EndName
names_new before after = ends_alone (state_of ordinary before) (state_of ordinary after)

abbrev pub halves : Word → Word → Halves
halves sent received = record { sent = sent; received = received }

-- a change at these ports of a protocol
abbrev pub change : EndName → EndName → Proto → ℕ → ℕ → Halves → Halves → Connection
change from to proto first last before after =
    record { from = from; to = to; proto = proto; range = range first last (record { before = Some before; after = after; halves = false }) }

-- the same, where halves are told
abbrev pub turn : EndName → EndName → Proto → ℕ → ℕ → Halves → Halves → Connection
turn from to proto first last before after =
    record { from = from; to = to; proto = proto; range = range first last (record { before = Some before; after = after; halves = true }) }

-- the same, at TCP ports between two endpoints
abbrev pub tcp_change : List ℕ → List ℕ → ℕ → ℕ → Halves → Halves → Connection
tcp_change from to first last before after = change (name.Endpoint from) (name.Endpoint to) Tcp first last before after

abbrev pub tcp_turn : List ℕ → List ℕ → ℕ → ℕ → Halves → Halves → Connection
tcp_turn from to first last before after = turn (name.Endpoint from) (name.Endpoint to) Tcp first last before after

-- open TCP ports, in a state alone
abbrev pub tcp_open : EndName → EndName → ℕ → ℕ → Halves → Connection
tcp_open from to first last now =
    record { from = from; to = to; proto = Tcp; range = range first last (record { before = None; after = now; halves = false }) }

-- ---- scripts
abbrev pub a : List ℕ
a = codes "a"

abbrev pub b : List ℕ
b = codes "b"

abbrev pub two_pods : List Request
two_pods = pod a 1 ∷ pod b 2 ∷ []

-- a may send to b on port 1, and b may receive from a on these ports
abbrev pub b_receives : List PortSpec → List Request
b_receives ports = two_pods ++ sends a (pods_of b) (tcp 1 1 ∷ []) ∷ receives b (pods_of a) ports ∷ []

-- b may receive from a on ports 0 to 3, but for those of the deny
abbrev pub b_receives_but : List Request → List Request
b_receives_but denies = two_pods ++ receives b (pods_of a) (tcp 0 3 ∷ []) ∷ denies

-- two pods of the app a elsewhere, one as the other
abbrev pub alike : List PortSpec → List Request
alike ports = elsewhere (codes "x") a ∷ elsewhere (codes "y") a ∷ pod b 2 ∷ receives b (pods_of a) ports ∷ []

-- 20.0.0.0/8
abbrev pub net : Prefix
net = prefix_of (addr_of_octets 20 0 0 0) 8

-- 2001:db8::/32
abbrev pub net6 : Prefix
net6 = prefix_of (addr_of_groups (8193 ∷ 3512 ∷ 0 ∷ 0 ∷ 0 ∷ 0 ∷ 0 ∷ 0 ∷ [])) 32

-- ::/96, which contains an IPv6 address with the bits of each IPv4 address
abbrev pub low6 : Prefix
low6 = prefix_of (V6 0) 96

-- a may send to the entity on port 0
abbrev pub sends_out : Entity → List Request
sends_out e = pod a 1 ∷ sends a (peer.Entity e) (tcp 0 0 ∷ []) ∷ []

-- a may send to the world, but for what the policies deny
abbrev pub to_world : List Request → List Request
to_world denies = pod a 1 ∷ sends a (peer.Entity entity.World) [] ∷ denies

-- but not on port 0 to the prefix
abbrev pub to_world_but : Prefix → List Request
to_world_but prefix = to_world (withholds a (peer.Cidr prefix []) (tcp 0 0 ∷ []) ∷ [])

-- a and a pod without labels, one of which may receive nothing
abbrev pub with_new : List Request
with_new = pod a 1 ∷ new_pod (codes "n") 2 ∷ []

-- all that b may receive is from itself
abbrev pub closed : List Request
closed = pod b 2 ∷ receives b (pods_of b) [] ∷ []

-- the local host may not come in where no rule lets it
abbrev pub by_policy : Options
by_policy = record { mode = Default; localhost = false; map_max = None }

-- the local host
abbrev pub host : End
host = record { name = name.Reserved 1; number = 1; subject = None }

-- the ends of a script's endpoints, by their slots
abbrev pub none_there : End
none_there = record { name = name.Reserved 0; number = 0; subject = None }

abbrev pub end_at : ℕ → List Request → End
end_at slot requests = option_map_or endpoint_end (find (λ endpoint. endpoint.slot == slot) (state_of ordinary requests).endpoints) none_there

abbrev pub first_end : List Request → End
first_end requests = end_at 0 requests

abbrev pub second_end : List Request → End
second_end requests = end_at 1 requests
