-- Small states, whose maps laws write out.
use Rattle.std.specs.Prelude.{ℕ, true, false, List, [], ◌∷◌, ◌++◌, codes, Option, None, Some, option_map}
use Rattle.pol_addr.specs.Address.{addr_of_octets}
use Rattle.pol_addr.specs.declared.address.Addr.{Addr}
use Rattle.pol_addr.specs.Prefix.{prefix_of}
use Rattle.pol_labels.specs.declared.label.Label.{Label}
use Rattle.pol_labels.specs.declared.requirement.Operator.TheVariants.{OneOf}
use Rattle.pol_labels.specs.declared.requirement.Requirement.{Requirement}
use Rattle.pol_ports.specs.PortRange.{range_from}
use Rattle.pol_ports.specs.declared.Direction.{Direction}
use Rattle.pol_ports.specs.declared.Proto.TheVariants.{Tcp, Udp, Sctp}
use Rattle.pol_mapkey.specs.Entries.{Entry as MapEntry}
use Rattle.pol_mapkey.specs.declared.Word.{Word}
use Rattle.pol_rule.specs.Plain.{rule_of}
use Rattle.pol_rule.specs.declared.policy.Entity.{Entity}
use Rattle.pol_rule.specs.declared.policy.Entity.TheVariants as entity
use Rattle.pol_rule.specs.declared.policy.Entry.{Entry}
use Rattle.pol_rule.specs.declared.policy.Peer.{Peer}
use Rattle.pol_rule.specs.declared.policy.Peer.TheVariants as peer
use Rattle.pol_rule.specs.declared.policy.Peers.TheVariants.{Every, Listed}
use Rattle.pol_rule.specs.declared.policy.Policy.{Policy}
use Rattle.pol_rule.specs.declared.policy.PolicyKey.{PolicyKey}
use Rattle.pol_rule.specs.declared.policy.PortSpec.{PortSpec}
use Rattle.pol_model.specs.declared.options.Mode.TheVariants.{Default}
use Rattle.pol_model.specs.declared.options.Options.{Options}
use Rattle.pol_model.specs.declared.request.Request.{Request}
use Rattle.pol_model.specs.declared.request.Request.TheVariants.{AddEndpoint, AddIdentity, Apply, Remove}
use Rattle.pol_model.specs.After.{state_of}
use Rattle.pol_model.specs.Endpoints.{endpoint_of}
use Rattle.pol_model.specs.PolicyMap.{policy_map, map_size}
use Rattle.pol_model.specs.Selects.{set_at}
use Rattle.pol_model.specs.Remote.{number_at, verdict_at_address}
use Rattle.pol_model.specs.Worlds.{reserved_label}

-- mode `default`, and the local host may always come in
abbrev pub ordinary : Options
ordinary = record { mode = Default; localhost = true; map_max = None }

-- the map of the endpoint of that name after the requests
abbrev pub map_after : List ℕ → List Request → Option (List MapEntry)
map_after name requests =
    option_map (policy_map ordinary (state_of ordinary requests)) (endpoint_of name (state_of ordinary requests).endpoints)

abbrev pub size_after : List ℕ → List Request → Option ℕ
size_after name requests =
    option_map (map_size ordinary (state_of ordinary requests)) (endpoint_of name (state_of ordinary requests).endpoints)

-- the verdict at that endpoint on TCP port 80 of an address
abbrev pub word_after : List ℕ → List Request → Direction → Addr → Option Word
word_after name requests dir address =
    option_map (λ endpoint. verdict_at_address ordinary (state_of ordinary requests) endpoint dir address Tcp 80)
    (endpoint_of name (state_of ordinary requests).endpoints)

-- the number of an address
abbrev pub number_after : List Request → Addr → ℕ
number_after requests address = number_at address (state_of ordinary requests).endpoints (state_of ordinary requests).identities

abbrev pub k8s_label : List ℕ → List ℕ → Label
k8s_label key value = record { source = codes "k8s"; key = key; value = value }

abbrev pub namespace_label : Label
namespace_label = k8s_label (codes "io.kubernetes.pod.namespace") (codes "default")

abbrev pub namespace_is_default : Requirement
namespace_is_default = record {
  any_source = false;
  source = codes "k8s";
  key = codes "io.kubernetes.pod.namespace";
  op = OneOf;
  values = codes "default" ∷ [];
}

abbrev pub app_is : List ℕ → Requirement
app_is app = record { any_source = true; source = []; key = codes "app"; op = OneOf; values = app ∷ [] }

-- the endpoints of an app in the namespace `default`
abbrev pub app_peer : List ℕ → Peer
app_peer app = peer.Labels (app_is app ∷ namespace_is_default ∷ [])

abbrev pub key_of : List ℕ → PolicyKey
key_of name = record { cluster_wide = false; namespace = codes "default"; name = name }

-- policies for each endpoint in the namespace `default`
abbrev pub ingress_policy : List ℕ → List Entry → List Entry → Policy
ingress_policy name allows denies = record {
  key = key_of name;
  rules = record (rule_of (namespace_is_default ∷ [])) { ingress = allows; ingress_deny = denies } ∷ [];
}

abbrev pub egress_policy : List ℕ → List Entry → Policy
egress_policy name allows = record {
  key = key_of name;
  rules = record (rule_of (namespace_is_default ∷ [])) { egress = allows } ∷ [];
}

abbrev pub tcp_80 : PortSpec
tcp_80 = record { proto = Some Tcp; range = range_from 80 80 }

abbrev pub udp_80 : PortSpec
udp_80 = record { proto = Some Udp; range = range_from 80 80 }

abbrev pub sctp_80 : PortSpec
sctp_80 = record { proto = Some Sctp; range = range_from 80 80 }

-- any protocol, and all ports but the first and the last
abbrev pub wide : PortSpec
wide = record { proto = None; range = range_from 1 65534 }

abbrev pub web : Request
web = AddEndpoint (codes "web") (namespace_label ∷ []) (addr_of_octets 10 0 0 1)

-- an endpoint, an identity, and a policy that lets the identity in on TCP 80
abbrev pub x_let_in : List Request
x_let_in =
    web
    ∷ AddIdentity (codes "x") (k8s_label (codes "app") (codes "x") ∷ namespace_label ∷ [])
    ∷ Apply (ingress_policy (codes "allow") (record { peers = Listed (app_peer (codes "x") ∷ []); ports = tcp_80 ∷ [] } ∷ []) [])
    ∷ []

-- then a policy that denies the identity everything
abbrev pub x_denied : List Request
x_denied = x_let_in ++ Apply (ingress_policy (codes "deny") [] (record { peers = Listed (app_peer (codes "x") ∷ []); ports = [] } ∷ [])) ∷ []

-- and then it goes
abbrev pub x_let_in_again : List Request
x_let_in_again = x_denied ++ Remove (key_of (codes "deny")) ∷ []

-- an endpoint, and a policy that lets the entity `all` in on TCP 80
abbrev pub all_let_in : List Request
all_let_in =
    web
    ∷ Apply (ingress_policy (codes "p") (record { peers = Listed (peer.Entity entity.All ∷ []); ports = tcp_80 ∷ [] } ∷ []) [])
    ∷ []

abbrev pub big_identity : List ℕ → List ℕ → Request
big_identity name n = AddIdentity name (k8s_label (codes "app") (codes "big") ∷ namespace_label ∷ k8s_label (codes "n") n ∷ [])

-- An endpoint, two identities, and policies that let everybody in on TCP 80 and on these ports, and both
-- identities in on nearly all ports.
abbrev pub two_let_in_widely : List PortSpec → List Request
two_let_in_widely ports =
    web
    ∷ big_identity (codes "i0") (codes "0")
    ∷ big_identity (codes "i1") (codes "1")
    ∷ Apply (ingress_policy (codes "small") (record { peers = Every; ports = tcp_80 ∷ [] } ∷ []) [])
    ∷ Apply (ingress_policy (codes "big")
    (record { peers = Listed (app_peer (codes "big") ∷ []); ports = wide ∷ [] } ∷ record { peers = Every; ports = ports } ∷ []) [])
    ∷ []

abbrev pub far_web : Request
far_web = AddEndpoint (codes "web") (namespace_label ∷ []) (addr_of_octets 192 168 0 1)

-- an endpoint that may reach 10.0.0.0/8 without 10.1.0.0/16
abbrev pub net_without_part : List Request
net_without_part =
    far_web
    ∷ Apply (egress_policy (codes "p")
    (record {
      peers = Listed (peer.Cidr (prefix_of (addr_of_octets 10 0 0 0) 8) (prefix_of (addr_of_octets 10 1 0 0) 16 ∷ []) ∷ []);
      ports = [];
    } ∷ []))
    ∷ []

-- an endpoint that 10.0.0.0/8 may reach, and the world may not
abbrev pub net_of_denied_world : List Request
net_of_denied_world =
    far_web
    ∷ Apply (ingress_policy (codes "p")
    (record { peers = Listed (peer.Cidr (prefix_of (addr_of_octets 10 0 0 0) 8) [] ∷ []); ports = [] } ∷ [])
    (record { peers = Listed (peer.Entity entity.World ∷ []); ports = [] } ∷ []))
    ∷ []

-- an endpoint that the cluster may reach, and one that has no labels yet
abbrev pub cluster_let_in : List Request
cluster_let_in =
    far_web
    ∷ AddEndpoint (codes "new") (reserved_label (codes "init") ∷ []) (addr_of_octets 10 0 0 9)
    ∷ Apply (ingress_policy (codes "p") (record { peers = Listed (peer.Entity entity.Cluster ∷ []); ports = [] } ∷ []) [])
    ∷ []

-- the numbers that an entity selects, where beside the reserved identities one without and one with the
-- label of the cluster is there
abbrev pub members_of : Entity → List ℕ
members_of e =
    set_at
    (state_of ordinary
    (AddIdentity (codes "out") (namespace_label ∷ [])
    ∷ AddIdentity (codes "in") (k8s_label (codes "io.cilium.k8s.policy.cluster") (codes "default") ∷ [])
    ∷ [])).identities
    (peer.Entity e)
