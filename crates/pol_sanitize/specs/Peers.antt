-- The peers of an entry (Cilium, Network Policy, "Layer 3 Examples").
use Rattle.std.specs.Prelude.{ℕ, Bool, false, not, ◌&&◌, ◌||◌, nat_lt, if◌then◌else◌, List, [], ◌∷◌, ◌++◌, length, codes, count_by, filter_map, Option, None, Some, is_none, option_map}
use Rattle.std.specs.List.{list_any}
use Rattle.std.specs.Option.{option_map_or}
use Rattle.std.specs.Str.{bytes_eq}
use Rattle.pol_addr.specs.Prefix.{covers, read_prefix}
use Rattle.pol_addr.specs.declared.network.Prefix.{Prefix}
use Rattle.pol_rule.specs.declared.policy.Entity.{Entity}
use Rattle.pol_rule.specs.declared.policy.Entity.TheVariants as entity
use Rattle.pol_rule.specs.declared.policy.Peer.{Peer}
use Rattle.pol_rule.specs.declared.policy.Peer.TheVariants as peer
use Rattle.pol_rule.specs.declared.policy.Peers.{Peers}
use Rattle.pol_rule.specs.declared.policy.Peers.TheVariants.{Every, Listed}
use Rattle.pol_rule.specs.declared.policy.PolicyKey.{PolicyKey}
use Rattle.pol_rule.specs.declared.raw.RawCidrSet.{RawCidrSet}
use Rattle.pol_rule.specs.declared.raw.RawEntry.{RawEntry}
use Rattle.pol_rule.specs.declared.raw.RawSelector.{RawSelector}
use Rattle.pol_sanitize.specs.Selectors.{is_bad_selector, peer_selector}

-- ---- one peer

abbrev pub endpoint_peer : PolicyKey → RawSelector → Option Peer
endpoint_peer key selector = if is_bad_selector selector then None else Some (peer.Labels (peer_selector key selector))

abbrev pub is_bad_cidr : List ℕ → Bool
is_bad_cidr text = is_none (read_prefix text)

abbrev pub cidr_peer : List ℕ → Option Peer
cidr_peer text = option_map (λ prefix. peer.Cidr prefix []) (read_prefix text)

-- a prefix, without the prefixes of its exceptions
abbrev pub exceptions_of : RawCidrSet → List Prefix
exceptions_of set = filter_map read_prefix set.except

abbrev pub is_bad_set : RawCidrSet → Bool
is_bad_set set = is_bad_cidr set.cidr || list_any is_bad_cidr set.except

abbrev pub set_peer : RawCidrSet → Option Peer
set_peer set = option_map (λ prefix. peer.Cidr prefix (exceptions_of set)) (read_prefix set.cidr)

-- an exception isn't inside the prefix
abbrev pub leaves : List Prefix → Prefix → Bool
leaves exceptions prefix = list_any (λ exception. not (covers prefix exception)) exceptions

abbrev pub has_outside_exception : RawCidrSet → Bool
has_outside_exception set = option_map_or (leaves (exceptions_of set)) (read_prefix set.cidr) false

-- the names of entities (Cilium, Network Policy, "Entities based")
abbrev pub entity_of : List ℕ → Option Entity
entity_of text =
    if bytes_eq text (codes "all") then Some entity.All
    else if bytes_eq text (codes "world") then Some entity.World
    else if bytes_eq text (codes "world-ipv4") then Some entity.WorldIpv4
    else if bytes_eq text (codes "world-ipv6") then Some entity.WorldIpv6
    else if bytes_eq text (codes "host") then Some entity.Host
    else if bytes_eq text (codes "remote-node") then Some entity.RemoteNode
    else if bytes_eq text (codes "kube-apiserver") then Some entity.KubeApiserver
    else if bytes_eq text (codes "ingress") then Some entity.Ingress
    else if bytes_eq text (codes "init") then Some entity.Init
    else if bytes_eq text (codes "health") then Some entity.Health
    else if bytes_eq text (codes "unmanaged") then Some entity.Unmanaged
    else if bytes_eq text (codes "cluster") then Some entity.Cluster
    else None

abbrev pub entity_peer : List ℕ → Option Peer
entity_peer text = option_map peer.Entity (entity_of text)

abbrev pub is_unknown_entity : List ℕ → Bool
is_unknown_entity text = is_none (entity_of text)

-- ---- all peers

-- the items of a list that may be absent
abbrev pub listed : {X : Type 0} → Option (List X) → List X
listed None = []
listed (Some items) = items

-- how long the lists of each kind are
abbrev pub kind_lengths : RawEntry → List ℕ
kind_lengths entry =
    length (listed entry.endpoints) ∷ length (listed entry.cidrs) ∷ length (listed entry.cidr_sets)
    ∷ length (listed entry.entities) ∷ []

-- peers of more than one kind
abbrev pub combines_kinds : RawEntry → Bool
combines_kinds entry = nat_lt 1 (count_by (nat_lt 0) (kind_lengths entry))

abbrev pub has_no_peer_member : RawEntry → Bool
has_no_peer_member entry =
    is_none entry.endpoints && is_none entry.cidrs && is_none entry.cidr_sets && is_none entry.entities

abbrev pub listed_peers : PolicyKey → RawEntry → List Peer
listed_peers key entry =
    filter_map (endpoint_peer key) (listed entry.endpoints) ++ filter_map cidr_peer (listed entry.cidrs)
    ++ filter_map set_peer (listed entry.cidr_sets) ++ filter_map entity_peer (listed entry.entities)

-- An entry without a peer member is for every peer. A list of peers that is there and empty selects nobody ('profile').
abbrev pub peers_of : PolicyKey → RawEntry → Peers
peers_of key entry = if has_no_peer_member entry then Every else Listed (listed_peers key entry)
