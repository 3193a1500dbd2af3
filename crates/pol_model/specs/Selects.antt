-- Which identities a peer selects (Cilium, Network Policy, "Endpoints based", "CIDR based" and "Entities based").
use Rattle.std.specs.Prelude.{ℕ, ◌==◌, ◌&&◌, ◌||◌, not, nat_le, Bool, true, false, List, codes, map, filter, Option}
use Rattle.std.specs.List.{list_any}
use Rattle.std.specs.Option.{option_map_or}
use Rattle.pol_addr.specs.declared.family.Family.TheVariants.{Ipv4, Ipv6}
use Rattle.pol_addr.specs.declared.network.Prefix.{Prefix}
use Rattle.pol_addr.specs.Prefix.{covers}
use Rattle.pol_labels.specs.declared.label.Label.{Label}
use Rattle.pol_labels.specs.Match.{matches, carries}
use Rattle.pol_rule.specs.declared.policy.Entity.{Entity}
use Rattle.pol_rule.specs.declared.policy.Entity.TheVariants as entity
use Rattle.pol_rule.specs.declared.policy.Peer.{Peer}
use Rattle.pol_rule.specs.declared.policy.Peer.TheVariants as peer
use Rattle.pol_model.specs.declared.limits.TheConstants.{RESERVED_LAST}
use Rattle.pol_model.specs.declared.row.IdentityRow.{IdentityRow}
use Rattle.pol_model.specs.Worlds.{is_outside, outside, reserved_label, world_in}

-- What is known of the other side of a connection: its labels; which prefixes it lies in; and whether it is
-- one of the cluster's own reserved identities.
pub record Known : Type 0 where
  pub labels : List Label
  pub lies_in : Prefix → Bool
  pub is_core : Bool

-- whether the other side has the label `reserved:NAME`
abbrev pub is_named : Known → List ℕ → Bool
is_named known name = carries known.labels (reserved_label name)

-- `k8s:io.cilium.k8s.policy.cluster=default` ('profile')
abbrev pub cluster_label : Label
cluster_label = record { source = codes "k8s"; key = codes "io.cilium.k8s.policy.cluster"; value = codes "default" }

abbrev pub entity_selects : Known → Entity → Bool
entity_selects known entity.All = true
entity_selects known entity.World = list_any (λ w. is_named known w.1) outside
entity_selects known entity.WorldIpv4 = is_named known (world_in Ipv4).name
entity_selects known entity.WorldIpv6 = is_named known (world_in Ipv6).name
entity_selects known entity.Host = is_named known (codes "host")
entity_selects known entity.RemoteNode = is_named known (codes "remote-node")
entity_selects known entity.KubeApiserver = is_named known (codes "kube-apiserver")
entity_selects known entity.Ingress = is_named known (codes "ingress")
entity_selects known entity.Init = is_named known (codes "init")
entity_selects known entity.Health = is_named known (codes "health")
entity_selects known entity.Unmanaged = is_named known (codes "unmanaged")
entity_selects known entity.Cluster = known.is_core || carries known.labels cluster_label

-- whether the peer selects the other side
abbrev pub selects : Known → Peer → Bool
selects known (peer.Labels selector) = matches selector known.labels
selects known (peer.Cidr prefix except) = known.lies_in prefix && not (list_any known.lies_in except)
selects known (peer.Entity entity) = entity_selects known entity

-- the reserved numbers but those outside the cluster, the members of `cluster` by number ('profile')
abbrev pub is_core_number : ℕ → Bool
is_core_number number = nat_le 1 number && nat_le number RESERVED_LAST && not (is_outside number)

-- what is known of an identity of this number, these labels and this prefix
abbrev pub known_as : ℕ → List Label → Option Prefix → Known
known_as number labels prefix = record {
  labels = labels;
  lies_in = λ within. option_map_or (covers within) prefix false;
  is_core = is_core_number number;
}

abbrev pub known_row : IdentityRow → Known
known_row row = known_as row.number row.labels row.prefix

-- whether the peer selects the row
abbrev pub selects_row : Peer → IdentityRow → Bool
selects_row p row = selects (known_row row) p

-- the allocated numbers that the peer selects, ascending where the rows do
abbrev pub set_at : List IdentityRow → Peer → List ℕ
set_at rows p = map (λ row. row.number) (filter (selects_row p) rows)

-- the entity `all` selects every number, allocated or not
abbrev pub is_all : Peer → Bool
is_all (peer.Entity entity.All) = true
is_all _ = false

-- whether the peer selects the number; one without a row is selected by `all` alone
abbrev pub selects_number : List IdentityRow → ℕ → Peer → Bool
selects_number rows number p = is_all p || list_any (λ row. (row.number == number) && selects_row p row) rows
