-- Under what selectors and identities are filed ('profile').
use Rattle.std.specs.Prelude.{◌==◌, ◌*◌, ◌/◌, ◌&&◌, Bool, ℕ, List, codes, length, slice_get, find}
use Rattle.std.specs.Option.{option_map_or}
use Rattle.pol_addr.specs.declared.network.Prefix.{Prefix}
use Rattle.pol_addr.specs.Prefix.{network_of, prefix_of}
use Rattle.pol_headings.specs.contracts.heading.HeadingPartialEq.TheImpl as headings
use Rattle.pol_headings.specs.declared.heading.Heading.{Heading}
use Rattle.pol_headings.specs.declared.heading.Heading.TheVariants as heading
use Rattle.pol_headings.specs.declared.heading_ref.HeadingRef.{HeadingRef}
use Rattle.pol_headings.specs.declared.heading_ref.HeadingRef.TheVariants as by
use Rattle.pol_labels.specs.declared.label.Label.{Label}
use Rattle.pol_labels.specs.declared.requirement.Requirement.{Requirement}
use Rattle.pol_labels.specs.declared.requirement.Operator.TheVariants.{OneOf}
use Rattle.pol_labels.specs.Same.{same_operator}
use Rattle.pol_model.specs.Worlds.{reserved_label}
use Rattle.pol_rule.specs.declared.policy.Entity.{Entity}
use Rattle.pol_rule.specs.declared.policy.Entity.TheVariants as entity
use Rattle.pol_rule.specs.declared.policy.Peer.{Peer}
use Rattle.pol_rule.specs.declared.policy.Peer.TheVariants as peer

-- whether they are one heading
abbrev pub same_heading : Heading → Heading → Bool
same_heading = headings.ghosts.eq

-- the heading that is referred to
abbrev pub heading_by : HeadingRef → Heading
heading_by (by.Label key value) = heading.Label key.now value.now
heading_by (by.Prefix prefix) = heading.Prefix prefix
heading_by by.Any = heading.Any

-- the heading of the label's key and value
abbrev pub label_heading : Label → Heading
label_heading label = heading.Label label.key label.value

-- the requirement asks for one value alone
abbrev pub names_one : Requirement → Bool
names_one requirement = same_operator requirement.op OneOf && (length requirement.values == 1)

-- under the key and its first value
abbrev pub under_first : Requirement → Heading
under_first requirement = option_map_or (λ value. heading.Label requirement.key value) (slice_get requirement.values 0) heading.Any

-- under the first requirement that asks for one value alone
abbrev pub heading_of_labels : List Requirement → Heading
heading_of_labels requirements = option_map_or under_first (find names_one requirements) heading.Any

-- the prefix of the first whole octets
abbrev pub whole_octets : Prefix → Prefix
whole_octets prefix = prefix_of (network_of prefix) (prefix.len / 8 * 8)

-- the heading of the label `reserved:NAME`
abbrev pub reserved_heading : List ℕ → Heading
reserved_heading name = label_heading (reserved_label name)

-- an entity that one reserved label names stands under that label; `world` has three, and stands with those of any label
abbrev pub heading_of_entity : Entity → Heading
heading_of_entity entity.All = heading.Any
heading_of_entity entity.World = heading.Any
heading_of_entity entity.WorldIpv4 = reserved_heading (codes "world-ipv4")
heading_of_entity entity.WorldIpv6 = reserved_heading (codes "world-ipv6")
heading_of_entity entity.Host = reserved_heading (codes "host")
heading_of_entity entity.RemoteNode = reserved_heading (codes "remote-node")
heading_of_entity entity.KubeApiserver = reserved_heading (codes "kube-apiserver")
heading_of_entity entity.Ingress = reserved_heading (codes "ingress")
heading_of_entity entity.Init = reserved_heading (codes "init")
heading_of_entity entity.Health = reserved_heading (codes "health")
heading_of_entity entity.Unmanaged = reserved_heading (codes "unmanaged")
heading_of_entity entity.Cluster = heading.Any

-- the heading of the peer's selector
abbrev pub heading_of : Peer → Heading
heading_of (peer.Labels selector) = heading_of_labels selector
heading_of (peer.Cidr prefix except) = heading.Prefix (whole_octets prefix)
heading_of (peer.Entity entity) = heading_of_entity entity
