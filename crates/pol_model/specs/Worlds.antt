-- The worlds: what lies outside the cluster, by the family of its address (Cilium, Terminology, "Special Identities"). Their
-- numbers, names and prefixes stand here once; rows, entities and labels take them from here.
use Rattle.std.specs.Prelude.{ℕ, ◌==◌, Bool, List, [], ◌∷◌, codes, find, map, Option, option_map}
use Rattle.std.specs.List.{list_any}
use Rattle.pol_addr.specs.declared.address.Addr.{Addr}
use Rattle.pol_addr.specs.declared.network.Prefix.{Prefix}
use Rattle.pol_addr.specs.Address.{family_of}
use Rattle.pol_addr.specs.declared.family.Family.{Family}
use Rattle.pol_addr.specs.declared.family.Family.TheVariants.{Ipv4, Ipv6}
use Rattle.pol_addr.specs.Prefix.{world}
use Rattle.pol_labels.specs.declared.label.Label.{Label}
use Rattle.pol_model.specs.declared.limits.TheConstants.{WORLD_IDENTITY, WORLD_IPV4_IDENTITY, WORLD_IPV6_IDENTITY}

pub record World : Type 0 where
  -- the identity of an address that no endpoint and no held prefix has
  pub identity : ℕ
  -- the label `reserved:NAME`, of that identity and of each prefix of the family
  pub name : List ℕ
  -- the prefix in which each address of the family lies
  pub prefix : Prefix

-- the world of a family
abbrev pub world_in : Family → World
world_in Ipv4 = record { identity = WORLD_IPV4_IDENTITY; name = codes "world-ipv4"; prefix = world Ipv4 }
world_in Ipv6 = record { identity = WORLD_IPV6_IDENTITY; name = codes "world-ipv6"; prefix = world Ipv6 }

abbrev pub worlds : List World
worlds = world_in Ipv4 ∷ world_in Ipv6 ∷ []

-- the world that an address lies in
abbrev pub world_of : Addr → World
world_of address = world_in (family_of address)

-- the world that a prefix lies in
abbrev pub world_around : Prefix → World
world_around prefix = world_of prefix.addr

-- the label `reserved:NAME`
abbrev pub reserved_label : List ℕ → Label
reserved_label name = record { source = codes "reserved"; key = name; value = [] }

-- the one label of what lies in a world
abbrev pub world_labels : World → List Label
world_labels w = reserved_label w.name ∷ []

-- the prefix of a reserved number: only a world's identity has one
abbrev pub prefix_of_reserved : ℕ → Option Prefix
prefix_of_reserved number = option_map (λ w. w.prefix) (find (λ w. w.identity == number) worlds)

-- what lies outside the cluster whatever its family: a number and a name, without a prefix
abbrev pub either_world : ℕ × List ℕ
either_world = (WORLD_IDENTITY, codes "world")

-- a family's world by number and name
abbrev pub named_world : World → ℕ × List ℕ
named_world w = (w.identity, w.name)

-- the reserved identities of what lies outside the cluster, with their names: of either family, and of each
abbrev pub outside : List (ℕ × List ℕ)
outside = either_world ∷ map named_world worlds

-- whether the number is one of theirs
abbrev pub is_outside : ℕ → Bool
is_outside number = list_any (λ w. w.0 == number) outside
