-- What specifications say of the keys of a policy map.
use Rattle.std.specs.Prelude.{ℕ, Bool, not, refl, ◌&&◌, ◌==◌}
use Rattle.std.specs.Ordering.{nat_cmp, ordering_then}
use Rattle.std.specs.declared.cmp.Ordering.{Ordering}
use Rattle.pol_ports.specs.declared.Direction.{Direction}
use Rattle.pol_ports.specs.declared.PortPrefix.{PortPrefix}
use Rattle.pol_ports.specs.declared.Proto.{Proto}
use Rattle.pol_ports.specs.Direction.{same_direction, direction_cmp}
use Rattle.pol_ports.specs.PortPrefix.{empty_prefix, prefix_holds, prefix_contains, prefix_cmp, same_prefix}
use Rattle.pol_mapkey.specs.declared.KeyProto.TheVariants.{Every}
use Rattle.pol_mapkey.specs.declared.MapKey.{MapKey}
use Rattle.pol_mapkey.specs.KeyProto.{key_proto, key_proto-not_every, key_proto_cmp, same_key_proto, proto_covers}

-- the key of a direction and an identity for every protocol and port
abbrev pub every_key : Direction → ℕ → MapKey
every_key dir id = record { dir = dir; id = id; proto = Every; port = empty_prefix; every_port = λ _. refl }

-- the key of a direction and an identity for one protocol and the ports of a prefix
abbrev pub port_key : Direction → ℕ → Proto → PortPrefix → MapKey
port_key dir id proto port =
    record {
      dir = dir;
      id = id;
      proto = key_proto proto;
      port = port;
      every_port = λ same. absurd (key_proto-not_every proto same);
    }

-- whether two keys are the same
abbrev pub same_key : MapKey → MapKey → Bool
same_key a b = same_direction a.dir b.dir && (a.id == b.id) && same_key_proto a.proto b.proto && same_prefix a.port b.port

-- The order of keys: by direction, identity, protocol and port prefix (profile).
abbrev pub key_cmp : MapKey → MapKey → Ordering
key_cmp a b =
    ordering_then (direction_cmp a.dir b.dir)
    (ordering_then (nat_cmp a.id b.id) (ordering_then (key_proto_cmp a.proto b.proto) (prefix_cmp a.port b.port)))

-- Whether the first key covers the second: direction and identity are equal, the first's protocol
-- is `Every` or the second's, and the first's port prefix contains the second's.
abbrev pub covers : MapKey → MapKey → Bool
covers a b = same_direction a.dir b.dir && (a.id == b.id) && proto_covers a.proto b.proto && prefix_contains a.port b.port

-- whether the first key covers the second, and they differ: the second lies strictly under the first
abbrev pub strictly_covers : MapKey → MapKey → Bool
strictly_covers a b = covers a b && not (same_key a b)

-- Whether the key covers a packet of its identity: the key has the packet's direction, its protocol
-- is `Every` or the packet's, and its port prefix has the port.
abbrev pub covers_packet : MapKey → Direction → Proto → ℕ → Bool
covers_packet key dir proto port =
    same_direction key.dir dir && proto_covers key.proto (key_proto proto) && prefix_holds key.port port
