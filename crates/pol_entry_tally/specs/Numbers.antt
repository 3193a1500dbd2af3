-- The numbers of keys, by which a tally has them. No public clause cites this module.
use Rattle.std.specs.Prelude.{ℕ, ◌≡◌, ◌+◌, ◌*◌, ◌/◌, ◌%◌, ◌^◌, Bool, ◌&&◌, min, nat_eq, nat_lt, true, if◌then◌else◌, Option, None, Some}
use Rattle.pol_ports.specs.PortPrefix.{prefix_at}
use Rattle.pol_ports.specs.declared.Direction.{Direction}
use Rattle.pol_ports.specs.declared.Direction.TheVariants.{Ingress, Egress}
use Rattle.pol_ports.specs.declared.PortPrefix.{PortPrefix}
use Rattle.pol_ports.specs.declared.Proto.{Proto}
use Rattle.pol_ports.specs.declared.Proto.TheVariants.{Tcp as TcpPackets, Udp as UdpPackets, Sctp as SctpPackets}
use Rattle.pol_mapkey.specs.KeyProto.{proto_place}
use Rattle.pol_mapkey.specs.MapKey.{every_key, port_key}
use Rattle.pol_mapkey.specs.declared.Kind.{Kind}
use Rattle.pol_mapkey.specs.declared.Kind.TheVariants.{Allow, Deny}
use Rattle.pol_mapkey.specs.declared.MapKey.{MapKey}

abbrev pub dir_place : Direction → ℕ
dir_place Ingress = 0
dir_place Egress = 1

-- whether the key's numbers are such as a program's keys have
abbrev pub fits : MapKey → Bool
fits key = nat_lt key.id (2 ^ 32) && nat_lt key.port.bits (2 ^ 16)

-- the number of a key: from the highest bits on its direction, identity, protocol, first port and length
abbrev pub number_of : MapKey → ℕ
number_of key = dir_place key.dir * 2 ^ 55 + key.id * 2 ^ 23 + proto_place key.proto * 2 ^ 21 + key.port.bits * 2 ^ 5 + key.port.len

-- ---- the key of a number
abbrev pub dir_at : ℕ → Direction
dir_at place = if nat_eq place 0 then Ingress else Egress

abbrev pub proto_at : ℕ → Option Proto
proto_at place =
    if nat_eq place 1 then Some TcpPackets else (if nat_eq place 2 then Some UdpPackets else (if nat_eq place 3 then Some SctpPackets else None))

abbrev pub port_at : ℕ → ℕ → PortPrefix
port_at bits len = prefix_at bits (min len 16)

abbrev pub key_at : Direction → ℕ → Option Proto → PortPrefix → MapKey
key_at dir id None port = every_key dir id
key_at dir id (Some proto) port = port_key dir id proto port

abbrev pub key_of : ℕ → MapKey
key_of n = key_at (dir_at (n / 2 ^ 55)) (n / 2 ^ 23 % 2 ^ 32) (proto_at (n / 2 ^ 21 % 2 ^ 2)) (port_at (n / 2 ^ 5 % 2 ^ 16) (n % 2 ^ 5))

-- ---- a key's group is its direction and identity, its place is the rest and a kind
abbrev pub group_of : MapKey → ℕ
group_of key = dir_place key.dir * 2 ^ 32 + key.id

abbrev pub local_of : MapKey → ℕ
local_of key = proto_place key.proto * 2 ^ 21 + key.port.bits * 2 ^ 5 + key.port.len

abbrev pub kind_place : Kind → ℕ
kind_place Deny = 0
kind_place Allow = 1

abbrev pub place_of : MapKey → Kind → ℕ
place_of key kind = kind_place kind * 2 ^ 23 + local_of key

-- the number of a key and a kind
abbrev pub code_of : MapKey → Kind → ℕ
code_of key kind = group_of key * 2 ^ 24 + place_of key kind

-- the key of a group that stands there
abbrev pub key_in : ℕ → ℕ → MapKey
key_in group local = key_of (group * 2 ^ 23 + local)

-- a place of some key
abbrev pub IsPlace : ℕ → Type 0
IsPlace place = (key : MapKey) × (kind : Kind) × (fits key ≡ true) × (place ≡ place_of key kind)

-- the number of a key and a kind of the group
abbrev pub IsCodeOf : ℕ → ℕ → Type 0
IsCodeOf group code = (key : MapKey) × (kind : Kind) × (fits key ≡ true) × (group_of key ≡ group) × (code ≡ code_of key kind)
