-- How often entries give each key each kind, and what their map says of a key.
use Rattle.std.specs.Prelude.{ℕ, ◌&&◌, ◌||◌, Bool, true, false, nat_lt, count_by, if◌then◌else◌, List, Option, None, Some}
use Rattle.std.proofs.Common.{zero, suc}
use Rattle.pol_ports.specs.PortPrefix.{prefix_at}
use Rattle.pol_ports.specs.declared.Proto.{Proto}
use Rattle.pol_ports.specs.declared.Proto.TheVariants.{Tcp as TcpPackets, Udp as UdpPackets, Sctp as SctpPackets}
use Rattle.pol_mapkey.specs.Entries.{Entry}
use Rattle.pol_mapkey.specs.MapKey.{every_key, port_key, same_key}
use Rattle.pol_mapkey.specs.declared.KeyProto.{KeyProto}
use Rattle.pol_mapkey.specs.declared.KeyProto.TheVariants.{Every, Tcp, Udp, Sctp}
use Rattle.pol_mapkey.specs.declared.Kind.{Kind}
use Rattle.pol_mapkey.specs.declared.Kind.TheVariants.{Allow, Deny}
use Rattle.pol_mapkey.specs.declared.MapKey.{MapKey}

-- how often each key is given each kind
abbrev pub Times : Type 0
Times = MapKey → Kind → ℕ

abbrev pub same_kind : Kind → Kind → Bool
same_kind Allow Allow = true
same_kind Allow Deny = false
same_kind Deny Allow = false
same_kind Deny Deny = true

-- how often entries do
abbrev pub is_entry : MapKey → Kind → Entry → Bool
is_entry key kind e = same_kind e.1 kind && same_key e.0 key

abbrev pub times : List Entry → Times
times entries key kind = count_by (is_entry key kind) entries

-- whether the key is given the kind
abbrev pub is_given : Times → Kind → MapKey → Bool
is_given given kind key = nat_lt 0 (given key kind)

-- whether one of the numbers below this one passes
abbrev pub any_below : (ℕ → Bool) → ℕ → Bool
any_below test zero = false
any_below test (suc n) = test n || any_below test n

-- the packets that the key is of, if they are of one protocol
abbrev pub packets_of : KeyProto → Option Proto
packets_of Every = None
packets_of Tcp = Some TcpPackets
packets_of Udp = Some UdpPackets
packets_of Sctp = Some SctpPackets

-- whether a wider key is denied: one of the protocol with fewer bits of the port, or the one of every protocol
abbrev pub is_under_of : Times → MapKey → Option Proto → Bool
is_under_of given key None = false
is_under_of given key (Some proto) =
    any_below (λ len. is_given given Deny (port_key key.dir key.id proto (prefix_at key.port.bits len))) key.port.len
    || is_given given Deny (every_key key.dir key.id)

abbrev pub is_under : Times → MapKey → Bool
is_under given key = is_under_of given key (packets_of key.proto)

-- what the map says of a key: nothing under a deny, and else a deny before an allow
abbrev pub kind_by : Bool → Bool → Bool → Option Kind
kind_by under denied allowed = if under then None else (if denied then Some Deny else (if allowed then Some Allow else None))

abbrev pub kind_of : Times → MapKey → Option Kind
kind_of given key = kind_by (is_under given key) (is_given given Deny key) (is_given given Allow key)
