-- What specifications say of the protocols of keys.
use Rattle.std.specs.Prelude.{◌≡◌, ℕ, Bool, true, ◌==◌}
use Rattle.std.specs.Ordering.{nat_cmp}
use Rattle.std.proofs.Common.{subst}
use Rattle.std.specs.declared.cmp.Ordering.{Ordering}
use Rattle.pol_ports.specs.declared.Proto.{Proto}
use Rattle.pol_ports.specs.declared.Proto.TheVariants.{Tcp as TcpPackets, Udp as UdpPackets, Sctp as SctpPackets}
use Rattle.pol_mapkey.specs.declared.KeyProto.{KeyProto}
use Rattle.pol_mapkey.specs.declared.KeyProto.TheVariants.{Every, Tcp, Udp, Sctp}

-- a key's protocol for the packets of a protocol alone
abbrev pub key_proto : Proto → KeyProto
key_proto TcpPackets = Tcp
key_proto UdpPackets = Udp
key_proto SctpPackets = Sctp

-- the protocol is one of packets
abbrev pub IsOfPackets : KeyProto → Type 0
IsOfPackets Every = ⊥
IsOfPackets Tcp = Unit {0}
IsOfPackets Udp = Unit {0}
IsOfPackets Sctp = Unit {0}

-- a protocol of packets is not `Every`
pub key_proto-not_every : (proto : Proto) → key_proto proto ≡ Every → ⊥
key_proto-not_every TcpPackets same = subst IsOfPackets same tt
key_proto-not_every UdpPackets same = subst IsOfPackets same tt
key_proto-not_every SctpPackets same = subst IsOfPackets same tt

-- a number for each protocol of keys, in their order
abbrev pub proto_place : KeyProto → ℕ
proto_place Every = 0
proto_place Tcp = 1
proto_place Udp = 2
proto_place Sctp = 3

-- whether two are the same
abbrev pub same_key_proto : KeyProto → KeyProto → Bool
same_key_proto a b = proto_place a == proto_place b

-- their order
abbrev pub key_proto_cmp : KeyProto → KeyProto → Ordering
key_proto_cmp a b = nat_cmp (proto_place a) (proto_place b)

-- whether a key of the first protocol is for all packets of a key of the second
abbrev pub proto_covers : KeyProto → KeyProto → Bool
proto_covers Every b = true
proto_covers Tcp b = same_key_proto Tcp b
proto_covers Udp b = same_key_proto Udp b
proto_covers Sctp b = same_key_proto Sctp b
