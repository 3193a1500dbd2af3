-- The derived order of keys is the one by fields in turn.
use Rattle.std.proofs.Common.{◌≡◌, refl}
use Rattle.pol_ports.specs.declared.Direction.{Direction}
use Rattle.pol_ports.specs.declared.Direction.TheVariants.{Ingress, Egress}
use Rattle.pol_ports.specs.Direction.{direction_cmp}
use Rattle.pol_ports.specs.contracts.DirectionOrd.TheImpl as direction_ord
use Rattle.pol_mapkey.specs.declared.KeyProto.{KeyProto}
use Rattle.pol_mapkey.specs.declared.KeyProto.TheVariants.{Every, Tcp, Udp, Sctp}
use Rattle.pol_mapkey.specs.declared.MapKey.{MapKey}
use Rattle.pol_mapkey.specs.KeyProto.{key_proto_cmp}
use Rattle.pol_mapkey.specs.MapKey.{key_cmp}
use Rattle.pol_mapkey.specs.contracts.KeyProtoOrd.TheImpl as proto_ord
use Rattle.pol_mapkey.specs.contracts.MapKeyOrd.TheImpl as key_ord

direction_is : (a b : Direction) → direction_ord.ghosts.cmp a b ≡ direction_cmp a b
direction_is Ingress Ingress = refl
direction_is Ingress Egress = refl
direction_is Egress Ingress = refl
direction_is Egress Egress = refl

proto_is : (a b : KeyProto) → proto_ord.ghosts.cmp a b ≡ key_proto_cmp a b
proto_is Every Every = refl
proto_is Every Tcp = refl
proto_is Every Udp = refl
proto_is Every Sctp = refl
proto_is Tcp Every = refl
proto_is Tcp Tcp = refl
proto_is Tcp Udp = refl
proto_is Tcp Sctp = refl
proto_is Udp Every = refl
proto_is Udp Tcp = refl
proto_is Udp Udp = refl
proto_is Udp Sctp = refl
proto_is Sctp Every = refl
proto_is Sctp Tcp = refl
proto_is Sctp Udp = refl
proto_is Sctp Sctp = refl

pub cmp-key_cmp : (a b : MapKey) → key_ord.ghosts.cmp a b ≡ key_cmp a b
cmp-key_cmp a b = cc (direction_is a.dir b.dir, proto_is a.proto b.proto)
