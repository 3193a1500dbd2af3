-- A policy map as a value: the finite map from keys to kinds.
use Rattle.std.specs.Prelude.{◌≡◌, Bool, true, false, if◌then◌else◌, refl}
use Rattle.std.specs.Coded.{Coded, code_by, coded×, coded_ℕ, coded_bool}
use Rattle.std.specs.FinMap.{FinMap, code}
use Rattle.std.proofs.Common.{ap}
use base.Stored.{coded_via}
use Rattle.pol_ports.specs.declared.Direction.{Direction}
use Rattle.pol_ports.specs.declared.Direction.TheVariants.{Ingress, Egress}
use Rattle.pol_mapkey.specs.declared.KeyProto.{KeyProto}
use Rattle.pol_mapkey.specs.declared.KeyProto.TheVariants.{Every, Tcp, Udp, Sctp}
use Rattle.pol_mapkey.specs.declared.Kind.{Kind}
use Rattle.pol_mapkey.specs.declared.MapKey.{MapKey}
use Rattle.pol_mapkey.specs.MapKey.{key_cmp}
use Rattle.pol_mapkey.proofs.Keys.{key_same}
use Rattle.pol_trie.specs.PortMap.{port_code, kind_code}

-- from keys to kinds; its entries are in key order, each key once
abbrev pub PolicyMap : Type 0
PolicyMap = FinMap key_cmp Kind

abbrev pub is_egress : Direction → Bool
is_egress Ingress = false
is_egress Egress = true

abbrev pub direction_of : Bool → Direction
direction_of true = Egress
direction_of false = Ingress

pub direction_of-is_egress : (dir : Direction) → direction_of (is_egress dir) ≡ dir
direction_of-is_egress Ingress = refl
direction_of-is_egress Egress = refl

abbrev pub direction_code : Coded Direction
direction_code = code_by Bool coded_bool is_egress direction_of direction_of-is_egress

abbrev pub proto_bits : KeyProto → Bool × Bool
proto_bits Every = (false, false)
proto_bits Tcp = (false, true)
proto_bits Udp = (true, false)
proto_bits Sctp = (true, true)

abbrev pub proto_of : Bool × Bool → KeyProto
proto_of bits = if bits.0 then (if bits.1 then Sctp else Udp) else (if bits.1 then Tcp else Every)

pub proto_of-proto_bits : (proto : KeyProto) → proto_of (proto_bits proto) ≡ proto
proto_of-proto_bits Every = refl
proto_of-proto_bits Tcp = refl
proto_of-proto_bits Udp = refl
proto_of-proto_bits Sctp = refl

abbrev pub proto_code : Coded KeyProto
proto_code = code_by (Bool × Bool) (coded× coded_bool coded_bool) proto_bits proto_of proto_of-proto_bits

-- a key is stored as the tuple of its fields
abbrev pub key_code : Coded MapKey
key_code =
    coded_via (coded× direction_code (coded× coded_ℕ (coded× proto_code port_code))) (λ (k : MapKey). (k.dir, (k.id, (k.proto, k.port))))
    (λ a b same. key_same a b (ap (λ x. x.0) same) (ap (λ x. x.1.0) same) (ap (λ x. x.1.1.0) same) (ap (λ x. x.1.1.1) same))

-- a map is stored as the list of its entries
abbrev pub policy_map_code : Coded PolicyMap
policy_map_code = code key_code kind_code
