-- Covering of keys as facts on their fields, and its laws.
use Rattle.std.proofs.Common.{◌≡◌, ℕ, ◌-◌, Bool, true, ◌&&◌, ◌==◌, refl, sym, ◌∙◌, ap, subst, inl, inr, ◌⊎◌, arith}
use Rattle.std.specs.Coded.{→_prop}
use native.Mathlib.Nat.{ℕ_set}
use Rattle.std.proofs.lemmas.Bool.{and_parts, and_from, eqb-true, eq-eqb}
use Rattle.std.proofs.lemmas.Nat.{pow_pos}
use Rattle.pol_ports.specs.declared.Direction.{Direction}
use Rattle.pol_ports.specs.declared.Proto.{Proto}
use Rattle.pol_ports.specs.declared.Proto.TheVariants.{Tcp as TcpPackets, Udp as UdpPackets, Sctp as SctpPackets}
use Rattle.pol_ports.specs.declared.PortPrefix.{PortPrefix}
use Rattle.pol_ports.specs.Direction.{same_direction}
use Rattle.pol_ports.specs.PortPrefix.{prefix_holds, prefix_contains}
use Rattle.pol_ports.proofs.Same.{same_direction-self, same_direction-is}
use Rattle.pol_ports.proofs.Containing.{nested, contains_itself, contains_both, contains_three, empty_contains, contains_ports, contains_from_ports, holds_from}
use Rattle.pol_mapkey.specs.declared.KeyProto.{KeyProto}
use Rattle.pol_mapkey.specs.declared.KeyProto.TheVariants.{Every, Tcp, Udp, Sctp}
use Rattle.pol_mapkey.specs.declared.MapKey.{MapKey}
use Rattle.pol_mapkey.specs.KeyProto.{key_proto, proto_covers}
use Rattle.pol_mapkey.specs.MapKey.{covers, covers_packet}

-- what a test of three or four parts gives and takes
four_parts : (a b c d : Bool) → (a && b && c && d) ≡ true → (a ≡ true) × (b ≡ true) × (c ≡ true) × (d ≡ true)
four_parts a b c d t =
    let abc = and_parts (a && b && c) d t in
    let ab = and_parts (a && b) c abc.0 in
    let one = and_parts a b ab.0 in
    (one.0, one.1, ab.1, abc.1)

four_from : (a b c d : Bool) → a ≡ true → b ≡ true → c ≡ true → d ≡ true → (a && b && c && d) ≡ true
four_from a b c d ta tb tc td = and_from (a && b && c) d (and_from (a && b) c (and_from a b ta tb) tc) td

three_parts : (a b c : Bool) → (a && b && c) ≡ true → (a ≡ true) × (b ≡ true) × (c ≡ true)
three_parts a b c t =
    let ab = and_parts (a && b) c t in
    let one = and_parts a b ab.0 in
    (one.0, one.1, ab.1)

three_from : (a b c : Bool) → a ≡ true → b ≡ true → c ≡ true → (a && b && c) ≡ true
three_from a b c ta tb tc = and_from (a && b) c (and_from a b ta tb) tc

-- the fields of a key that covers another
pub covers_is : (a b : MapKey) → covers a b ≡ true
    → (a.dir ≡ b.dir) × (a.id ≡ b.id) × (proto_covers a.proto b.proto ≡ true) × (prefix_contains a.port b.port ≡ true)
covers_is a b t =
    let p = four_parts (same_direction a.dir b.dir) (a.id == b.id) (proto_covers a.proto b.proto) (prefix_contains a.port b.port) t in
    (same_direction-is a.dir b.dir p.0, eqb-true a.id b.id p.1, p.2, p.3)

pub covers_from : (a b : MapKey) → a.dir ≡ b.dir → a.id ≡ b.id → proto_covers a.proto b.proto ≡ true → prefix_contains a.port b.port ≡ true
    → covers a b ≡ true
covers_from a b dirs ids protos ports =
    let dir : same_direction a.dir b.dir ≡ true = ap (λ d. same_direction a.dir d) (sym dirs) ∙ same_direction-self a.dir in
    four_from (same_direction a.dir b.dir) (a.id == b.id) (proto_covers a.proto b.proto) (prefix_contains a.port b.port) dir (eq-eqb a.id b.id ids) protos ports

pub packet_is : (a : MapKey) (dir : Direction) (proto : Proto) (port : ℕ) → covers_packet a dir proto port ≡ true
    → (a.dir ≡ dir) × (proto_covers a.proto (key_proto proto) ≡ true) × (prefix_holds a.port port ≡ true)
packet_is a dir proto port t =
    let p = three_parts (same_direction a.dir dir) (proto_covers a.proto (key_proto proto)) (prefix_holds a.port port) t in
    (same_direction-is a.dir dir p.0, p.1, p.2)

pub packet_from : (a : MapKey) (dir : Direction) (proto : Proto) (port : ℕ) → a.dir ≡ dir → proto_covers a.proto (key_proto proto) ≡ true
    → prefix_holds a.port port ≡ true → covers_packet a dir proto port ≡ true
packet_from a dir proto port dirs protos ports =
    let d : same_direction a.dir dir ≡ true = ap (λ d. same_direction a.dir d) (sym dirs) ∙ same_direction-self a.dir in
    three_from (same_direction a.dir dir) (proto_covers a.proto (key_proto proto)) (prefix_holds a.port port) d protos ports

-- protocols
pub proto_covers-self : (p : KeyProto) → proto_covers p p ≡ true
proto_covers-self Every = refl
proto_covers-self Tcp = refl
proto_covers-self Udp = refl
proto_covers-self Sctp = refl

pub proto_covers-both : (p q : KeyProto) → proto_covers p q ≡ true → proto_covers q p ≡ true → p ≡ q
proto_covers-both Every Every s t = refl
proto_covers-both Every Tcp s t = cc
proto_covers-both Every Udp s t = cc
proto_covers-both Every Sctp s t = cc
proto_covers-both Tcp Every s t = cc
proto_covers-both Tcp Tcp s t = refl
proto_covers-both Tcp Udp s t = cc
proto_covers-both Tcp Sctp s t = cc
proto_covers-both Udp Every s t = cc
proto_covers-both Udp Tcp s t = cc
proto_covers-both Udp Udp s t = refl
proto_covers-both Udp Sctp s t = cc
proto_covers-both Sctp Every s t = cc
proto_covers-both Sctp Tcp s t = cc
proto_covers-both Sctp Udp s t = cc
proto_covers-both Sctp Sctp s t = refl

-- a protocol that covers another covers it by being `Every` or the same
pub proto_covers-cases : (p q : KeyProto) → proto_covers p q ≡ true → (p ≡ Every) ⊎ (p ≡ q)
proto_covers-cases Every q t = inl refl
proto_covers-cases Tcp Every t = cc
proto_covers-cases Tcp Tcp t = inr refl
proto_covers-cases Tcp Udp t = cc
proto_covers-cases Tcp Sctp t = cc
proto_covers-cases Udp Every t = cc
proto_covers-cases Udp Tcp t = cc
proto_covers-cases Udp Udp t = inr refl
proto_covers-cases Udp Sctp t = cc
proto_covers-cases Sctp Every t = cc
proto_covers-cases Sctp Tcp t = cc
proto_covers-cases Sctp Udp t = cc
proto_covers-cases Sctp Sctp t = inr refl

pub proto_covers-three : (p q r : KeyProto) → proto_covers p q ≡ true → proto_covers q r ≡ true → proto_covers p r ≡ true
proto_covers-three p q r s t =
    elim (proto_covers-cases p q s) [
      | inl every ↦ (let P : KeyProto → Type 0 = λ k. proto_covers k r ≡ true in subst P (sym every) refl)
      | inr same ↦ (let P : KeyProto → Type 0 = λ k. proto_covers k r ≡ true in subst P (sym same) t)
    ]

-- keys are told apart by their fields
pub key_same : (a b : MapKey) → a.dir ≡ b.dir → a.id ≡ b.id → a.proto ≡ b.proto → a.port ≡ b.port → a ≡ b
key_same a b dirs ids protos ports =
    let Ghost : (a.proto ≡ Every → a.port.len ≡ 0) → Type 0 = λ g.
    a ≡ (record { dir = a.dir; id = a.id; proto = a.proto; port = a.port; every_port = g }) in
    let Port : PortPrefix → Type 0 = λ po. (g : a.proto ≡ Every → po.len ≡ 0)
    → a ≡ (record { dir = a.dir; id = a.id; proto = a.proto; port = po; every_port = g }) in
    let Proto : KeyProto → Type 0 = λ pr. (g : pr ≡ Every → b.port.len ≡ 0)
    → a ≡ (record { dir = a.dir; id = a.id; proto = pr; port = b.port; every_port = g }) in
    let Id : ℕ → Type 0 = λ i. a ≡ (record { dir = a.dir; id = i; proto = b.proto; port = b.port; every_port = b.every_port }) in
    let Dir : Direction → Type 0 = λ d. a ≡ (record { dir = d; id = b.id; proto = b.proto; port = b.port; every_port = b.every_port }) in
    let ghost' : Port a.port = λ g. subst Ghost (→_prop (ℕ_set a.port.len 0) a.every_port g) refl in
    subst Dir dirs (subst Id ids (subst Proto protos (subst Port ports ghost') b.every_port))

-- covering is a partial order
pub covers-self : (a : MapKey) → covers a a ≡ true
covers-self a = covers_from a a refl refl (proto_covers-self a.proto) (contains_itself a.port)

pub covers-both : (a b : MapKey) → covers a b ≡ true → covers b a ≡ true → a ≡ b
covers-both a b s t =
    let x = covers_is a b s in
    let y = covers_is b a t in
    key_same a b x.0 x.1 (proto_covers-both a.proto b.proto x.2 y.2) (contains_both a.port b.port x.3 y.3)

pub covers-three : (a b d : MapKey) → covers a b ≡ true → covers b d ≡ true → covers a d ≡ true
covers-three a b d s t =
    let x = covers_is a b s in
    let y = covers_is b d t in
    covers_from a d (x.0 ∙ y.0) (x.1 ∙ y.1) (proto_covers-three a.proto b.proto d.proto x.2 y.2) (contains_three a.port b.port d.port x.3 y.3)

-- of two keys of one identity that cover a packet one covers the other
pub chain : (a b : MapKey) (dir : Direction) (proto : Proto) (port : ℕ) → a.id ≡ b.id → covers_packet a dir proto port ≡ true
    → covers_packet b dir proto port ≡ true → (covers a b ≡ true) ⊎ (covers b a ≡ true)
chain a b dir proto port ids s t =
    let x = packet_is a dir proto port s in
    let y = packet_is b dir proto port t in
    let dirs : a.dir ≡ b.dir = x.0 ∙ sym y.0 in
    elim (proto_covers-cases a.proto (key_proto proto) x.1) [
      | inl every ↦
          (let P : KeyProto → Type 0 = λ k. proto_covers k b.proto ≡ true in
          inl (covers_from a b dirs ids (subst P (sym every) refl) (empty_contains a.port b.port port (a.every_port every) x.2 y.2)))
      | inr own ↦ elim (proto_covers-cases b.proto (key_proto proto) y.1) [
        | inl every ↦
            (let P : KeyProto → Type 0 = λ k. proto_covers k a.proto ≡ true in
            inr (covers_from b a (sym dirs) (sym ids) (subst P (sym every) refl) (empty_contains b.port a.port port (b.every_port every) y.2 x.2)))
        | inr other ↦
            (let same : a.proto ≡ b.proto = own ∙ sym other in
            let P : KeyProto → Type 0 = λ k. proto_covers a.proto k ≡ true in
            let Q : KeyProto → Type 0 = λ k. proto_covers b.proto k ≡ true in
            elim (nested a.port b.port port x.2 y.2) [
              | inl c ↦ inl (covers_from a b dirs ids (subst P same (proto_covers-self a.proto)) c)
              | inr c ↦ inr (covers_from b a (sym dirs) (sym ids) (subst Q (sym same) (proto_covers-self b.proto)) c)
            ])
      ]
    ]

-- a key covers the packets that a key under it covers
pub covers-packet : (a b : MapKey) → covers a b ≡ true → (dir : Direction) (proto : Proto) (port : ℕ) → covers_packet b dir proto port ≡ true
    → covers_packet a dir proto port ≡ true
covers-packet a b s dir proto port t =
    let x = covers_is a b s in
    let y = packet_is b dir proto port t in
    packet_from a dir proto port (x.0 ∙ y.0) (proto_covers-three a.proto b.proto (key_proto proto) x.2 y.1)
    (contains_ports a.port b.port x.3 port y.2)

-- some protocol of packets that keys of a protocol are for
some_packet : (k : KeyProto) → (q : Proto) × (proto_covers k (key_proto q) ≡ true)
some_packet Every = (TcpPackets, refl)
some_packet Tcp = (TcpPackets, refl)
some_packet Udp = (UdpPackets, refl)
some_packet Sctp = (SctpPackets, refl)

-- a protocol whose keys are for all packets of another's keys covers that
from_protos : (p k : KeyProto) → ((q : Proto) → proto_covers k (key_proto q) ≡ true → proto_covers p (key_proto q) ≡ true)
    → proto_covers p k ≡ true
from_protos Every k all = refl
from_protos Tcp Every all = all UdpPackets refl
from_protos Udp Every all = all TcpPackets refl
from_protos Sctp Every all = all TcpPackets refl
from_protos Tcp Tcp all = refl
from_protos Tcp Udp all = all UdpPackets refl
from_protos Tcp Sctp all = all SctpPackets refl
from_protos Udp Tcp all = all TcpPackets refl
from_protos Udp Udp all = refl
from_protos Udp Sctp all = all SctpPackets refl
from_protos Sctp Tcp all = all TcpPackets refl
from_protos Sctp Udp all = all UdpPackets refl
from_protos Sctp Sctp all = refl

-- a key that covers all packets of another of its identity covers that key
pub covers-from_packets : (a b : MapKey) → a.id ≡ b.id
    → ((dir : Direction) (proto : Proto) (port : ℕ) → covers_packet b dir proto port ≡ true → covers_packet a dir proto port ≡ true)
    → covers a b ≡ true
covers-from_packets a b ids all =
    let pos = pow_pos (16 - b.port.len) in
    let first : prefix_holds b.port b.port.bits ≡ true = holds_from b.port b.port.bits (omega arith) (omega arith) in
    let some = some_packet b.proto in
    let at : (proto : Proto) (port : ℕ) → proto_covers b.proto (key_proto proto) ≡ true → prefix_holds b.port port ≡ true → covers_packet a b.dir proto port ≡ true =
    λ proto port s t. all b.dir proto port (packet_from b b.dir proto port refl s t) in
    covers_from a b (packet_is a b.dir some.0 b.port.bits (at some.0 b.port.bits some.1 first)).0 ids
    (from_protos a.proto b.proto (λ proto s. (packet_is a b.dir proto b.port.bits (at proto b.port.bits s first)).1))
    (contains_from_ports a.port b.port (λ port t. (packet_is a b.dir some.0 port (at some.0 port some.1 t)).2))
