-- Two keys have one number exactly where they are one key, and what a key covers has numbers next to its own.
use Rattle.std.proofs.Common.{◌≡◌, ℕ, ◌+◌, ◌-◌, ◌*◌, ◌/◌, ◌%◌, ◌^◌, ◌<◌, ◌≤◌, true, nat_lt, ◌==◌, min, refl, sym, ◌∙◌, ap, subst, inl, inr, arith}
use Rattle.std.proofs.lemmas.Bool.{and_from, and_parts, both_ways, cases_Bool, eq-eqb, eqb-true, false_from_ne_true, ltb-true}
use Rattle.pol_ports.specs.PortPrefix.{prefix_at}
use Rattle.pol_ports.specs.declared.Direction.{Direction}
use Rattle.pol_ports.specs.declared.Direction.TheVariants.{Ingress, Egress}
use Rattle.pol_ports.specs.declared.PortPrefix.{PortPrefix}
use Rattle.pol_ports.proofs.Blocks.{multiple_is}
use Rattle.pol_mapkey.specs.KeyProto.{proto_place}
use Rattle.pol_mapkey.specs.declared.KeyProto.{KeyProto}
use Rattle.pol_mapkey.specs.declared.KeyProto.TheVariants.{Every, Tcp, Udp, Sctp}
use Rattle.pol_mapkey.specs.declared.MapKey.{MapKey}
use Rattle.pol_mapkey.specs.Entries.{Entry}
use Rattle.pol_mapkey.specs.MapKey.{same_key}
use Rattle.pol_mapkey.specs.declared.Kind.{Kind}
use Rattle.pol_mapkey.specs.declared.Kind.TheVariants.{Allow, Deny}
use Rattle.pol_mapkey.proofs.Equality.{same_key-is, same_key-self}
use Rattle.pol_mapkey.proofs.Keys.{key_same}
use Rattle.pol_entry_tally.specs.Times.{is_entry, same_kind}
use Rattle.pol_entry_tally.specs.Numbers.{dir_at, dir_place, code_of, fits, group_of, key_at, key_of, kind_place, local_of, number_of, port_at, proto_at}
use Rattle.pol_distill.proofs.Lookups.{prefix_made}
use Rattle.pol_distill.proofs.RawLists.{every_key_is}

pub fits_is : (q : MapKey) → fits q ≡ true → (q.id < 2 ^ 32) × (q.port.bits < 2 ^ 16)
fits_is q t =
    let both = and_parts (nat_lt q.id (2 ^ 32)) (nat_lt q.port.bits (2 ^ 16)) t in
    (ltb-true q.id (2 ^ 32) both.0, ltb-true q.port.bits (2 ^ 16) both.1)

-- ---- the digits of a number
abbrev digits : ℕ → ℕ → ℕ → ℕ → ℕ → ℕ
digits d i p b l = d * 2 ^ 55 + i * 2 ^ 23 + p * 2 ^ 21 + b * 2 ^ 5 + l

module _ (d i p b l : ℕ) (small_i : i < 2 ^ 32) (small_p : p ≤ 3) (small_b : b < 2 ^ 16) (small_l : l ≤ 16) where
  pub len_digit : digits d i p b l % 2 ^ 5 ≡ l
  len_digit = omega (arith, small_l)

  pub bits_digit : digits d i p b l / 2 ^ 5 % 2 ^ 16 ≡ b
  bits_digit = omega (arith, small_l, small_b)

  pub proto_digit : digits d i p b l / 2 ^ 21 % 2 ^ 2 ≡ p
  proto_digit = omega (arith, small_l, small_b, small_p)

  pub id_digit : digits d i p b l / 2 ^ 23 % 2 ^ 32 ≡ i
  id_digit = omega (arith, small_l, small_b, small_p, small_i)

  pub dir_digit : digits d i p b l / 2 ^ 55 ≡ d
  dir_digit = omega (arith, small_l, small_b, small_p, small_i)

-- ---- the key of a number
pub proto_small : (p : KeyProto) → proto_place p ≤ 3
proto_small Every = omega arith
proto_small Tcp = omega arith
proto_small Udp = omega arith
proto_small Sctp = omega arith

dir_there : (d : Direction) → dir_at (dir_place d) ≡ d
dir_there Ingress = refl
dir_there Egress = refl

zero_clear : (b : ℕ) → b % 65536 ≡ 0 → b < 65536 → b ≡ 0
zero_clear b whole small = omega (arith, whole, small)

zero_bits : (p : PortPrefix) → p.bits < 2 ^ 16 → p.len ≡ 0 → p.bits ≡ 0
zero_bits p small none = zero_clear p.bits (subst (λ n. p.bits % 2 ^ (16 - n) ≡ 0) none p.clear) small

port_there : (p : PortPrefix) → port_at p.bits p.len ≡ p
port_there p =
    let len : min p.len 16 ≡ p.len = omega (arith, p.short) in
    ap (prefix_at p.bits) len
    ∙ sym (prefix_made p.bits p.len p p.short (sym (multiple_is p.bits (2 ^ (16 - p.len)) p.clear)) refl)

-- a key's fields make it again
key_there : (q : MapKey) → q.port.bits < 2 ^ 16 → key_at q.dir q.id (proto_at (proto_place q.proto)) q.port ≡ q
key_there q small = by q.proto refl
  where
    by : (p : KeyProto) → q.proto ≡ p → key_at q.dir q.id (proto_at (proto_place p)) q.port ≡ q
    by Every is = let len = q.every_port is in sym (every_key_is q.dir q.id q refl refl is (zero_bits q.port small len) len)
    by Tcp is = sym (key_same q (key_at q.dir q.id (proto_at 1) q.port) refl refl is refl)
    by Udp is = sym (key_same q (key_at q.dir q.id (proto_at 2) q.port) refl refl is refl)
    by Sctp is = sym (key_same q (key_at q.dir q.id (proto_at 3) q.port) refl refl is refl)

pub key_again : (q : MapKey) → fits q ≡ true → key_of (number_of q) ≡ q
key_again q fit =
    let small = fits_is q fit in
    let d = dir_place q.dir in
    let p = proto_place q.proto in
    let few = proto_small q.proto in
    (λ i. key_at (dir_at (dir_digit d q.id p q.port.bits q.port.len small.0 few small.1 q.port.short i))
    (id_digit d q.id p q.port.bits q.port.len small.0 few small.1 q.port.short i)
    (proto_at (proto_digit d q.id p q.port.bits q.port.len small.0 few small.1 q.port.short i))
    (port_at (bits_digit d q.id p q.port.bits q.port.len small.0 few small.1 q.port.short i) (len_digit d q.id p q.port.bits q.port.len small.0 few small.1 q.port.short i)))
    ∙ (λ i. key_at (dir_there q.dir i) q.id (proto_at p) (port_there q.port i))
    ∙ key_there q small.1

-- a number has one key
pub one_key : (a b : MapKey) → fits a ≡ true → fits b ≡ true → number_of a ≡ number_of b → a ≡ b
one_key a b fits_a fits_b is = sym (key_again a fits_a) ∙ ap key_of is ∙ key_again b fits_b

-- ---- a key's group and what stands below it
abbrev joined : ℕ → ℕ → ℕ → ℕ
joined d i l = (d * 2 ^ 32 + i) * 2 ^ 23 + l

number_joined : (d i p b l : ℕ) → digits d i p b l ≡ joined d i (p * 2 ^ 21 + b * 2 ^ 5 + l)
number_joined d i p b l = omega arith

pub number_is : (q : MapKey) → number_of q ≡ group_of q * 2 ^ 23 + local_of q
number_is q = number_joined (dir_place q.dir) q.id (proto_place q.proto) q.port.bits q.port.len

low_small : (p b l : ℕ) → p ≤ 3 → b < 2 ^ 16 → l ≤ 16 → p * 2 ^ 21 + b * 2 ^ 5 + l < 2 ^ 23
low_small p b l few small short = omega (arith, few, small, short)

pub local_small : (q : MapKey) → fits q ≡ true → local_of q < 2 ^ 23
local_small q fit = low_small (proto_place q.proto) q.port.bits q.port.len (proto_small q.proto) (fits_is q fit).1 q.port.short

pub kind_small : (k : Kind) → kind_place k ≤ 1
kind_small Allow = omega arith
kind_small Deny = omega arith

parts_of : (g h k l m n : ℕ) → k ≤ 1 → l ≤ 1 → m < 2 ^ 23 → n < 2 ^ 23 → g * 2 ^ 24 + (k * 2 ^ 23 + m) ≡ h * 2 ^ 24 + (l * 2 ^ 23 + n) → (g ≡ h) × (k ≡ l) × (m ≡ n)
parts_of g h k l m n few few' small small' same = (omega (arith, few, few', small, small', same), omega (arith, few, few', small, small', same), omega (arith, few, few', small, small', same))

same_place : (k l : Kind) → kind_place k ≡ kind_place l → k ≡ l
same_place Allow Allow e = refl
same_place Allow Deny e = absurd (omega (arith, e))
same_place Deny Allow e = absurd (omega (arith, e))
same_place Deny Deny e = refl

-- keys of one group that stand at one place are one
pub one_in_group : (a b : MapKey) → fits a ≡ true → fits b ≡ true → group_of a ≡ group_of b → local_of a ≡ local_of b → a ≡ b
one_in_group a b fits_a fits_b groups locals =
    one_key a b fits_a fits_b (number_is a ∙ (λ i. groups i * 2 ^ 23 + locals i) ∙ sym (number_is b))

pub one_code : (a b : MapKey) (k l : Kind) → fits a ≡ true → fits b ≡ true → code_of a k ≡ code_of b l → (a ≡ b) × (k ≡ l)
one_code a b k l fits_a fits_b same =
    let parts = parts_of (group_of a) (group_of b) (kind_place k) (kind_place l) (local_of a) (local_of b) (kind_small k) (kind_small l) (local_small a fits_a) (local_small b fits_b) same in
    (one_in_group a b fits_a fits_b parts.0 parts.2, same_place k l parts.1)

kind_self : (k : Kind) → same_kind k k ≡ true
kind_self Allow = refl
kind_self Deny = refl

kind_is : (k l : Kind) → same_kind k l ≡ true → k ≡ l
kind_is Allow Allow e = refl
kind_is Allow Deny e = cc
kind_is Deny Allow e = cc
kind_is Deny Deny e = refl

pub code_same : (e : Entry) (q : MapKey) (k : Kind) → fits e.0 ≡ true → fits q ≡ true → (code_of e.0 e.1 == code_of q k) ≡ is_entry q k e
code_same e q k fits_e fits_q =
    elim (cases_Bool (code_of e.0 e.1 == code_of q k)) [
      | inl t ↦
          (let one = one_code e.0 q e.1 k fits_e fits_q (eqb-true (code_of e.0 e.1) (code_of q k) t) in
          t ∙ sym (and_from (same_kind e.1 k) (same_key e.0 q) (ap (λ l. same_kind l k) one.1 ∙ kind_self k) (ap (λ a. same_key a q) one.0 ∙ same_key-self q)))
      | inr f ↦
          f ∙ sym (false_from_ne_true (is_entry q k e) (λ t.
          let both = and_parts (same_kind e.1 k) (same_key e.0 q) t in
          both_ways (code_of e.0 e.1 == code_of q k) f (eq-eqb (code_of e.0 e.1) (code_of q k) (λ i. code_of (same_key-is e.0 q both.1 i) (kind_is e.1 k both.0 i)))))
    ]
