-- Keys in their order: what a key covers stands behind it, and so does each key between the two.
use Rattle.std.proofs.Common.{◌≡◌, ℕ, ◌+◌, ◌-◌, ◌%◌, ◌<◌, ◌≤◌, ◌^◌, true, not, ◌⊎◌, inl, inr, refl, sym, ◌∙◌, ap, subst, arith}
use Rattle.std.proofs.lemmas.Bool.{and_from, and_parts, cases_lt, false_from_ne_true, not_from_false}
use Rattle.std.proofs.lemmas.Cmp.{by_ranked, ranked, tied_itself}
use Rattle.std.proofs.lemmas.Nat.{pow_below, pow_pos}
use Rattle.std.specs.Ordering.{nat_cmp, ordering_then}
use Rattle.std.specs.declared.cmp.Ordering.{Ordering}
use Rattle.std.specs.declared.cmp.Ordering.TheVariants.{Less, Equal, Greater}
use Rattle.pol_ports.specs.Direction.{direction_cmp}
use Rattle.pol_ports.specs.PortPrefix.{prefix_contains}
use Rattle.pol_ports.specs.declared.Direction.{Direction}
use Rattle.pol_ports.specs.declared.Direction.TheVariants.{Ingress, Egress}
use Rattle.pol_ports.specs.declared.PortPrefix.{PortPrefix}
use Rattle.pol_ports.proofs.Blocks.{multiples_apart}
use Rattle.pol_ports.proofs.Containing.{contains_is, empty_contains, holds_from, nested}
use Rattle.pol_mapkey.specs.KeyProto.{proto_covers, proto_place}
use Rattle.pol_mapkey.specs.MapKey.{covers, strictly_covers, key_cmp, same_key}
use Rattle.pol_mapkey.specs.declared.KeyProto.{KeyProto}
use Rattle.pol_mapkey.specs.declared.KeyProto.TheVariants.{Every, Tcp, Udp, Sctp}
use Rattle.pol_mapkey.specs.declared.MapKey.{MapKey}
use Rattle.pol_mapkey.proofs.Equality.{same_key-is}
use Rattle.pol_mapkey.proofs.Keys.{covers_is, covers_from, covers-three, proto_covers-cases}
use Rattle.pol_mapkey.proofs.KeyOrder.{key_cmp_total}

-- numbers for directions, and that numbers tell directions and protocols apart
pub dir_place : Direction → ℕ
dir_place Ingress = 0
dir_place Egress = 1

dir_place-is : (a b : Direction) → dir_place a ≡ dir_place b → a ≡ b
unfolding dir_place
dir_place-is Ingress Ingress e = refl
dir_place-is Ingress Egress e = cc
dir_place-is Egress Ingress e = cc
dir_place-is Egress Egress e = refl

dir_place-cmp : (a b : Direction) → direction_cmp a b ≡ nat_cmp (dir_place a) (dir_place b)
unfolding dir_place
dir_place-cmp Ingress Ingress = refl
dir_place-cmp Ingress Egress = refl
dir_place-cmp Egress Ingress = refl
dir_place-cmp Egress Egress = refl

proto_place-is : (a b : KeyProto) → proto_place a ≡ proto_place b → a ≡ b
proto_place-is Every Every e = refl
proto_place-is Every Tcp e = cc
proto_place-is Every Udp e = cc
proto_place-is Every Sctp e = cc
proto_place-is Tcp Every e = cc
proto_place-is Tcp Tcp e = refl
proto_place-is Tcp Udp e = cc
proto_place-is Tcp Sctp e = cc
proto_place-is Udp Every e = cc
proto_place-is Udp Tcp e = cc
proto_place-is Udp Udp e = refl
proto_place-is Udp Sctp e = cc
proto_place-is Sctp Every e = cc
proto_place-is Sctp Tcp e = cc
proto_place-is Sctp Udp e = cc
proto_place-is Sctp Sctp e = refl

-- the first number is less, or both are equal and the rest follows
abbrev First : ℕ → ℕ → Type 0 → Type 0
First x y Rest = (x < y) ⊎ ((x ≡ y) × Rest)

first : (x y : ℕ) (o : Ordering) (Rest : Type 0) → (o ≡ Less → Rest) → ordering_then (nat_cmp x y) o ≡ Less → First x y Rest
first x y o Rest rest e =
    by_ranked (x < y) (x ≡ y) (y < x) (nat_cmp x y) (ranked x y (nat_cmp x y) refl)
    (λ _ less. inl less)
    (λ equal same. inr (same, rest (sym (ap (λ r. ordering_then r o) equal) ∙ e)))
    (λ more _. absurd (let wrong : Greater ≡ Less = sym (ap (λ r. ordering_then r o) more) ∙ e in cc))

last : (x y : ℕ) → nat_cmp x y ≡ Less → x < y
last x y e =
    by_ranked (x < y) (x ≡ y) (y < x) (nat_cmp x y) (ranked x y (nat_cmp x y) refl)
    (λ _ less. less)
    (λ equal _. absurd (let wrong : Equal ≡ Less = sym equal ∙ e in cc))
    (λ more _. absurd (let wrong : Greater ≡ Less = sym more ∙ e in cc))

-- a key stands before another
abbrev PortBefore : PortPrefix → PortPrefix → Type 0
PortBefore a b = First a.bits b.bits (a.len < b.len)

abbrev pub Before : MapKey → MapKey → Type 0
Before a b = First (dir_place a.dir) (dir_place b.dir) (First a.id b.id (First (proto_place a.proto) (proto_place b.proto) (PortBefore a.port b.port)))

before : (a b : MapKey) → key_cmp a b ≡ Less → Before a b
before a b e =
    let rest = ordering_then (nat_cmp a.id b.id) (ordering_then (nat_cmp (proto_place a.proto) (proto_place b.proto))
    (ordering_then (nat_cmp a.port.bits b.port.bits) (nat_cmp a.port.len b.port.len))) in
    first (dir_place a.dir) (dir_place b.dir) _ _
    (first a.id b.id _ _ (first (proto_place a.proto) (proto_place b.proto) _ _ (first a.port.bits b.port.bits _ _ (last a.port.len b.port.len))))
    (sym (ap (λ o. ordering_then o rest) (dir_place-cmp a.dir b.dir)) ∙ e)

-- between two equal numbers there is no other
between_same : {P Q : Type 0} (u v w : ℕ) → u ≡ w → First u v P → First v w Q → (u ≡ v) × P × Q
between_same u v w same (inl a) (inl b) = absurd (omega (arith, same, a, b))
between_same u v w same (inl a) (inr b) = absurd (omega (arith, same, a, b.0))
between_same u v w same (inr a) (inl b) = absurd (omega (arith, same, a.0, b))
between_same u v w same (inr a) (inr b) = (a.0, a.1, b.1)

past : {P : Type 0} (u v : ℕ) → u ≡ v → First u v P → P
past u v same (inl less) = absurd (omega (arith, same, less))
past u v same (inr rest) = rest.1

-- a prefix between two, of which the first contains the second, lies in the first too
port_between : (o x e : PortPrefix) → prefix_contains o e ≡ true → PortBefore o x → PortBefore x e → prefix_contains o x ≡ true
port_between o x e over a b =
    let c = contains_is o e over in
    let low : o.bits ≤ x.bits = low_of o x a in
    let high : x.bits ≤ e.bits = low_of x e b in
    let x_pos = pow_pos (16 - x.len) in
    let e_pos = pow_pos (16 - e.len) in
    elim (nested o x x.bits (holds_from o x.bits low (omega arith)) (holds_from x x.bits (omega arith) (omega arith))) [
      | inl inside ↦ inside
      | inr around ↦ absurd (let d = contains_is x o around in wider a d.0 d.1)
    ]
  where
    low_of : (p q : PortPrefix) → PortBefore p q → p.bits ≤ q.bits
    low_of p q (inl less) = omega (arith, less)
    low_of p q (inr same) = omega (arith, same.0)

    wider : PortBefore o x → x.bits ≤ o.bits → o.bits + 2 ^ (16 - o.len) ≤ x.bits + 2 ^ (16 - x.len) → ⊥
    wider (inl less) low end = omega (arith, less, low)
    wider (inr same) low end =
        let short = x.short in
        omega (arith, same.0, end, pow_below (16 - x.len) (16 - o.len) (omega (arith, same.1, short)))

-- so does a key
pub key_between : (o x e : MapKey) → covers o e ≡ true → x.port.bits < 2 ^ 16 → e.port.bits < 2 ^ 16
    → key_cmp o x ≡ Less → key_cmp x e ≡ Less → covers o x ≡ true
key_between o x e over small small_e one two =
    let c = covers_is o e over in
    let dirs = between_same (dir_place o.dir) (dir_place x.dir) (dir_place e.dir) (ap dir_place c.0) (before o x one) (before x e two) in
    let ids = between_same o.id x.id e.id c.1 dirs.1 dirs.2 in
    let dir = dir_place-is o.dir x.dir dirs.0 in
    elim (proto_covers-cases o.proto e.proto c.2) [
      | inl every ↦
          (let P : KeyProto → Type 0 = λ k. proto_covers k x.proto ≡ true in
          covers_from o x dir ids.0 (subst P (sym every) refl) (all_ports every c.3))
      | inr same ↦
          (let protos = between_same (proto_place o.proto) (proto_place x.proto) (proto_place e.proto) (ap proto_place same) ids.1 ids.2 in
          let proto = proto_place-is o.proto x.proto protos.0 in
          let P : KeyProto → Type 0 = λ k. proto_covers o.proto k ≡ true in
          covers_from o x dir ids.0 (subst P (sym same ∙ proto) c.2) (port_between o.port x.port e.port c.3 protos.1 protos.2))
    ]
  where
    all_ports : o.proto ≡ Every → prefix_contains o.port e.port ≡ true → prefix_contains o.port x.port ≡ true
    all_ports every over =
        let d = contains_is o.port e.port over in
        let none = o.every_port every in
        let size : 2 ^ (16 - o.port.len) ≡ 65536 = ap (λ n. 2 ^ (16 - n)) none in
        let clear : o.port.bits % 65536 ≡ 0 = subst (λ m. o.port.bits % m ≡ 0) size o.port.clear in
        let zero : o.port.bits ≡ 0 = elim (cases_lt 0 o.port.bits) [
          | inl more ↦ absurd (omega (arith, multiples_apart 65536 0 o.port.bits refl clear more, d.0, small_e))
          | inr none' ↦ omega (arith, none')
        ] in
        let pos = pow_pos (16 - x.port.len) in
        empty_contains o.port x.port x.port.bits none (holds_from o.port x.port.bits (omega (arith, zero)) (omega (arith, zero, size, small)))
        (holds_from x.port x.port.bits (omega arith) (omega (arith, pos)))

-- what stands behind a key doesn't cover it
pub no_later_covers : (x y : MapKey) → key_cmp x y ≡ Less → covers y x ≡ true → ⊥
no_later_covers x y one over =
    let c = covers_is y x over in
    let ids = past (dir_place x.dir) (dir_place y.dir) (ap dir_place (sym c.0)) (before x y one) in
    let protos = past x.id y.id (sym c.1) ids in
    let d = contains_is y.port x.port c.3 in
    elim (proto_covers-cases y.proto x.proto c.2) [
      | inl every ↦ every_first every d.0 protos
      | inr same ↦ later d.0 d.1 (past (proto_place x.proto) (proto_place y.proto) (ap proto_place (sym same)) protos)
    ]
  where
    every_first : y.proto ≡ Every → y.port.bits ≤ x.port.bits → First (proto_place x.proto) (proto_place y.proto) (PortBefore x.port y.port) → ⊥
    every_first every low (inl less) = let none : proto_place y.proto ≡ 0 = ap proto_place every in omega (arith, less, none)
    every_first every low (inr (same, inl less)) = omega (arith, low, less)
    every_first every low (inr (same, inr (bits, less))) = let none = y.every_port every in omega (arith, less, none)

    later : y.port.bits ≤ x.port.bits → x.port.bits + 2 ^ (16 - x.port.len) ≤ y.port.bits + 2 ^ (16 - y.port.len) → PortBefore x.port y.port → ⊥
    later low end (inl less) = omega (arith, low, less)
    later low end (inr (same, less)) =
        let short = y.port.short in
        omega (arith, same, end, pow_below (16 - y.port.len) (16 - x.port.len) (omega (arith, less, short)))

-- of two keys in order the first covers the second strictly where it covers it
pub strict_in_order : (a b : MapKey) → key_cmp a b ≡ Less → covers a b ≡ true → strictly_covers a b ≡ true
strict_in_order a b less over =
    and_from (covers a b) (not (same_key a b)) over (not_from_false (same_key a b) (false_from_ne_true (same_key a b) (λ t.
    let same = same_key-is a b t in
    let wrong : Less ≡ Equal = sym less ∙ ap (key_cmp a) (sym same) ∙ tied_itself key_cmp_total a in cc)))

pub strict_covers : (a b : MapKey) → strictly_covers a b ≡ true → covers a b ≡ true
strict_covers a b t = (and_parts (covers a b) (not (same_key a b)) t).0

-- a strict cover, or none, carries on along the order
pub strict_through : (o x e : MapKey) → key_cmp o x ≡ Less → key_cmp x e ≡ Less → strictly_covers o x ≡ true → strictly_covers x e ≡ true → strictly_covers o e ≡ true
strict_through o x e one two s t =
    strict_in_order o e (key_cmp_total.trans o x e one two) (covers-three o x e (strict_covers o x s) (strict_covers x e t))
