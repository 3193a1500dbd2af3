-- The orders of port prefixes and of keys are total, and tell them apart.
use Rattle.std.proofs.Common.{◌≡◌, ℕ, true, ◌==◌, ◌&&◌, ◌<◌, refl, subst}
use Rattle.std.proofs.lemmas.Bool.{and_from, eq-eqb}
use Rattle.std.proofs.lemmas.Cmp.{nat_cmp_total, on_total, then_total, ranked, by_ranked}
use Rattle.std.specs.Cmp.{IsTotalOrder}
use Rattle.std.specs.FinMap.{IsAntisymmetric}
use Rattle.std.specs.Ordering.{nat_cmp, ordering_then}
use Rattle.std.specs.declared.cmp.Ordering.{Ordering}
use Rattle.std.specs.declared.cmp.Ordering.TheVariants.{Less, Equal, Greater}
use Rattle.pol_ports.specs.Direction.{direction_cmp, same_direction}
use Rattle.pol_ports.specs.PortPrefix.{same_prefix, prefix_cmp}
use Rattle.pol_ports.specs.declared.Direction.{Direction}
use Rattle.pol_ports.specs.declared.Direction.TheVariants.{Ingress, Egress}
use Rattle.pol_ports.specs.declared.PortPrefix.{PortPrefix}
use Rattle.pol_ports.proofs.Same.{same_prefix-is}
use Rattle.pol_mapkey.specs.KeyProto.{key_proto_cmp, same_key_proto, proto_place}
use Rattle.pol_mapkey.specs.MapKey.{key_cmp}
use Rattle.pol_mapkey.specs.declared.MapKey.{MapKey}
use Rattle.pol_mapkey.proofs.Equality.{same_key-is}

abbrev direction_number : Direction → ℕ
direction_number Ingress = 0
direction_number Egress = 1

direction_cmp-numbers : (a b : Direction) → nat_cmp (direction_number a) (direction_number b) ≡ direction_cmp a b
direction_cmp-numbers Ingress Ingress = refl
direction_cmp-numbers Ingress Egress = refl
direction_cmp-numbers Egress Ingress = refl
direction_cmp-numbers Egress Egress = refl

direction_cmp_total : IsTotalOrder direction_cmp
direction_cmp_total =
    subst IsTotalOrder (λ i a b. direction_cmp-numbers a b i) (on_total direction_number nat_cmp_total)

pub prefix_cmp_total : IsTotalOrder prefix_cmp
prefix_cmp_total = then_total (on_total (λ (p : PortPrefix). p.bits) nat_cmp_total) (on_total (λ (p : PortPrefix). p.len) nat_cmp_total)

pub key_cmp_total : IsTotalOrder key_cmp
key_cmp_total =
    then_total (on_total (λ (k : MapKey). k.dir) direction_cmp_total)
    (then_total (on_total (λ (k : MapKey). k.id) nat_cmp_total)
    (then_total (on_total (λ (k : MapKey). proto_place k.proto) nat_cmp_total) (on_total (λ (k : MapKey). k.port) prefix_cmp_total)))

then_equal : (o p : Ordering) → ordering_then o p ≡ Equal → (o ≡ Equal) × (p ≡ Equal)
then_equal Less p e = cc
then_equal Equal p e = (refl, e)
then_equal Greater p e = cc

nat_equal : (x y : ℕ) → nat_cmp x y ≡ Equal → (x == y) ≡ true
nat_equal x y e =
    by_ranked (x < y) (x ≡ y) (y < x) (nat_cmp x y) (ranked x y (nat_cmp x y) refl) (λ less _. cc) (λ _ same. eq-eqb x y same) (λ more _. cc)

direction_equal : (a b : Direction) → direction_cmp a b ≡ Equal → same_direction a b ≡ true
direction_equal Ingress Ingress e = refl
direction_equal Ingress Egress e = cc
direction_equal Egress Ingress e = cc
direction_equal Egress Egress e = refl

pub prefix_cmp-same : IsAntisymmetric prefix_cmp
prefix_cmp-same p q e =
    let both = then_equal (nat_cmp p.bits q.bits) _ e in
    same_prefix-is p q (and_from (p.bits == q.bits) (p.len == q.len) (nat_equal _ _ both.0) (nat_equal _ _ both.1))

pub key_cmp-same : IsAntisymmetric key_cmp
key_cmp-same a b e =
    let one = then_equal (direction_cmp a.dir b.dir) _ e in
    let two = then_equal (nat_cmp a.id b.id) _ one.1 in
    let three = then_equal (key_proto_cmp a.proto b.proto) _ two.1 in
    let four = then_equal (nat_cmp a.port.bits b.port.bits) _ three.1 in
    let port = and_from (a.port.bits == b.port.bits) (a.port.len == b.port.len) (nat_equal _ _ four.0) (nat_equal _ _ four.1) in
    let to_id = and_from (same_direction a.dir b.dir) (a.id == b.id) (direction_equal a.dir b.dir one.0) (nat_equal _ _ two.0) in
    let to_proto = and_from (same_direction a.dir b.dir && (a.id == b.id)) (same_key_proto a.proto b.proto) to_id (nat_equal _ _ three.0) in
    same_key-is a b (and_from _ (same_prefix a.port b.port) to_proto port)
