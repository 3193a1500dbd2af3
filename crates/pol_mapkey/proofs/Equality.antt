-- The test of sameness and the derived `==` are true exactly where two keys are one.
use Rattle.std.proofs.Common.{◌≡◌, Bool, true, refl, ap, subst, rules}
use Rattle.std.specs.Bool.{Decides}
use Rattle.std.proofs.lemmas.Bool.Decides.{Decides-like, Decides-and, Decides-eqb}
use Rattle.pol_ports.specs.Direction.{same_direction}
use Rattle.pol_ports.specs.PortPrefix.{same_prefix}
use Rattle.pol_ports.proofs.Same.{same_direction-self, same_direction-is, same_prefix-self, same_prefix-is}
use Rattle.pol_ports.proofs.Equality.{direction_eq-Decides, port_prefix_eq-Decides}
use Rattle.pol_mapkey.specs.declared.KeyProto.{KeyProto}
use Rattle.pol_mapkey.specs.declared.MapKey.{MapKey}
use Rattle.pol_mapkey.specs.KeyProto.{same_key_proto}
use Rattle.pol_mapkey.specs.MapKey.{same_key}
use Rattle.pol_mapkey.specs.contracts.KeyProtoPartialEq.TheImpl as key_proto
use Rattle.pol_mapkey.specs.contracts.MapKeyPartialEq.TheImpl as map_key
use Rattle.pol_mapkey.proofs.Keys.{key_same}

pub key_proto_eq-Decides : (j k : KeyProto) → Decides (key_proto.ghosts.eq j k) (j ≡ k)
key_proto_eq-Decides j k = search rules

pub map_key_eq-Decides : (a b : MapKey) → Decides (map_key.ghosts.eq a b) (a ≡ b)
map_key_eq-Decides a b =
    Decides-like _ (λ same. key_same a b same.0 same.1.0 same.1.1.0 same.1.1.1)
    (λ e. (ap (λ k. k.dir) e, (ap (λ k. k.id) e, (ap (λ k. k.proto) e, ap (λ k. k.port) e))))
    (Decides-and _ _ (direction_eq-Decides a.dir b.dir)
    (Decides-and _ _ (Decides-eqb a.id b.id)
    (Decides-and _ _ (key_proto_eq-Decides a.proto b.proto) (port_prefix_eq-Decides a.port b.port))))

-- ---- the test of sameness
by_self : {K : Type 0} (same : K → K → Bool) → ((k : K) → same k k ≡ true) → ((j k : K) → same j k ≡ true → j ≡ k) → (j k : K) → Decides (same j k) (j ≡ k)
by_self same self is j k = (is j k, λ e. subst (λ m. same j m ≡ true) e (self j))

same_key_proto-Decides : (j k : KeyProto) → Decides (same_key_proto j k) (j ≡ k)
same_key_proto-Decides j k = search rules

pub same_key-Decides : (a b : MapKey) → Decides (same_key a b) (a ≡ b)
same_key-Decides a b =
    Decides-like _ (λ same. key_same a b same.0.0.0 same.0.0.1 same.0.1 same.1)
    (λ e. (((ap (λ k. k.dir) e, ap (λ k. k.id) e), ap (λ k. k.proto) e), ap (λ k. k.port) e))
    (Decides-and _ _
    (Decides-and _ _
    (Decides-and _ _ (by_self same_direction same_direction-self same_direction-is a.dir b.dir) (Decides-eqb a.id b.id))
    (same_key_proto-Decides a.proto b.proto))
    (by_self same_prefix same_prefix-self same_prefix-is a.port b.port))

pub same_key-is : (a b : MapKey) → same_key a b ≡ true → a ≡ b
same_key-is a b = (same_key-Decides a b).0

pub same_key-self : (a : MapKey) → same_key a a ≡ true
same_key-self a = (same_key-Decides a a).1 refl
