-- The tests of sameness pass exactly where two values are equal.
use Rattle.std.proofs.Common.{◌≡◌, true, ◌==◌, refl}
use Rattle.std.proofs.lemmas.Bool.{and_parts, and_from, eqb-true, eq-eqb}
use Rattle.pol_ports.specs.declared.Direction.{Direction}
use Rattle.pol_ports.specs.declared.Direction.TheVariants.{Ingress, Egress}
use Rattle.pol_ports.specs.declared.Proto.{Proto}
use Rattle.pol_ports.specs.declared.Proto.TheVariants.{Tcp, Udp, Sctp}
use Rattle.pol_ports.specs.declared.PortPrefix.{PortPrefix}
use Rattle.pol_ports.specs.Direction.{same_direction}
use Rattle.pol_ports.specs.Proto.{same_proto}
use Rattle.pol_ports.specs.PortPrefix.{same_prefix}
use Rattle.pol_ports.proofs.Blocks.{prefix_same}

pub same_direction-self : (a : Direction) → same_direction a a ≡ true
same_direction-self Ingress = refl
same_direction-self Egress = refl

pub same_direction-is : (a b : Direction) → same_direction a b ≡ true → a ≡ b
same_direction-is Ingress Ingress t = refl
same_direction-is Ingress Egress t = cc
same_direction-is Egress Ingress t = cc
same_direction-is Egress Egress t = refl

pub same_proto-self : (a : Proto) → same_proto a a ≡ true
same_proto-self Tcp = refl
same_proto-self Udp = refl
same_proto-self Sctp = refl

pub same_proto-is : (a b : Proto) → same_proto a b ≡ true → a ≡ b
same_proto-is Tcp Tcp t = refl
same_proto-is Tcp Udp t = cc
same_proto-is Tcp Sctp t = cc
same_proto-is Udp Tcp t = cc
same_proto-is Udp Udp t = refl
same_proto-is Udp Sctp t = cc
same_proto-is Sctp Tcp t = cc
same_proto-is Sctp Udp t = cc
same_proto-is Sctp Sctp t = refl

pub same_prefix-self : (p : PortPrefix) → same_prefix p p ≡ true
same_prefix-self p = and_from (p.bits == p.bits) (p.len == p.len) (eq-eqb p.bits p.bits refl) (eq-eqb p.len p.len refl)

pub same_prefix-is : (p q : PortPrefix) → same_prefix p q ≡ true → p ≡ q
same_prefix-is p q t =
    let both = and_parts (p.bits == q.bits) (p.len == q.len) t in
    prefix_same p q (eqb-true p.bits q.bits both.0) (eqb-true p.len q.len both.1)
