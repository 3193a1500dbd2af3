-- The derived `==` of each type is true exactly where both are one value.
use Rattle.std.proofs.Common.{◌≡◌, refl, ap, subst, ℕ, ◌≤◌, rules}
use Rattle.std.specs.Coded.{le_prop}
use Rattle.std.specs.Bool.{Decides}
use Rattle.std.proofs.lemmas.Bool.Decides.{Decides-like, Decides-and, Decides-eqb}
use Rattle.pol_ports.specs.declared.Direction.{Direction}
use Rattle.pol_ports.specs.declared.Proto.{Proto}
use Rattle.pol_ports.specs.declared.PortRange.{PortRange}
use Rattle.pol_ports.specs.declared.PortPrefix.{PortPrefix}
use Rattle.pol_ports.specs.contracts.DirectionPartialEq.TheImpl as direction
use Rattle.pol_ports.specs.contracts.ProtoPartialEq.TheImpl as proto
use Rattle.pol_ports.specs.contracts.PortRangePartialEq.TheImpl as port_range
use Rattle.pol_ports.specs.contracts.PortPrefixPartialEq.TheImpl as port_prefix
use Rattle.pol_ports.proofs.Blocks.{prefix_same}

pub direction_eq-Decides : (a b : Direction) → Decides (direction.ghosts.eq a b) (a ≡ b)
direction_eq-Decides a b = search rules

pub proto_eq-Decides : (a b : Proto) → Decides (proto.ghosts.eq a b) (a ≡ b)
proto_eq-Decides a b = search rules

-- two ranges with the same ends
range_same : (a b : PortRange) → a.first ≡ b.first → a.last ≡ b.last → a ≡ b
range_same a b same_first same_last =
    let Ordered : a.first ≤ a.last → Type 0 = λ o. a ≡ (record { first = a.first; last = a.last; ordered = o }) in
    let Last : ℕ → Type 0 = λ l. (o : a.first ≤ l) → a ≡ (record { first = a.first; last = l; ordered = o }) in
    let First : ℕ → Type 0 = λ f. (o : f ≤ b.last) → a ≡ (record { first = f; last = b.last; ordered = o }) in
    let here : Last a.last = λ o. subst Ordered (le_prop a.ordered o) refl in
    subst First same_first (subst Last same_last here) b.ordered

pub port_range_eq-Decides : (a b : PortRange) → Decides (port_range.ghosts.eq a b) (a ≡ b)
port_range_eq-Decides a b =
    Decides-like _ (λ same. range_same a b same.0 same.1) (λ e. (ap (λ r. r.first) e, ap (λ r. r.last) e))
    (Decides-and _ _ (Decides-eqb a.first b.first) (Decides-eqb a.last b.last))

pub port_prefix_eq-Decides : (a b : PortPrefix) → Decides (port_prefix.ghosts.eq a b) (a ≡ b)
port_prefix_eq-Decides a b =
    Decides-like _ (λ same. prefix_same a b same.0 same.1) (λ e. (ap (λ p. p.bits) e, ap (λ p. p.len) e))
    (Decides-and _ _ (Decides-eqb a.bits b.bits) (Decides-eqb a.len b.len))
