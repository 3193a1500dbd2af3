-- When a prefix has a port or the ports of another, as facts on numbers.
use Rattle.std.proofs.Common.{◌≡◌, ℕ, ◌-◌, ◌<◌, ◌≤◌, true, nat_le, nat_lt, inl, inr, ◌⊎◌, arith}
use Rattle.std.proofs.lemmas.Bool.{cases_lt, cases_order, and_parts, and_from, leb-true, le-leb, ltb-true, lt-ltb}
use Rattle.std.proofs.lemmas.Nat.{pow_pos, pow_below}
use Rattle.pol_ports.specs.declared.PortPrefix.{PortPrefix}
use Rattle.pol_ports.specs.PortPrefix.{end_of, prefix_holds, prefix_contains}
use Rattle.pol_ports.proofs.Blocks.{shorter_contains, prefix_same}

pub holds_is : (p : PortPrefix) (port : ℕ) → prefix_holds p port ≡ true → (p.bits ≤ port) × (port < end_of p)
holds_is p port t =
    let both = and_parts (nat_le p.bits port) (nat_lt port (end_of p)) t in
    (leb-true p.bits port both.0, ltb-true port (end_of p) both.1)

pub holds_from : (p : PortPrefix) (port : ℕ) → p.bits ≤ port → port < end_of p → prefix_holds p port ≡ true
holds_from p port low high = and_from (nat_le p.bits port) (nat_lt port (end_of p)) (le-leb p.bits port low) (lt-ltb port (end_of p) high)

pub contains_is : (p q : PortPrefix) → prefix_contains p q ≡ true → (p.bits ≤ q.bits) × (end_of q ≤ end_of p)
contains_is p q t =
    let both = and_parts (nat_le p.bits q.bits) (nat_le (end_of q) (end_of p)) t in
    (leb-true p.bits q.bits both.0, leb-true (end_of q) (end_of p) both.1)

pub contains_from : (p q : PortPrefix) → p.bits ≤ q.bits → end_of q ≤ end_of p → prefix_contains p q ≡ true
contains_from p q low high =
    and_from (nat_le p.bits q.bits) (nat_le (end_of q) (end_of p)) (le-leb p.bits q.bits low) (le-leb (end_of q) (end_of p) high)

-- two prefixes with a port in common are nested
pub nested : (p q : PortPrefix) (port : ℕ) → prefix_holds p port ≡ true → prefix_holds q port ≡ true
    → (prefix_contains p q ≡ true) ⊎ (prefix_contains q p ≡ true)
nested p q port in_p in_q =
    let a = holds_is p port in_p in
    let b = holds_is q port in_q in
    elim (cases_lt q.len p.len) [
      | inl wider ↦ (let e = shorter_contains q p (omega arith) (omega arith) (omega arith) in inr (contains_from q p e.0 e.1))
      | inr narrower ↦ (let e = shorter_contains p q narrower (omega arith) (omega arith) in inl (contains_from p q e.0 e.1))
    ]

-- a prefix contains another exactly where it has each of its ports
pub contains_ports : (p q : PortPrefix) → prefix_contains p q ≡ true → (port : ℕ) → prefix_holds q port ≡ true → prefix_holds p port ≡ true
contains_ports p q t port held =
    let a = contains_is p q t in
    let b = holds_is q port held in
    holds_from p port (omega arith) (omega arith)

pub contains_from_ports : (p q : PortPrefix) → ((port : ℕ) → prefix_holds q port ≡ true → prefix_holds p port ≡ true) → prefix_contains p q ≡ true
contains_from_ports p q all =
    let pos = pow_pos (16 - q.len) in
    let first = holds_is p q.bits (all q.bits (holds_from q q.bits (omega arith) (omega arith))) in
    let last = holds_is p (end_of q - 1) (all (end_of q - 1) (holds_from q (end_of q - 1) (omega arith) (omega arith))) in
    contains_from p q first.0 (omega arith)

-- prefixes that contain each other are the same
pub contains_both : (p q : PortPrefix) → prefix_contains p q ≡ true → prefix_contains q p ≡ true → p ≡ q
contains_both p q s t =
    let a = contains_is p q s in
    let b = contains_is q p t in
    let height : 16 - p.len ≡ 16 - q.len = elim (cases_order (16 - p.len) (16 - q.len)) [
      | inl e ↦ e
      | inr o ↦ elim o [
        | inl l ↦ absurd (omega (arith, pow_below (16 - p.len) (16 - q.len) l))
        | inr g ↦ absurd (omega (arith, pow_below (16 - q.len) (16 - p.len) g))
      ]
    ] in
    prefix_same p q (omega arith) (omega (arith, p.short, q.short))

pub contains_three : (p q r : PortPrefix) → prefix_contains p q ≡ true → prefix_contains q r ≡ true → prefix_contains p r ≡ true
contains_three p q r s t =
    let a = contains_is p q s in
    let b = contains_is q r t in
    contains_from p r (omega arith) (omega arith)

pub contains_itself : (p : PortPrefix) → prefix_contains p p ≡ true
contains_itself p = contains_from p p (omega arith) (omega arith)

-- the empty prefix contains any other that has one of its ports
pub empty_contains : (p q : PortPrefix) (port : ℕ) → p.len ≡ 0 → prefix_holds p port ≡ true → prefix_holds q port ≡ true → prefix_contains p q ≡ true
empty_contains p q port none in_p in_q =
    let a = holds_is p port in_p in
    let b = holds_is q port in_q in
    let e = shorter_contains p q (omega arith) (omega arith) (omega arith) in
    contains_from p q e.0 e.1
