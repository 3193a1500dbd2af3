-- What it is for a prefix to contain an address, and to cover another prefix.
use Rattle.std.proofs.Common.{Bool, ◌≡◌, ◌+◌, ◌-◌, ◌^◌, ◌<◌, ◌≤◌, ◌↔◌, IsTrue, true, false, refl, sym, ap, ◌∙◌, inl, inr, ◌⊎◌, arith, if◌then◌else◌}
use Rattle.std.proofs.lemmas.Nat.{pow_pos}
use Rattle.std.proofs.lemmas.Bool.{cases_lt, and_parts, and_from, leb-true, le-leb}
use Rattle.pol_addr.specs.Families.{width}
use Rattle.pol_addr.specs.Address.{Addr, IsAddr, family_of, width_of}
use Rattle.pol_addr.specs.Cidr.{IsPrefix, cleared}
use Rattle.pol_addr.specs.Prefix.{Prefix, host_prefix, bit_of, half, contains, covers, later}
use Rattle.pol_addr.proofs.ByFamily.{cleared-cleared, cleared-next, cleared-whole, cleared-within, family_of-cleared, half_inside, later_apart, next_addr, same_addr-is, same_addr_from, width_of-later}

pub contains-addr : (p : Prefix) (a : Addr) → contains p a ≡ true → cleared p.len a ≡ p.addr
unfolding contains
contains-addr p a h = same_addr-is _ _ h

pub contains_from : (p : Prefix) (a : Addr) → cleared p.len a ≡ p.addr → contains p a ≡ true
unfolding contains
contains_from p a e = same_addr_from _ _ e

pub covers-parts : (p q : Prefix) → covers p q ≡ true → (p.len ≤ q.len) × (cleared p.len q.addr ≡ p.addr)
unfolding covers
covers-parts p q h = let (short, addr) = and_parts _ _ h in (leb-true _ _ short, same_addr-is _ _ addr)

pub covers_from : (p q : Prefix) → p.len ≤ q.len → cleared p.len q.addr ≡ p.addr → covers p q ≡ true
unfolding covers
covers_from p q short addr = and_from _ _ (le-leb _ _ short) (same_addr_from _ _ addr)

-- ---- families
-- a prefix contains addresses of its own family alone
pub contains-family : (p : Prefix) (a : Addr) → contains p a ≡ true → family_of a ≡ family_of p.addr
contains-family p a within = sym (family_of-cleared p.len a) ∙ ap family_of (contains-addr p a within)

-- and covers prefixes of its own family alone
pub covers-family : (p q : Prefix) → covers p q ≡ true → family_of q.addr ≡ family_of p.addr
covers-family p q over = sym (family_of-cleared p.len q.addr) ∙ ap family_of (covers-parts p q over).1

pub covers-width : (p q : Prefix) → covers p q ≡ true → width_of q.addr ≡ width_of p.addr
covers-width p q over = ap width (covers-family p q over)

-- ---- nesting
-- an address of the covered prefix lies in the one that covers
pub contains_through : (p q : Prefix) (a : Addr) → covers p q ≡ true → contains q a ≡ true → contains p a ≡ true
contains_through p q a over within =
    let (short, addr) = covers-parts p q over in
    contains_from p a (sym (cleared-cleared p.len q.len a short) ∙ ap (cleared p.len) (contains-addr q a within) ∙ addr)

-- prefixes that share an address are nested: the shorter one covers the other
pub covers_from_shared : (p q : Prefix) (a : Addr) → contains p a ≡ true → contains q a ≡ true → p.len ≤ q.len → covers p q ≡ true
covers_from_shared p q a in_p in_q short =
    covers_from p q short (ap (cleared p.len) (sym (contains-addr q a in_q)) ∙ cleared-cleared p.len q.len a short ∙ contains-addr p a in_p)

-- two prefixes of one length that share an address are one
pub same_from_shared : (p q : Prefix) (a : Addr) → contains p a ≡ true → contains q a ≡ true → p.len ≡ q.len → p ≡ q
same_from_shared p q a in_p in_q same =
    let addr : p.addr ≡ q.addr = sym (contains-addr p a in_p) ∙ ap (λ l. cleared l a) same ∙ contains-addr q a in_q in
    λ i. record { addr = addr i; len = same i }

pub covers_refl : (p : Prefix) → IsPrefix p → covers p p ≡ true
covers_refl p valid = covers_from p p (omega arith) valid.host_bits_clear

pub covers_trans : (p q r : Prefix) → covers p q ≡ true → covers q r ≡ true → covers p r ≡ true
covers_trans p q r first second =
    let (short, addr) = covers-parts p q first in
    let (short', addr') = covers-parts q r second in
    covers_from p r (omega arith) (sym (cleared-cleared p.len q.len r.addr short) ∙ ap (cleared p.len) addr' ∙ addr)

-- the network address lies in its prefix
pub contains-first : (p : Prefix) → IsPrefix p → contains p p.addr ≡ true
contains-first p valid = contains_from p p.addr valid.host_bits_clear

-- where each address of q lies in p, p covers q: else p would be longer, and the block after its first would be in q, not in p
pub covers_from_contains : (p q : Prefix) → IsPrefix p → IsPrefix q → ((a : Addr) → IsAddr a → contains q a ≡ true → contains p a ≡ true) → covers p q ≡ true
covers_from_contains p q valid_p valid_q all =
    let within = all q.addr valid_q.addr_in_range (contains-first q valid_q) in
    let first = contains-addr p q.addr within in
    let wide : p.len ≤ width_of q.addr = omega (arith, valid_p.len_in_range, ap width (contains-family p q.addr within)) in
    elim (cases_lt q.len p.len) [
      | inl longer ↦
          let next = next_addr q.len p.len q.addr longer wide valid_q.addr_in_range valid_q.host_bits_clear in
          let a = later (2 ^ (width_of q.addr - p.len)) q.addr in
          let addr = contains-addr p a (all a next.0 (contains_from q a next.1)) in
          absurd (next.2 (addr ∙ sym first))
      | inr short ↦ covers_from p q short first
    ]

-- `covers` is containment of addresses
pub covers_iff : (p q : Prefix) → IsPrefix p → IsPrefix q → IsTrue (covers p q) ↔ ((a : Addr) → IsAddr a → IsTrue (contains q a) → IsTrue (contains p a))
covers_iff p q valid_p valid_q = (λ over a _ within. contains_through p q a over within, covers_from_contains p q valid_p valid_q)

pub covers_iff_at : (r : Bool) (p q : Prefix) → IsPrefix p → IsPrefix q → r ≡ covers p q → IsTrue r ↔ ((a : Addr) → IsAddr a → IsTrue (contains q a) → IsTrue (contains p a))
covers_iff_at r p q valid_p valid_q is = rw is (covers_iff p q valid_p valid_q)

-- ---- two prefixes that cover a third
pub covers_from_covered : (p q r : Prefix) → covers p r ≡ true → covers q r ≡ true → p.len ≤ q.len → covers p q ≡ true
covers_from_covered p q r over_p over_q short =
    let (_, addr_p) = covers-parts p r over_p in
    let (_, addr_q) = covers-parts q r over_q in
    covers_from p q short (ap (cleared p.len) (sym addr_q) ∙ cleared-cleared p.len q.len r.addr short ∙ addr_p)

pub same_from_covered : (p q r : Prefix) → covers p r ≡ true → covers q r ≡ true → p.len ≡ q.len → p ≡ q
same_from_covered p q r over_p over_q same =
    let (_, addr_p) = covers-parts p r over_p in
    let (_, addr_q) = covers-parts q r over_q in
    let addr : p.addr ≡ q.addr = sym addr_p ∙ ap (λ l. cleared l r.addr) same ∙ addr_q in
    λ i. record { addr = addr i; len = same i }

-- ---- an address as the prefix of the greatest length
pub contains-covers : (p : Prefix) (a : Addr) → p.len ≤ width_of a → contains p a ≡ covers p (host_prefix a)
unfolding contains covers
contains-covers p a short = rw (le-leb p.len (width_of a) short, cleared-whole a) refl

-- ---- halves
-- a prefix strictly covers another exactly where the half that its next bit picks covers it
pub covers_half : (p q : Prefix) → IsPrefix q → covers p q ≡ true → p.len < q.len → covers (half p (bit_of q p.len)) q ≡ true
covers_half p q valid over longer =
    let (_, addr) = covers-parts p q over in
    let same = covers-width p q over in
    let next = cleared-next p.len q.addr (omega (arith, valid.len_in_range)) in
    covers_from (half p (bit_of q p.len)) q (omega arith)
    (next ∙ ap (later (if bit_of q p.len then 2 ^ (width_of q.addr - 1 - p.len) else 0)) addr ∙ ap (λ w. later (if bit_of q p.len then 2 ^ (w - 1 - p.len) else 0) p.addr) same)

pub covers_from_half : (p q : Prefix) (high : Bool) → IsPrefix p → IsPrefix q → covers (half p high) q ≡ true → (covers p q ≡ true) × (p.len < q.len)
covers_from_half p q high valid_p valid_q over =
    let (short, addr) = covers-parts (half p high) q over in
    let family : width_of q.addr ≡ width_of p.addr = ap width (sym (family_of-cleared (p.len + 1) q.addr) ∙ ap family_of addr) ∙ later_width p.addr in
    let inside = half_inside (width_of p.addr) p.len high (omega (arith, short, valid_q.len_in_range, family)) in
    let outer = cleared-within p.len _ p.addr inside valid_p.host_bits_clear in
    let joined = sym (cleared-cleared p.len (p.len + 1) q.addr (omega arith)) ∙ ap (cleared p.len) addr ∙ outer in
    (covers_from p q (omega arith) joined, omega arith)
  where
    later_width : (a : Addr) → width_of (later (if high then 2 ^ (width_of a - 1 - p.len) else 0) a) ≡ width_of a
    later_width a = width_of-later _ a

-- no prefix lies in both halves
pub halves_apart : (p q : Prefix) → covers (half p true) q ≡ true → covers (half p false) q ≡ true → ⊥
halves_apart p q high low =
    let (_, addr) = covers-parts (half p true) q high in
    let (_, addr') = covers-parts (half p false) q low in
    let same = later_apart (2 ^ (width_of p.addr - 1 - p.len)) 0 p.addr (cleared (p.len + 1) q.addr) addr addr' in
    omega (arith, same, pow_pos (width_of p.addr - 1 - p.len))

-- prefixes that share an address are nested
pub nested : (p q : Prefix) (a : Addr) → contains p a ≡ true → contains q a ≡ true → (covers p q ≡ true) ⊎ (covers q p ≡ true)
nested p q a in_p in_q =
    elim (cases_lt q.len p.len) [
      | inl longer ↦ inr (covers_from_shared q p a in_q in_p (omega arith))
      | inr short ↦ inl (covers_from_shared p q a in_p in_q short)
    ]
