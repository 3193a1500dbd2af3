-- What holds of the numbers of a family, said of its addresses.
use Rattle.std.proofs.Common.{◌≡◌, ◌≢◌, ℕ, ◌+◌, ◌-◌, ◌^◌, ◌<◌, ◌≤◌, Bool, true, false, refl, sym, ap, ◌∙◌, inl, inr, arith, if◌then◌else◌, eq-eqb}
use Rattle.std.proofs.lemmas.Bool.{cases_lt, eqb-true}
use Rattle.std.proofs.lemmas.Nat.{pow_pos, pow_below}
use Rattle.std.specs.Bool.{Decides}
use Rattle.pol_addr.specs.Families.{Family, Ipv4, Ipv6, width}
use Rattle.pol_addr.specs.Address.{Addr, V4, V6, IsAddr, addr_in, bits_of, family_of, same_addr, width_of}
use Rattle.pol_addr.specs.Cidr.{IsPrefix, cleared, network}
use Rattle.pol_addr.specs.Prefix.{bit_at, later}
use Rattle.pol_addr.proofs.Blocks.{network-network, network-next, network-none, network-shorter, network-whole, network-within, network_le, network_mono, next_block, no_next_block}

-- `same_addr` tells equal addresses
pub same_addr-is : (a b : Addr) → same_addr a b ≡ true → a ≡ b
same_addr-is (V4 a) (V4 b) same = ap V4 (eqb-true a b same)
same_addr-is (V4 a) (V6 b) same = cc
same_addr-is (V6 a) (V4 b) same = cc
same_addr-is (V6 a) (V6 b) same = ap V6 (eqb-true a b same)

pub same_addr-self : (a : Addr) → same_addr a a ≡ true
same_addr-self (V4 a) = eq-eqb a a refl
same_addr-self (V6 a) = eq-eqb a a refl

pub same_addr_from : (a b : Addr) → a ≡ b → same_addr a b ≡ true
same_addr_from a b same = ap (same_addr a) (sym same) ∙ same_addr-self a

pub same_addr-Decides : (a b : Addr) → Decides (same_addr a b) (a ≡ b)
same_addr-Decides a b = (same_addr-is a b, same_addr_from a b)

-- addresses of one family with the same bits are one
pub same_from_bits : (a b : Addr) → family_of a ≡ family_of b → bits_of a ≡ bits_of b → a ≡ b
same_from_bits (V4 a) (V4 b) family bits = ap V4 bits
same_from_bits (V4 a) (V6 b) family bits = cc
same_from_bits (V6 a) (V4 b) family bits = cc
same_from_bits (V6 a) (V6 b) family bits = ap V6 bits

pub bits_of-addr_in : (f : Family) (n : ℕ) → bits_of (addr_in f n) ≡ n
bits_of-addr_in Ipv4 n = refl
bits_of-addr_in Ipv6 n = refl

pub family_of-addr_in : (f : Family) (n : ℕ) → family_of (addr_in f n) ≡ f
family_of-addr_in Ipv4 n = refl
family_of-addr_in Ipv6 n = refl

-- ---- host bits
pub family_of-cleared : (len : ℕ) (a : Addr) → family_of (cleared len a) ≡ family_of a
family_of-cleared len (V4 n) = refl
family_of-cleared len (V6 n) = refl

pub width_of-cleared : (len : ℕ) (a : Addr) → width_of (cleared len a) ≡ width_of a
width_of-cleared len a = ap width (family_of-cleared len a)

pub cleared-cleared : (l m : ℕ) (a : Addr) → l ≤ m → cleared l (cleared m a) ≡ cleared l a
cleared-cleared l m (V4 n) shorter = ap V4 (network-network 32 l m n shorter)
cleared-cleared l m (V6 n) shorter = ap V6 (network-network 128 l m n shorter)

pub cleared-shorter : (l m : ℕ) (a : Addr) → l ≤ m → cleared m (cleared l a) ≡ cleared l a
cleared-shorter l m (V4 n) shorter = ap V4 (network-shorter 32 l m n shorter)
cleared-shorter l m (V6 n) shorter = ap V6 (network-shorter 128 l m n shorter)

pub cleared-whole : (a : Addr) → cleared (width_of a) a ≡ a
cleared-whole (V4 n) = ap V4 (network-whole 32 n)
cleared-whole (V6 n) = ap V6 (network-whole 128 n)

pub cleared-none : (a : Addr) → IsAddr a → cleared 0 a ≡ addr_in (family_of a) 0
cleared-none (V4 n) small = ap V4 (network-none 32 n small)
cleared-none (V6 n) small = ap V6 (network-none 128 n small)

pub IsAddr-cleared : (len : ℕ) (a : Addr) → IsAddr a → IsAddr (cleared len a)
IsAddr-cleared len (V4 n) small = omega (arith, network_le 32 len n)
IsAddr-cleared len (V6 n) small = omega (arith, network_le 128 len n)

-- what `Prefix::new` makes is a prefix
pub IsPrefix-cleared : (len : ℕ) (a : Addr) → len ≤ width_of a → IsAddr a → IsPrefix (record { addr = cleared len a; len = len })
IsPrefix-cleared len a short small = record {
  len_in_range = omega (arith, width_of-cleared len a);
  addr_in_range = IsAddr-cleared len a small;
  host_bits_clear = cleared-cleared len len a (omega arith);
}

pub cleared_le : (len : ℕ) (a : Addr) → bits_of (cleared len a) ≤ bits_of a
cleared_le len (V4 n) = network_le 32 len n
cleared_le len (V6 n) = network_le 128 len n

pub cleared_mono : (len : ℕ) (a b : Addr) → family_of a ≡ family_of b → bits_of a ≤ bits_of b → bits_of (cleared len a) ≤ bits_of (cleared len b)
cleared_mono len (V4 a) (V4 b) family le = network_mono 32 len a b le
cleared_mono len (V4 a) (V6 b) family le = cc
cleared_mono len (V6 a) (V4 b) family le = cc
cleared_mono len (V6 a) (V6 b) family le = network_mono 128 len a b le

-- an address has at least 32 bits and at most 128
pub width_least : (a : Addr) → 32 ≤ width_of a
width_least (V4 n) = omega arith
width_least (V6 n) = omega arith

pub width_most : (a : Addr) → width_of a ≤ 128
width_most (V4 n) = omega arith
width_most (V6 n) = omega arith

-- addresses of a family that differ in their first bits have some of them
pub len_from_differ : (len : ℕ) (a b : Addr) → IsAddr a → IsAddr b → family_of a ≡ family_of b → cleared len a ≢ cleared len b → 1 ≤ len
len_from_differ len a b small small' same differ =
    elim (cases_lt 0 len) [
      | inl some ↦ some
      | inr none ↦
          let zero : len ≡ 0 = omega (arith, none) in
          absurd (differ (ap (λ l. cleared l a) zero ∙ cleared-none a small ∙ ap (λ f. addr_in f 0) same ∙ sym (ap (λ l. cleared l b) zero ∙ cleared-none b small')))
    ]

-- ---- what comes later
pub family_of-later : (c : ℕ) (a : Addr) → family_of (later c a) ≡ family_of a
family_of-later c (V4 n) = refl
family_of-later c (V6 n) = refl

pub width_of-later : (c : ℕ) (a : Addr) → width_of (later c a) ≡ width_of a
width_of-later c (V4 n) = refl
width_of-later c (V6 n) = refl

-- in a block of length l, the second block of a greater length m starts at an address of its own
pub next_addr : (l m : ℕ) (a : Addr) → l < m → m ≤ width_of a → IsAddr a → cleared l a ≡ a
    → IsAddr (later (2 ^ (width_of a - m)) a) × (cleared l (later (2 ^ (width_of a - m)) a) ≡ a) × (cleared m (later (2 ^ (width_of a - m)) a) ≡ cleared m a → ⊥)
next_addr l m (V4 n) longer within small clear =
    let own : network 32 l n ≡ n = ap bits_of clear in
    let next = next_block 32 l m n longer within small own in
    (next.0, ap V4 next.1, λ same. no_next_block 32 l m n longer within small own (ap bits_of same))
next_addr l m (V6 n) longer within small clear =
    let own : network 128 l n ≡ n = ap bits_of clear in
    let next = next_block 128 l m n longer within small own in
    (next.0, ap V6 next.1, λ same. no_next_block 128 l m n longer within small own (ap bits_of same))

-- an address in the block that starts at this one
pub cleared-within : (l c : ℕ) (a : Addr) → c < 2 ^ (width_of a - l) → cleared l a ≡ a → cleared l (later c a) ≡ a
cleared-within l c (V4 n) inside clear = ap V4 (network-within 32 l n c inside (ap bits_of clear))
cleared-within l c (V6 n) inside clear = ap V6 (network-within 128 l n c inside (ap bits_of clear))

-- one more bit of the network
pub cleared-next : (l : ℕ) (a : Addr) → l < width_of a → cleared (l + 1) a ≡ later (if bit_at a l then 2 ^ (width_of a - 1 - l) else 0) (cleared l a)
cleared-next l (V4 n) short = ap V4 (network-next 32 l n short)
cleared-next l (V6 n) short = ap V6 (network-next 128 l n short)

pub later_apart : (c d : ℕ) (a b : Addr) → b ≡ later c a → b ≡ later d a → c ≡ d
later_apart c d (V4 n) b is is' = let e : n + c ≡ n + d = ap bits_of (sym is ∙ is') in omega (arith, e)
later_apart c d (V6 n) b is is' = let e : n + c ≡ n + d = ap bits_of (sym is ∙ is') in omega (arith, e)

pub half_inside : (w len : ℕ) (high : Bool) → len < w → (if high then 2 ^ (w - 1 - len) else 0) < 2 ^ (w - len)
half_inside w len true short = pow_below (w - 1 - len) (w - len) (omega arith)
half_inside w len false short = pow_pos (w - len)
