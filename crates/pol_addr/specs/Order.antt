-- The order of prefixes, and how a prefix is coded as numbers.
use Rattle.std.specs.Prelude.{ℕ, zero, suc, List, [], ◌∷◌, ◌≡◌, refl}
use Rattle.std.specs.declared.cmp.Ordering.{Ordering}
use Rattle.std.specs.Ordering.{nat_cmp, on}
use Rattle.std.specs.Cmp.Lexicographic.{slice_cmp}
use Rattle.std.specs.Coded.{Coded, code_by, coded×, coded_ℕ}
use Rattle.pol_addr.specs.Families.{Family, Ipv4, Ipv6}
use Rattle.pol_addr.specs.Address.{Addr, V4, V6, bits_of, family_of}
use Rattle.pol_addr.specs.declared.network.Prefix.{Prefix}

-- the place of a family in the order
abbrev pub rank : Family → ℕ
rank Ipv4 = 0
rank Ipv6 = 1

-- the family, the bits and then the length
abbrev pub parts_of : Prefix → List ℕ
parts_of p = rank (family_of p.addr) ∷ bits_of p.addr ∷ p.len ∷ []

-- IPv4 prefixes before IPv6 prefixes, those of a family in the order of their addresses, the shorter first
abbrev pub prefix_cmp : Prefix → Prefix → Ordering
prefix_cmp = on parts_of (slice_cmp nat_cmp)

-- the address with these bits in the family with this place
abbrev pub ranked : ℕ → ℕ → Addr
ranked zero bits = V4 bits
ranked (suc place) bits = V6 bits

abbrev pub ranked-parts : (addr : Addr) → ranked (rank (family_of addr)) (bits_of addr) ≡ addr
ranked-parts (V4 bits) = refl
ranked-parts (V6 bits) = refl

-- an address is stored as its family's place and its bits
abbrev pub addr_code : Coded Addr
addr_code = code_by (ℕ × ℕ) (coded× coded_ℕ coded_ℕ) (λ addr. (rank (family_of addr), bits_of addr)) (λ q. ranked q.0 q.1) ranked-parts

-- a prefix is stored as the pair of its address and its length
abbrev pub prefix_code : Coded Prefix
prefix_code = code_by (Addr × ℕ) (coded× addr_code coded_ℕ) (λ p. (p.addr, p.len)) (λ q. record { addr = q.0; len = q.1 }) (λ _. refl)
