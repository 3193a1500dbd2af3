-- The prefix of length 0 of a family, and when one prefix is shorter than another.
use Rattle.std.proofs.Common.{◌≡◌, ◌≢◌, ◌<◌, true, sym, ap, ◌∙◌, inl, inr, arith}
use Rattle.std.proofs.lemmas.Nat.{pow_pos}
use Rattle.std.proofs.lemmas.Bool.{cases_eq}
use Rattle.pol_addr.specs.Families.{Family, Ipv4, Ipv6}
use Rattle.pol_addr.specs.declared.network.Prefix.{Prefix}
use Rattle.pol_addr.specs.Address.{Addr, IsAddr, addr_in, family_of}
use Rattle.pol_addr.specs.Cidr.{IsPrefix, cleared}
use Rattle.pol_addr.specs.Prefix.{contains, covers, world}
use Rattle.pol_addr.proofs.ByFamily.{cleared-none, family_of-addr_in}
use Rattle.pol_addr.proofs.Containment.{contains_from, covers_from, covers_refl, same_from_covered}
use Rattle.pol_addr.proofs.Halves.{covers_len}

IsAddr-first : (f : Family) → IsAddr (addr_in f 0)
IsAddr-first Ipv4 = omega arith
IsAddr-first Ipv6 = pow_pos 128

pub world-IsPrefix : (f : Family) → IsPrefix (world f)
world-IsPrefix f = record {
  len_in_range = omega arith;
  addr_in_range = IsAddr-first f;
  host_bits_clear = cleared-none (addr_in f 0) (IsAddr-first f) ∙ ap (λ g. addr_in g 0) (family_of-addr_in f 0);
}

-- it contains each address of the family
pub contains-world : (a : Addr) → IsAddr a → contains (world (family_of a)) a ≡ true
contains-world a small = contains_from (world (family_of a)) a (cleared-none a small)

-- and covers each prefix
pub covers-world : (p : Prefix) → IsPrefix p → covers (world (family_of p.addr)) p ≡ true
covers-world p valid = covers_from (world (family_of p.addr)) p (omega arith) (cleared-none p.addr valid.addr_in_range)

-- the prefix of length 0
pub world_from_len : (p : Prefix) → IsPrefix p → p.len ≡ 0 → p ≡ world (family_of p.addr)
world_from_len p valid zero =
    let addr : p.addr ≡ addr_in (family_of p.addr) 0 = sym valid.host_bits_clear ∙ ap (λ l. cleared l p.addr) zero ∙ cleared-none p.addr valid.addr_in_range in
    λ i. record { addr = addr i; len = zero i }

-- a prefix that covers another one is shorter
pub strictly : (p q : Prefix) → IsPrefix q → covers p q ≡ true → q ≢ p → p.len < q.len
strictly p q valid over differs =
    elim (cases_eq p.len q.len) [
      | inl same ↦ absurd (differs (sym (same_from_covered p q q over (covers_refl q valid) same)))
      | inr other ↦ omega (arith, other, covers_len p q over)
    ]
