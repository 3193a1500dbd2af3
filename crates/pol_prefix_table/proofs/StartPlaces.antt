-- The first bits of an address, and the prefixes that begin with them.
use Rattle.std.proofs.Common.{◌≡◌, ℕ, ◌+◌, ◌-◌, ◌*◌, ◌/◌, ◌^◌, ◌≤◌, true, refl, sym, ap, subst, ◌∙◌, arith}
use Rattle.std.proofs.lemmas.Nat.{shr-shr}
use Rattle.pol_addr.specs.declared.family.Family.{Family}
use Rattle.pol_addr.specs.declared.address.Addr.{Addr}
use Rattle.pol_addr.specs.declared.address.Addr.TheVariants.{V4, V6}
use Rattle.pol_addr.specs.Families.{width}
use Rattle.pol_addr.specs.Address.{addr_in, bits_of, family_of, width_of}
use Rattle.pol_addr.specs.Cidr.{cleared, network}
use Rattle.pol_addr.specs.Prefix.{covers, host_prefix}
use Rattle.pol_addr.proofs.ByFamily.{cleared-cleared, width_least}
use Rattle.pol_addr.proofs.Containment.{covers_from}
use Rattle.pol_prefix_table.specs.Starts.{beginning}

-- the first bits of an address, with zeros behind them
cleared_first : (len : ℕ) (addr : Addr) → cleared len addr ≡ addr_in (family_of addr) (bits_of addr / 2 ^ (width_of addr - len) * 2 ^ (width_of addr - len))
unfolding network
cleared_first len (V4 bits) = refl
cleared_first len (V6 bits) = refl

own_begins : (len place : ℕ) (addr : Addr) → len ≤ 32 → bits_of addr / 2 ^ (width_of addr - 32) / 2 ^ (32 - len) ≡ place → covers (beginning (family_of addr) len place) (host_prefix addr) ≡ true
own_begins len place addr short same =
    let w = width_of addr in
    let sum : w - 32 + (32 - len) ≡ w - len = omega (arith, short, width_least addr) in
    let first : bits_of addr / 2 ^ (w - len) ≡ place = ap (λ k. bits_of addr / 2 ^ k) (sym sum) ∙ sym (shr-shr (bits_of addr) (w - 32) (32 - len)) ∙ same in
    let own : cleared len addr ≡ addr_in (family_of addr) (place * 2 ^ (w - len)) = cleared_first len addr ∙ ap (λ n. addr_in (family_of addr) (n * 2 ^ (w - len))) first in
    covers_from (beginning (family_of addr) len place) (host_prefix addr) (omega (arith, short, width_least addr))
    (cleared-cleared len w addr (omega (arith, short, width_least addr)) ∙ sym (cleared-cleared len len addr (omega arith)) ∙ ap (cleared len) own)

-- an address whose first bits are those of a place lies in the prefix that begins with them
pub begins_there : (family : Family) (len place : ℕ) (addr : Addr) → family_of addr ≡ family → len ≤ 32 → bits_of addr / 2 ^ (width family - 32) / 2 ^ (32 - len) ≡ place → covers (beginning family len place) (host_prefix addr) ≡ true
begins_there family len place addr of short =
    subst (λ f. bits_of addr / 2 ^ (width f - 32) / 2 ^ (32 - len) ≡ place → covers (beginning f len place) (host_prefix addr) ≡ true) of (own_begins len place addr short)
