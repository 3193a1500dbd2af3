-- What is printed of an address or a prefix is read as it.
use Rattle.std.proofs.Common.{◌≡◌, ℕ, ◌+◌, ◌*◌, ◌/◌, ◌%◌, ◌^◌, ◌<◌, false, get_or, Some, zero, suc, refl, sym, ap, ◌∙◌, inl, inr, arith}
use Rattle.std.proofs.lemmas.Nat.{shr-shr, shr_below}
use Rattle.std.proofs.lemmas.List.Elements.{All-get_or}
use Rattle.std.specs.Net.Text.{ipv4_text, hex_groups_text}
use Rattle.std.proofs.NetLemmas.Alphabet.{All-hex_groups_text, IsHexOrColon}
use Rattle.std.proofs.NetLemmas.Texts.{AllSegments, IsColonHex-hex_groups_text, IsDotted-ipv4_text}
use Rattle.pol_addr.specs.Address.{Addr, IsAddr, V4, V6, addr_of_groups, read_addr}
use Rattle.pol_addr.specs.Cidr.{IsPrefix}
use Rattle.pol_addr.specs.Prefix.{Prefix, read_prefix}
use Rattle.pol_addr.specs.Grammar.{WritesAddr, WritesPrefix}
use Rattle.pol_addr.specs.Grammar.WritesAddr.{dotted, hex}
use Rattle.pol_addr.specs.Grammar.WritesPrefix.{pair}
use Rattle.pol_addr.specs.Text.{addr_text, group_at, groups_of, octets_of, prefix_text}
use Rattle.pol_addr.proofs.Bytes.{has, lacks_from}
use Rattle.pol_addr.proofs.HexTexts.{hex_from_std, read_addr_complete}
use Rattle.pol_addr.proofs.PrefixTexts.{read_prefix_complete}
use Rattle.pol_addr.proofs.Texts.{addr_of_list, writes_from_dotted}

-- ---- IPv4
octet_small : (n k : ℕ) → n < 2 ^ 32 → get_or (octets_of n) k 0 < 2 ^ 8
octet_small n zero small = omega arith
octet_small n (suc zero) small = omega arith
octet_small n (suc (suc zero)) small = omega arith
octet_small n (suc (suc (suc zero))) small = omega arith
octet_small n (suc (suc (suc (suc k)))) small = omega arith

octets_join : (n : ℕ) → n < 2 ^ 32 → addr_of_list (octets_of n) ≡ V4 n
octets_join n small = ap V4 (omega arith)

-- ---- IPv6
whole : (m : ℕ) → m / 65536 * 65536 + m % 65536 ≡ m
whole m = omega arith

-- one group more
joins : (n k a : ℕ) → a ≡ n / 2 ^ (k + 16) → a * 65536 + group_at k n ≡ n / 2 ^ k
joins n k a is = ap (λ x. x * 65536 + group_at k n) (is ∙ sym (shr-shr n k 16)) ∙ whole (n / 2 ^ k)

first_group : (n : ℕ) → n < 2 ^ 128 → group_at 112 n ≡ n / 2 ^ 112
first_group n small =
    let low : n / 2 ^ 112 < 2 ^ 16 = shr_below n 16 112 small in
    below (n / 2 ^ 112) low
  where
    below : (m : ℕ) → m < 2 ^ 16 → m % 65536 ≡ m
    below m low = omega arith

groups_join : (n : ℕ) → n < 2 ^ 128 → addr_of_groups (groups_of n) ≡ V6 n
groups_join n small =
    let last : n / 2 ^ 0 ≡ n = omega arith in
    ap V6 (joins n 0 _ (joins n 16 _ (joins n 32 _ (joins n 48 _ (joins n 64 _ (joins n 80 _ (joins n 96 _ (first_group n small))))))) ∙ last)

group_small : (n k i : ℕ) → n / 2 ^ k % 65536 < 2 ^ 16
group_small n k i = below (n / 2 ^ k)
  where
    below : (m : ℕ) → m % 65536 < 2 ^ 16
    below m = omega arith

groups_small : (n : ℕ) → AllSegments (groups_of n)
groups_small n zero = group_small n 112 0
groups_small n (suc zero) = group_small n 96 0
groups_small n (suc (suc zero)) = group_small n 80 0
groups_small n (suc (suc (suc zero))) = group_small n 64 0
groups_small n (suc (suc (suc (suc zero)))) = group_small n 48 0
groups_small n (suc (suc (suc (suc (suc zero))))) = group_small n 32 0
groups_small n (suc (suc (suc (suc (suc (suc zero)))))) = group_small n 16 0
groups_small n (suc (suc (suc (suc (suc (suc (suc zero))))))) = group_small n 0 0
groups_small n (suc (suc (suc (suc (suc (suc (suc (suc k)))))))) = omega arith

no_dot : (n : ℕ) → has 46 (hex_groups_text (groups_of n)) ≡ false
no_dot n =
    lacks_from 46 (hex_groups_text (groups_of n)) (λ i within.
    elim (All-get_or IsHexOrColon (hex_groups_text (groups_of n)) i 0 within (All-hex_groups_text (groups_of n) (groups_small n))) [
      | inl low ↦ λ e. omega (arith, low)
      | inr high ↦ λ e. omega (arith, high)
    ])

-- ---- both
pub printed_addr : (addr : Addr) → IsAddr addr → WritesAddr (addr_text addr) addr
printed_addr (V4 n) small =
    rw (← octets_join n small) (dotted (writes_from_dotted (ipv4_text (octets_of n)) (octets_of n) (IsDotted-ipv4_text (octets_of n) refl (λ k. octet_small n k small))))
printed_addr (V6 n) small =
    hex (record {
      groups = groups_of n;
      written = hex_from_std (hex_groups_text (groups_of n)) (groups_of n) (no_dot n) (IsColonHex-hex_groups_text (groups_of n) refl (groups_small n));
      value = sym (groups_join n small);
    })

pub addr-printed : (addr : Addr) → IsAddr addr → read_addr (addr_text addr) ≡ Some addr
addr-printed addr small = read_addr_complete (addr_text addr) addr (printed_addr addr small)

pub printed_prefix : (p : Prefix) → IsPrefix p → WritesPrefix (prefix_text p) p
printed_prefix p valid = pair (record {
  addr_text = addr_text p.addr;
  addr = p.addr;
  len = p.len;
  address = printed_addr p.addr valid.addr_in_range;
  len_in_range = valid.len_in_range;
  written = refl;
  value = λ i. record { addr = sym valid.host_bits_clear i; len = p.len };
})

pub prefix-printed : (p : Prefix) → IsPrefix p → read_prefix (prefix_text p) ≡ Some p
prefix-printed p valid = read_prefix_complete (prefix_text p) p (printed_prefix p valid)
