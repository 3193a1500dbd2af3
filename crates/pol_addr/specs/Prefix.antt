-- Prefixes: which addresses and prefixes one contains, and what a text reads as.
use Rattle.std.specs.Prelude.{ℕ, ◌+◌, ◌-◌, ◌/◌, ◌%◌, ◌^◌, Bool, ◌&&◌, ◌==◌, nat_le, List, [], ◌∷◌, Option, Some, None, option_map, if◌then◌else◌}
use Rattle.std.specs.Net.Reader.{read_octet, whole_value}
use Rattle.pol_addr.specs.Families.{Family}
use Rattle.pol_addr.specs.Address.{Addr, V4, V6, addr_in, bits_of, read_addr, same_addr, width_of, ◌>>=◌}
use Rattle.pol_addr.specs.Cidr.{cleared}
pub use Rattle.pol_addr.specs.declared.network.Prefix.{Prefix}

-- the prefix of this length that the address lies in
abbrev pub prefix_of : Addr → ℕ → Prefix
prefix_of addr len = record { addr = cleared len addr; len = len }

-- the prefix that contains the address alone
abbrev pub host_prefix : Addr → Prefix
host_prefix addr = prefix_of addr (width_of addr)

-- the network address: the first of the prefix
abbrev pub network_of : Prefix → Addr
network_of p = p.addr

-- 0.0.0.0/0 or ::/0, in which every address of the family lies
abbrev pub world : Family → Prefix
world family = record { addr = addr_in family 0; len = 0 }

-- the address lies in the prefix: it is of its family, and its first `len` bits are those of the prefix
unfoldable pub contains : Prefix → Addr → Bool
contains p addr = same_addr (cleared p.len addr) p.addr

-- each address of the other prefix lies in this one: it is no longer, and the other begins with its bits
unfoldable pub covers : Prefix → Prefix → Bool
covers p other = nat_le p.len other.len && same_addr (cleared p.len other.addr) p.addr

-- the bit of an address at this place, counted from the left and from 0
abbrev pub bit_at : Addr → ℕ → Bool
bit_at addr place = bits_of addr / 2 ^ (width_of addr - 1 - place) % 2 == 1

-- the bit of a prefix at this place
abbrev pub bit_of : Prefix → ℕ → Bool
bit_of p place = bit_at p.addr place

-- the address that comes so many later in its family
abbrev pub later : ℕ → Addr → Addr
later count (V4 bits) = V4 (bits + count)
later count (V6 bits) = V6 (bits + count)

-- the half of a prefix whose next bit is this one
abbrev pub half : Prefix → Bool → Prefix
half p high = record { addr = later (if high then 2 ^ (width_of p.addr - 1 - p.len) else 0) p.addr; len = p.len + 1 }

-- one prefix
abbrev pub same_prefix : Prefix → Prefix → Bool
same_prefix p q = same_addr p.addr q.addr && (p.len == q.len)

-- a length of 0 to the most, in decimal without leading zeros
unfoldable pub read_len : ℕ → List ℕ → Option ℕ
read_len most text = do
  len ← whole_value (read_octet text)
  if nat_le len most then Some len else None

-- what stands before and after the first of this byte, where the text has one
abbrev pub cut_at : ℕ → List ℕ → Option (List ℕ × List ℕ)
cut_at byte [] = None
cut_at byte (x ∷ xs) = if x == byte then Some ([], xs) else option_map (λ parts. (x ∷ parts.0, parts.1)) (cut_at byte xs)

-- a bare address is a prefix of the greatest length
abbrev pub read_bare : List ℕ → Option Prefix
read_bare text = do
  addr ← read_addr text
  Some (host_prefix addr)

-- an address and a length; host bits are cleared (profile)
abbrev pub read_pair : List ℕ → List ℕ → Option Prefix
read_pair addr_text len_text = do
  addr ← read_addr addr_text
  len ← read_len (width_of addr) len_text
  Some (prefix_of addr len)

abbrev pub read_parts : List ℕ → Option (List ℕ × List ℕ) → Option Prefix
read_parts text None = read_bare text
read_parts text (Some parts) = read_pair parts.0 parts.1

-- The prefix that the text writes: an address, or an address, `/` and a length (RFC 4632, section 3.1; RFC 4291, section 2.3).
unfoldable pub read_prefix : List ℕ → Option Prefix
read_prefix text = read_parts text (cut_at 47 text)
