-- The one text that is printed of an address and of a prefix.
use Rattle.std.specs.Prelude.{ℕ, ◌/◌, ◌%◌, ◌^◌, List, [], ◌∷◌, ◌++◌, codes}
use Rattle.std.specs.Fmt.{decimal}
use Rattle.std.specs.Net.Text.{ipv4_text, hex_groups_text}
use Rattle.pol_addr.specs.Address.{Addr, V4, V6}
use Rattle.pol_addr.specs.Prefix.{Prefix}

-- the group of 16 bits that has so many bits behind it
abbrev pub group_at : ℕ → ℕ → ℕ
group_at behind bits = bits / 2 ^ behind % 65536

-- the eight groups of 128 bits
abbrev pub groups_of : ℕ → List ℕ
groups_of bits = group_at 112 bits ∷ group_at 96 bits ∷ group_at 80 bits ∷ group_at 64 bits ∷ group_at 48 bits ∷ group_at 32 bits ∷ group_at 16 bits ∷ group_at 0 bits ∷ []

-- the four octets of 32 bits
abbrev pub octets_of : ℕ → List ℕ
octets_of bits = (bits / 16777216) ∷ (bits / 65536 % 256) ∷ (bits / 256 % 256) ∷ (bits % 256) ∷ []

-- An IPv4 address as four octets. An IPv6 address as its groups in small letters without leading zeros, and `::` for the longest
-- run of two or more groups of zeros, the first of such runs (RFC 5952, section 4); no address ends in an IPv4 address.
abbrev pub addr_text : Addr → List ℕ
addr_text (V4 bits) = ipv4_text (octets_of bits)
addr_text (V6 bits) = hex_groups_text (groups_of bits)

-- the network address, a slash and the length
abbrev pub prefix_text : Prefix → List ℕ
prefix_text p = addr_text p.addr ++ codes "/" ++ decimal p.len
