-- What an address is, and what a text reads as.
use Rattle.std.specs.Prelude.{ℕ, ◌+◌, ◌*◌, ◌^◌, ◌<◌, Bool, false, ◌==◌, List, slice_index, Option, Some, None, option_and_then, if◌then◌else◌}
use Rattle.std.specs.List.{list_any}
use Rattle.std.specs.Net.Reader.{read_ipv4, read_ipv6, whole_value, dot}
use Rattle.pol_addr.specs.Families.{Family, Ipv4, Ipv6, width}
pub use Rattle.pol_addr.specs.declared.address.Addr.{Addr}
pub use Rattle.pol_addr.specs.declared.address.Addr.TheVariants.{V4, V6}

-- `?`: the second step, where the first gives a value
infixl 10 ◌>>=◌
abbrev pub ◌>>=◌ : {A B : Type 0} → Option A → (A → Option B) → Option B
o >>= f = option_and_then f o

-- the family of an address
abbrev pub family_of : Addr → Family
family_of (V4 bits) = Ipv4
family_of (V6 bits) = Ipv6

-- its bits as one number, the first one highest
abbrev pub bits_of : Addr → ℕ
bits_of (V4 bits) = bits
bits_of (V6 bits) = bits

-- how many bits it has
abbrev pub width_of : Addr → ℕ
width_of addr = width (family_of addr)

-- the numbers that are an address
abbrev pub IsAddr : Addr → Type 0
IsAddr addr = bits_of addr < 2 ^ width_of addr

-- the address of these bits in a family
abbrev pub addr_in : Family → ℕ → Addr
addr_in Ipv4 bits = V4 bits
addr_in Ipv6 bits = V6 bits

-- one address
abbrev pub same_addr : Addr → Addr → Bool
same_addr (V4 a) (V4 b) = a == b
same_addr (V4 a) (V6 b) = false
same_addr (V6 a) (V4 b) = false
same_addr (V6 a) (V6 b) = a == b

-- the IPv4 address of four octets, the first one highest
abbrev pub addr_of_octets : ℕ → ℕ → ℕ → ℕ → Addr
addr_of_octets a b c d = V4 (((a * 256 + b) * 256 + c) * 256 + d)

-- eight groups of 16 bits as one number, the first one highest
abbrev pub bits_of_groups : ℕ → ℕ → ℕ → ℕ → ℕ → ℕ → ℕ → ℕ → ℕ
bits_of_groups a b c d e f g h = ((((((a * 65536 + b) * 65536 + c) * 65536 + d) * 65536 + e) * 65536 + f) * 65536 + g) * 65536 + h

-- the IPv6 address of eight groups
abbrev pub addr_of_groups : List ℕ → Addr
addr_of_groups gs = V6 (bits_of_groups (slice_index gs 0) (slice_index gs 1) (slice_index gs 2) (slice_index gs 3) (slice_index gs 4) (slice_index gs 5) (slice_index gs 6) (slice_index gs 7))

-- The IPv4 address that the whole text writes as four octets joined by dots.
unfoldable pub read_v4 : List ℕ → Option Addr
read_v4 text = do
  octets ← whole_value (read_ipv4 text)
  Some (addr_of_octets (slice_index octets 0) (slice_index octets 1) (slice_index octets 2) (slice_index octets 3))

-- whether a byte of the text is a dot
abbrev pub has_dot : List ℕ → Bool
has_dot text = list_any (λ byte. byte == dot) text

-- The IPv6 address that the whole text writes as groups. It has no dot: an IPv4 address at its end isn't read (profile).
unfoldable pub read_v6 : List ℕ → Option Addr
read_v6 text = if has_dot text then None else (do
  groups ← whole_value (read_ipv6 text)
  Some (addr_of_groups groups))

-- the first that is there
abbrev pub or_else : Option Addr → Option Addr → Option Addr
or_else (Some addr) other = Some addr
or_else None other = other

-- The address that the whole text writes.
unfoldable pub read_addr : List ℕ → Option Addr
read_addr text = or_else (read_v4 text) (read_v6 text)
