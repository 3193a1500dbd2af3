-- A prefix as contracts see it, and what clears the host bits of an address.
use Rattle.std.specs.Prelude.{◌≡◌, ℕ, ◌-◌, ◌*◌, ◌/◌, ◌^◌, ◌≤◌}
use Rattle.pol_addr.specs.Address.{Addr, V4, V6, IsAddr, width_of}

-- the network address, and how many of its first bits are the network's (RFC 4632, section 3.1; RFC 4291, section 2.3)
pub record Cidr : Type 0 where
  pub addr : Addr
  pub len : ℕ

-- the first `len` of so many bits, and zeros in place of the host bits
unfoldable pub network : ℕ → ℕ → ℕ → ℕ
network width len bits = bits / 2 ^ (width - len) * 2 ^ (width - len)

-- the address with its first `len` bits, and zeros in place of the host bits
abbrev pub cleared : ℕ → Addr → Addr
cleared len (V4 bits) = V4 (network 32 len bits)
cleared len (V6 bits) = V6 (network 128 len bits)

-- what is true of each prefix
pub record IsPrefix (p : Cidr) : Type 0 where
  pub len_in_range : p.len ≤ width_of p.addr
  pub addr_in_range : IsAddr p.addr
  pub host_bits_clear : cleared p.len p.addr ≡ p.addr
