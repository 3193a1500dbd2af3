-- The two families of addresses.
use Rattle.std.specs.Prelude.{ℕ}
pub use Rattle.pol_addr.specs.declared.family.Family.{Family}
pub use Rattle.pol_addr.specs.declared.family.Family.TheVariants.{Ipv4, Ipv6}

-- how many bits an address has (RFC 791, section 3.1; RFC 4291, section 2)
abbrev pub width : Family → ℕ
width Ipv4 = 32
width Ipv6 = 128
