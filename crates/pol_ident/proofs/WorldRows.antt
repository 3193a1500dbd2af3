-- The rows of the worlds among the reserved ones.
use Rattle.std.proofs.Common.{◌≡◌, true, Some, refl, arith}
use Rattle.std.specs.List.{Contains}
use Rattle.pol_addr.specs.Prefix.{world}
use Rattle.pol_addr.specs.declared.family.Family.{Family}
use Rattle.pol_addr.specs.declared.family.Family.TheVariants.{Ipv4, Ipv6}
use Rattle.pol_model.specs.declared.row.IdentityRow.{IdentityRow}
use Rattle.pol_model.specs.Identities.{is_reserved, reserved_identities, reserved_row}
use Rattle.pol_model.specs.Worlds.{world_in}

pub world-reserved : (f : Family) → is_reserved (world_in f).identity ≡ true
world-reserved Ipv4 = refl
world-reserved Ipv6 = refl

abbrev pub world_row : Family → IdentityRow
world_row f = reserved_row (world_in f).identity (world_in f).name

pub world-there : (f : Family) → Contains reserved_identities (world_row f)
world-there Ipv4 = (8, omega arith, refl)
world-there Ipv6 = (9, omega arith, refl)

pub world-prefix : (f : Family) → (world_row f).prefix ≡ Some (world f)
world-prefix Ipv4 = refl
world-prefix Ipv6 = refl
