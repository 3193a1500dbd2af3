-- The first range of a difference, without those behind it.
use Rattle.std.specs.Prelude.{◌≡◌, ◌<◌, ℕ, List, Option}
use Rattle.std.specs.List.{All, flat_map, slice_get}
use Rattle.pol_ports.specs.declared.Direction.{Direction}
use Rattle.pol_mapkey.specs.Entries.{Entry}
use Rattle.pol_audit.specs.declared.difference.Difference.{Difference}
use Rattle.pol_audit.specs.declared.group.Group.{Group}
use Rattle.pol_audit.specs.Exact.{AreNumbers, AreOf, groups_at}

-- ports have 16 bits, as a program's have
abbrev pub AreSmall : List Entry → Type 0
AreSmall entries = All (λ (e : Entry). e.0.port.bits < 65536) entries

-- the difference on the packets of these groups begins with this range, or there is none
pub record IsFirstOf (left right : List Entry) (groups : List Group) (first : Option Difference) : Type 0 where
  pub list : List Difference
  pub are : AreOf left right groups list
  pub head : slice_get list 0 ≡ first

-- the same on those of a direction
pub record IsFirstIn (left right : List Entry) (dir : Direction) (first : Option Difference) : Type 0 where
  pub numbers : List ℕ
  pub are : AreNumbers left right dir numbers
  pub first_of : IsFirstOf left right (flat_map (groups_at dir) numbers) first
