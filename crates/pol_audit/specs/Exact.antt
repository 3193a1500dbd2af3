-- What a list of ranges has to do with the packets of some groups: of a direction, number and protocol each.
use Rattle.std.specs.Prelude.{◌≡◌, ◌≢◌, ◌<◌, ◌≤◌, ◌^◌, ◌⊎◌, ◌↔◌, ◌||◌, IsTrue, ℕ, List, [], ◌∷◌, ◌++◌}
use Rattle.std.specs.List.{Contains, flat_map}
use Rattle.pol_ports.specs.declared.Direction.{Direction}
use Rattle.pol_ports.specs.declared.Proto.TheVariants.{Tcp, Udp, Sctp}
use Rattle.pol_mapkey.specs.declared.Word.{Word}
use Rattle.pol_mapkey.specs.Entries.{Entry}
use Rattle.pol_audit.specs.declared.difference.Difference.{Difference}
use Rattle.pol_audit.specs.declared.group.Group.{Group}
use Rattle.pol_audit.specs.Difference.{Ascend}
use Rattle.pol_audit.specs.Extent.{part_of}
use Rattle.pol_audit.specs.Kinds.{numbered, own_of}
use Rattle.pol_audit.specs.Packets.{words}
use Rattle.pol_audit.specs.Ranges.{numbers_of}
use Rattle.pol_audit.specs.Tables.{IsTable, stands}

abbrev pub words_of : List Entry → List Entry → Group → ℕ → Word × Word
words_of left right group port = words left right group.dir group.id group.proto port

-- the range is of the group
pub record IsOf (group : Group) (d : Difference) : Type 0 where
  pub dir : d.dir ≡ group.dir
  pub numbers : d.numbers ≡ numbers_of group.id
  pub proto : d.proto ≡ group.proto

-- the range tells what the tables say of the group's packets there, and there they differ
pub record Tells (left right : List Entry) (group : Group) (d : Difference) : Type 0 where
  pub of : IsOf group d
  pub ordered : d.first ≤ d.last
  pub ports : d.last < 2 ^ 16
  pub said : (port : ℕ) → d.first ≤ port → port ≤ d.last → words_of left right group port ≡ (d.left, d.right)
  pub differ : d.left ≢ d.right

-- a range of the list has the group's packet of that port
abbrev pub Found : Group → ℕ → List Difference → Type 0
Found group port list = (d : Difference) × Contains list d × IsOf group d × (d.first ≤ port) × (port ≤ d.last)

-- the list is the difference on the packets of these groups
pub record AreOf (left right : List Entry) (groups : List Group) (list : List Difference) : Type 0 where
  pub each : (d : Difference) → Contains list d → (group : Group) × Contains groups group × Tells left right group d
  pub whole : (group : Group) → Contains groups group → (port : ℕ) → port < 2 ^ 16
      → (let said : Word × Word = words_of left right group port in said.0 ≢ said.1) → Found group port list
  pub ascend : Ascend list

-- the second list is the first and the difference on the packets of these groups
abbrev pub Grown : List Entry → List Entry → List Group → List Difference → List Difference → Type 0
Grown left right groups old new = (made : List Difference) × (new ≡ old ++ made) × AreOf left right groups made

-- the groups of a direction and number, in order
abbrev pub groups_at : Direction → ℕ → List Group
groups_at dir id =
    record { dir = dir; id = id; proto = Tcp } ∷ record { dir = dir; id = id; proto = Udp } ∷ record { dir = dir; id = id; proto = Sctp } ∷ []

-- the entries of a direction and of a number or 0 are among these
abbrev pub AreAmong : Direction → ℕ → List Entry → List Entry → List Entry → Type 0
AreAmong dir id entries own every = (e : Entry) → Contains entries e → e.0.dir ≡ dir → (e.0.id ≡ id) ⊎ (e.0.id ≡ 0) → Contains own e ⊎ Contains every e

-- the entries of a direction, of its number and of 0 in a table
pub record IsSplit (dir : Direction) (id : ℕ) (own every entries : List Entry) : Type 0 where
  pub table : IsTable entries
  pub own_is : own ≡ own_of id (part_of dir entries)
  pub every_is : every ≡ numbered 0 (part_of dir entries)

-- the entries of a direction in a table
abbrev pub IsPart : Direction → List Entry → List Entry → Type 0
IsPart dir part entries = IsTable entries × (part ≡ part_of dir entries)

-- these are 0 and the numbers of either table in the direction
abbrev pub AreNumbers : List Entry → List Entry → Direction → List ℕ → Type 0
AreNumbers left right dir numbers = (n : ℕ) → Contains numbers n ↔ ((n ≡ 0) ⊎ IsTrue (stands dir n left || stands dir n right))

-- the second list is the first and the difference on the packets of a direction, 0 standing for every number of neither table
abbrev pub GrownIn : List Entry → List Entry → Direction → List Difference → List Difference → Type 0
GrownIn left right dir old new = (numbers : List ℕ) × AreNumbers left right dir numbers × Grown left right (flat_map (groups_at dir) numbers) old new
