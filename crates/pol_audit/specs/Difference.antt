-- The difference of two tables: ranges of packets on which they differ.
use Rattle.std.specs.Prelude.{◌≡◌, ◌≢◌, ◌+◌, ◌<◌, ◌≤◌, ◌^◌, ℕ, Bool, not, ◌||◌, ◌==◌, List, [], ◌∷◌, IsTrue}
use Rattle.std.specs.List.{AllByRecursion, Contains}
use Rattle.pol_ports.specs.declared.Direction.{Direction}
use Rattle.pol_ports.specs.declared.Proto.{Proto}
use Rattle.pol_mapkey.specs.declared.Word.{Word}
use Rattle.pol_mapkey.specs.Entries.{Entry}
use Rattle.pol_audit.specs.declared.difference.Difference.{Difference}
use Rattle.pol_audit.specs.declared.difference.Numbers.{Numbers}
use Rattle.pol_audit.specs.declared.difference.Numbers.TheVariants.{EveryOther, One}
use Rattle.pol_audit.specs.Packets.{ComesBefore, words}
use Rattle.pol_audit.specs.Tables.{stands}

-- Whether the number is among them. Every other number is 0, and each that stands in neither table.
abbrev pub has_number : List Entry → List Entry → Direction → Numbers → ℕ → Bool
has_number left right dir EveryOther id = (id == 0) || not (stands dir id left || stands dir id right)
has_number left right dir (One number) id = id == number

-- the least number among them
abbrev pub least_number : Numbers → ℕ
least_number EveryOther = 0
least_number (One number) = number

-- the packet lies in the range
pub record LiesIn (left right : List Entry) (d : Difference) (dir : Direction) (id : ℕ) (proto : Proto) (port : ℕ) : Type 0 where
  pub direction : d.dir ≡ dir
  pub number : IsTrue (has_number left right dir d.numbers id)
  pub protocol : d.proto ≡ proto
  pub from : d.first ≤ port
  pub to : port ≤ d.last

-- a number that is named stands in a table, and isn't 0
abbrev pub IsNamed : List Entry → List Entry → Direction → Numbers → Type 0
IsNamed left right dir EveryOther = Unit {0}
IsNamed left right dir (One number) = (0 < number) × IsTrue (stands dir number left || stands dir number right)

-- what the range says is so: its ports are ports, and on each of its packets the tables say its two words, which differ
pub record IsTold (left right : List Entry) (d : Difference) : Type 0 where
  pub ordered : d.first ≤ d.last
  pub ports : d.last < 2 ^ 16
  pub named : IsNamed left right d.dir d.numbers
  pub said : (dir : Direction) (id : ℕ) (proto : Proto) (port : ℕ) → LiesIn left right d dir id proto port → words left right dir id proto port ≡ (d.left, d.right)
  pub differ : d.left ≢ d.right

-- the ports of the first are below those of the second, and where the two touch they don't say the same two words
abbrev pub IsBelow : Difference → Difference → Type 0
IsBelow d e = (d.last < e.first) × (d.last + 1 ≡ e.first → d.left ≡ e.left → d.right ≢ e.right)

-- the first range comes before the second
abbrev pub IsBefore : Difference → Difference → Type 0
IsBefore d e = ComesBefore d.dir (least_number d.numbers) d.proto e.dir (least_number e.numbers) e.proto (IsBelow d e)

-- each range comes before all that follow
unfoldable pub Ascend : List Difference → Type 0
Ascend [] = Unit {0}
Ascend (d ∷ list) = AllByRecursion (IsBefore d) list × Ascend list

-- the list is the whole difference: each range says what is so, each packet on which the tables differ lies in one, and they
-- are in order
pub record IsDifference (left right : List Entry) (list : List Difference) : Type 0 where
  pub told : (d : Difference) → Contains list d → IsTold left right d
  pub whole : (dir : Direction) (id : ℕ) (proto : Proto) (port : ℕ) → port < 2 ^ 16
      → (let said : Word × Word = words left right dir id proto port in said.0 ≢ said.1)
      → (d : Difference) × Contains list d × LiesIn left right d dir id proto port
  pub ascend : Ascend list
