-- How a face's rows stand for the content of a board.
use Rattle.std.specs.Prelude.{⊤, ◌≡◌, ℕ, ◌+◌, ◌≤◌, ◌⊎◌, true, false, List, [], Option, None, Some}
use Rattle.std.specs.Arc.{arc_value}
use Rattle.std.specs.FinMap as finite
use Rattle.indexmap.specs.IndexMap.{IndexMap, get}
use Rattle.pol_addr.specs.declared.address.Addr.{Addr}
use Rattle.pol_prefixes.specs.AddressTable.{AddressTable, number_in}
use Rattle.pol_data.specs.contracts.text.TextPartialEq.TheImpl as text
use Rattle.pol_map_changes.specs.declared.change.Change.{Change}
use Rattle.pol_map_changes.specs.Changes.{IsAscending, changed, set_count}
use Rattle.pol_mapkey.specs.Entries.{Entry as MapEntry}
use Rattle.pol_model.specs.declared.request.Remote.{Remote}
use Rattle.pol_model.specs.declared.request.Remote.TheVariants.{Identity, Address}
use Rattle.pol_trie.specs.PolicyMap.{PolicyMap}
use Rattle.pol_history.specs.Content.{BoardRow, PublishedMap}
use Rattle.pol_board_view.specs.declared.row.FaceRow.{FaceRow}
use Rattle.pol_board_view.specs.declared.row.FaceMap.{FaceMap}

-- the number that a remote had at the map's revision
abbrev pub number_then : FaceMap → Remote → ℕ
number_then shown (Identity number) = number
number_then shown (Address address) = number_in address (arc_value shown.addresses)

-- ---- what rows hold

-- it is the published map
pub record IsMap (shown : FaceMap) (map : PublishedMap) : Type 0 where
  pub revision : shown.revision ≡ map.revision
  pub table : finite.entries shown.trie ≡ map.table
  pub numbers : (address : Addr) → number_in address (arc_value shown.addresses) ≡ map.numbers address

-- A map that is whole is the published one.
abbrev pub HoldsMap : Option FaceMap → Option PublishedMap → Type 0
HoldsMap None None = ⊤
HoldsMap None (Some map) = ⊥
HoldsMap (Some shown) None = ⊥
HoldsMap (Some shown) (Some map) = shown.whole ≡ true → IsMap shown map

pub record IsHeld (row : FaceRow) (held : BoardRow) : Type 0 where
  pub added : row.added ≡ held.added
  pub report : row.report ≡ held.report
  pub map : HoldsMap row.map held.map

abbrev pub HoldsRow : Option FaceRow → Option BoardRow → Type 0
HoldsRow None None = ⊤
HoldsRow None (Some held) = ⊥
HoldsRow (Some row) None = ⊥
HoldsRow (Some row) (Some held) = IsHeld row held

-- the rows hold the live endpoints, by name
pub record Holds {S : Type 0} (rows : IndexMap (List ℕ) FaceRow S) (live : List ℕ → Option BoardRow) : Type 0 where
  pub each : (name : List ℕ) → HoldsRow (get text.ghosts.eq rows name) (live name)

-- ---- publications

-- the entries of a published map, none where there is none
abbrev pub table_in : Option PublishedMap → List MapEntry
table_in None = []
table_in (Some map) = map.table

-- the changes lead from a table to another
abbrev pub Leads : List Change → List MapEntry → List MapEntry → Type 0
Leads changes before after = (table : PolicyMap) → finite.entries table ≡ before → finite.entries (changed changes table) ≡ after

-- the changes make the new map of the one before, and the addresses are those of its revision
pub record ChangesMap (changes : List Change) (addresses : AddressTable) (revision : ℕ) (before : Option PublishedMap) (new : PublishedMap) : Type 0 where
  pub revision_is : revision ≡ new.revision
  pub leads : Leads changes (table_in before) new.table
  pub numbers : (address : Addr) → number_in address addresses ≡ new.numbers address

-- the row after that map was published, after so many commits
abbrev pub row_with : ℕ → ℕ → PublishedMap → BoardRow → BoardRow
row_with commits revision map row =
    record { added = row.added; report = Some (record { revision = revision; commits = commits; published = Some revision }); map = Some map }

-- A trie has room for what the changes set, where each key stands once among them. What they clear needs none.
abbrev pub HasRoom : Option FaceMap → List Change → Type 0
HasRoom None changes = IsAscending changes → set_count changes ≤ 1000000
HasRoom (Some shown) changes = shown.whole ≡ true → IsAscending changes → finite.len shown.trie + set_count changes ≤ 1000000

abbrev pub RowHasRoom : Option FaceRow → List Change → Type 0
RowHasRoom None changes = ⊤
RowHasRoom (Some row) changes = HasRoom row.map changes

-- all changes were made
pub record IsShownMore (old new : FaceMap) (changes : List Change) (addresses : AddressTable) (revision : ℕ) : Type 0 where
  pub was_whole : old.whole ≡ true
  pub revision_is : new.revision ≡ revision
  pub trie : new.trie ≡ changed changes old.trie
  pub addresses_are : arc_value new.addresses ≡ addresses

-- some of them were made, and the map isn't whole, or none was
abbrev pub IsShownLess : FaceMap → FaceMap → Type 0
IsShownLess old new = (new ≡ old) ⊎ (new.whole ≡ false)

-- they were made in an empty map
pub record IsShownFirst (shown : FaceMap) (changes : List Change) (addresses : AddressTable) (revision : ℕ) : Type 0 where
  pub revision_is : shown.revision ≡ revision
  pub trie : shown.trie ≡ changed changes finite.empty
  pub addresses_are : arc_value shown.addresses ≡ addresses
