-- The changes from one map to another where no list of what differs is kept.
use Rattle.std.specs.Prelude.{List, [], map, Option, None, Some}
use Rattle.pol_kept_map.specs.Work.{WorkOf, map_of}
use Rattle.pol_map_changes.specs.declared.change.Change.{Change}
use Rattle.pol_map_changes.specs.declared.change.Change.TheVariants.{Clear}
use Rattle.pol_map_changes.specs.Changes.{key_of, whole}
use Rattle.pol_map_changes.specs.Merged.{merged}
use Rattle.pol_mapkey.specs.Entries.{Entry}
use Rattle.pol_slot_map.specs.declared.pending.Form.{Form}
use Rattle.pol_slot_map.specs.declared.pending.Form.TheVariants.{Listed, Between}

-- the key of the change is cleared
abbrev pub clear_of : Change → Change
clear_of change = Clear (key_of change)

-- `Clear` of the key of each entry
abbrev pub cleared : List Entry → List Change
cleared entries = map clear_of (whole entries)

-- each key of the one map is cleared, and each entry of the other set
abbrev pub renewed : List Entry → List Entry → List Change
renewed before after = merged (cleared before) (whole after)

-- the entries of a map, of none where there is none
abbrev pub entries_of : Option WorkOf → List Entry
entries_of None = []
entries_of (Some work) = map_of work

-- the changes of either form
abbrev pub list_of : Form → List Change
list_of (Listed list) = list
list_of (Between base work) = renewed (entries_of base) (map_of work)
