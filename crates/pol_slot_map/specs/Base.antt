-- The map that was published last, and how many changes may lead on from it.
use Rattle.std.specs.Prelude.{◌+◌, ◌*◌, ◌≤◌, List, [], length}
use Rattle.pol_kept_map.specs.Work.{WorkOf, map_of}
use Rattle.pol_map_changes.specs.declared.change.Change.{Change}
use Rattle.pol_mapkey.specs.Entries.{Entry}
use Rattle.pol_slot_map.specs.declared.base.Base.{Base}
use Rattle.pol_slot_map.specs.declared.base.Base.TheVariants.{Nothing, Own, Of}

-- its entries, beside this work
abbrev pub entries_in : Base → WorkOf → List Entry
entries_in Nothing work = []
entries_in Own work = map_of work
entries_in (Of origin) work = map_of origin

-- at most twice as many changes as the two maps have entries
abbrev pub IsFew : List Change → List Entry → List Entry → Type 0
IsFew changes before after = length changes ≤ 2 * (length before + length after)
