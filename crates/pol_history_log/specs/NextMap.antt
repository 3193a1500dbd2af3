-- The map that an endpoint is to have next.
use Rattle.std.specs.Prelude.{List, Option, None, Some}
use Rattle.std.specs.FinMap as finite
use Rattle.pol_mapkey.specs.Entries.{Entry as MapEntry}
use Rattle.pol_trie.specs.PolicyMap.{PolicyMap}
use Rattle.pol_map_changes.specs.Changes.{changed}
use Rattle.pol_map_changes.specs.declared.change.Change.{Change}

-- the map that was published last, the empty one where there is none
abbrev pub map_before : Option PolicyMap → PolicyMap
map_before None = finite.empty
map_before (Some last) = last

-- the entries that the changes make of it
abbrev pub next_entries : Option PolicyMap → List Change → List MapEntry
next_entries last changes = finite.entries (changed changes (map_before last))
