-- What a work's lists make of a policy map that has its table.
use Rattle.std.specs.Prelude.{◌≡◌, List}
use Rattle.std.specs.FinMap as finite
use Rattle.pol_trie.specs.PolicyMap.{PolicyMap}
use Rattle.pol_map_changes.specs.declared.change.Change.{Change}
use Rattle.pol_map_changes.specs.Changes.{IsDifference, changed, table_of}
use Rattle.pol_kept_map.specs.Work.{WorkOf, map_of}

-- a map that has the table of a work has that of the next one once the list between them is made, and no other entries
abbrev pub ListsLead : Type 0
ListsLead =
    (before after : WorkOf) (list : List Change) (trie : PolicyMap) → trie ≡ table_of (map_of before)
    → IsDifference list (table_of (map_of before)) (table_of (map_of after))
    → (changed list trie ≡ table_of (map_of after)) × (finite.entries (changed list trie) ≡ map_of after)
