-- Two ascending lists of changes as one. No public clause cites this module.
use Rattle.std.specs.Prelude.{List, [], ◌∷◌}
use Rattle.std.specs.FinMap.Entries.{by_order}
use Rattle.pol_map_changes.specs.declared.change.Change.{Change}
use Rattle.pol_map_changes.specs.Changes.{change_order}

-- a change before the rest of the earlier list, merged with the later list
abbrev pub merged_from : Change → (List Change → List Change) → List Change → List Change
merged_from c rest [] = c ∷ rest []
merged_from c rest (d ∷ ds) = by_order (change_order c d) (c ∷ rest (d ∷ ds)) (d ∷ rest ds) (d ∷ merged_from c rest ds)

-- in key order, of two changes of a key the later list's
abbrev pub merged : List Change → List Change → List Change
merged [] later = later
merged (c ∷ cs) later = merged_from c (merged cs) later
