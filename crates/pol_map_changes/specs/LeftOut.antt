-- The changes that matter where a table has only keys that a base names. No public clause cites this module.
use Rattle.std.specs.Prelude.{Bool, true, List, is_some}
use Rattle.pol_map_changes.specs.declared.change.Change.{Change}
use Rattle.pol_map_changes.specs.declared.change.Change.TheVariants.{Set, Clear}
use Rattle.pol_map_changes.specs.Changes.{said}

-- a key that is set, or a key that is cleared and named
abbrev pub matters : List Change → Change → Bool
matters base (Set key kind) = true
matters base (Clear key) = is_some (said base key)
