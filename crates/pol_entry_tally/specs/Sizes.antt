-- How many keys a list of changes adds to a map, and how many it takes away.
use Rattle.std.specs.Prelude.{◌≡◌, ℕ, ◌+◌, Bool, not, ◌&&◌, List, Option, count_by, is_some, if◌then◌else◌}
use Rattle.pol_map_changes.specs.declared.change.Change.{Change}
use Rattle.pol_map_changes.specs.Changes.{key_of, kind_after}
use Rattle.pol_mapkey.specs.declared.Kind.{Kind}
use Rattle.pol_entry_tally.specs.Times.{Times, kind_of}

-- whether the key is cleared
abbrev pub is_clear : Change → Bool
is_clear c = not (is_some (kind_after c))

abbrev pub clear_count : List Change → ℕ
clear_count changes = count_by is_clear changes

-- whether a key is set that had no entry
abbrev pub is_new : Times → Change → Bool
is_new before c = is_some (kind_after c) && not (is_some (kind_of before (key_of c)))

abbrev pub new_count : Times → List Change → ℕ
new_count before changes = count_by (is_new before) changes

-- the size after a key that had the one kind, if any, has the other
abbrev pub Resizes : Option Kind → Option Kind → ℕ → ℕ → Type 0
Resizes before after old new = new + (if is_some before then 1 else 0) ≡ old + (if is_some after then 1 else 0)
