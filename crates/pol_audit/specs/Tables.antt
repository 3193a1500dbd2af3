-- Tables: the entries of a policy map in the order of their keys.
use Rattle.std.specs.Prelude.{ℕ, Bool, ◌&&◌, ◌==◌, List}
use Rattle.std.specs.List.{list_any}
use Rattle.std.specs.List.Sorted.{IsStrictlySortedBy}
use Rattle.std.specs.declared.cmp.Ordering.{Ordering}
use Rattle.pol_ports.specs.declared.Direction.{Direction}
use Rattle.pol_ports.specs.Direction.{same_direction}
use Rattle.pol_mapkey.specs.Entries.{Entry}
use Rattle.pol_mapkey.specs.MapKey.{key_cmp}

-- entries by their keys
abbrev pub entry_order : Entry → Entry → Ordering
entry_order a b = key_cmp a.0 b.0

-- each entry stands before those after it, so each key stands once
abbrev pub IsTable : List Entry → Type 0
IsTable entries = IsStrictlySortedBy entry_order entries

-- whether the entry's key is of that direction and number
abbrev pub is_at : Direction → ℕ → Entry → Bool
is_at dir id e = same_direction e.0.dir dir && (e.0.id == id)

-- whether some key of that direction has the number
abbrev pub stands : Direction → ℕ → List Entry → Bool
stands dir id entries = list_any (is_at dir id) entries
