-- Lists of changes of a policy map: what a list says of a key, what it makes of a table, and when it is the difference of
-- two tables. A table is a finite map from keys to kinds, as `PolicyTrie` is seen.
use Rattle.std.specs.Prelude.{◌≡◌, ℕ, ◌+◌, ◌≤◌, Bool, true, false, List, [], ◌∷◌, length, map, take, count_by, is_some, Option, Some, None, if◌then◌else◌}
use Rattle.std.specs.FinMap as finite
use Rattle.std.specs.List.Sorted.{IsStrictlySortedBy}
use Rattle.std.specs.declared.cmp.Ordering.{Ordering}
use Rattle.pol_mapkey.specs.Entries.{Entry}
use Rattle.pol_mapkey.specs.MapKey.{key_cmp}
use Rattle.pol_mapkey.specs.declared.Kind.{Kind}
use Rattle.pol_mapkey.specs.declared.Kind.TheVariants.{Allow, Deny}
use Rattle.pol_mapkey.specs.declared.MapKey.{MapKey}
use Rattle.pol_trie.specs.PolicyMap.{PolicyMap}
use Rattle.pol_map_changes.specs.declared.change.Change.{Change}
use Rattle.pol_map_changes.specs.declared.change.Change.TheVariants.{Set, Clear}

-- the key of a change, and the kind that the key has afterwards, if any
abbrev pub key_of : Change → MapKey
key_of (Set key kind) = key
key_of (Clear key) = key

abbrev pub kind_after : Change → Option Kind
kind_after (Set key kind) = Some kind
kind_after (Clear key) = None

-- changes by their keys
abbrev pub change_order : Change → Change → Ordering
change_order a b = key_cmp (key_of a) (key_of b)

-- each change stands before those of higher keys, so each key stands once
abbrev pub IsAscending : List Change → Type 0
IsAscending changes = IsStrictlySortedBy change_order changes

-- what the changes say of a key: nothing, or the kind that it has afterwards, if any
abbrev pub said : List Change → MapKey → Option (Option Kind)
said changes key = finite.find key_cmp key (map (λ c. (key_of c, kind_after c)) changes)

-- ---- what changes make of a table
-- `Set` puts the key with its kind or gives it another kind, `Clear` takes it out
abbrev pub changed_once : Change → PolicyMap → PolicyMap
changed_once (Set key kind) table = finite.insert table key kind
changed_once (Clear key) table = finite.remove table key

abbrev pub changed : List Change → PolicyMap → PolicyMap
changed [] table = table
changed (c ∷ cs) table = changed cs (changed_once c table)

-- only some of the changes were made, from the first on
abbrev pub IsChangedPartly : List Change → PolicyMap → PolicyMap → Type 0
IsChangedPartly changes before now = (made : ℕ) × (now ≡ changed (take made changes) before)

-- how many changes put a key or give it another kind
abbrev pub set_count : List Change → ℕ
set_count changes = count_by (λ c. is_some (kind_after c)) changes

-- ---- changes of the keys of a base
-- the table has no other keys than those that the base names
abbrev pub HasOnlyKeysOf : List Change → PolicyMap → Type 0
HasOnlyKeysOf base table = (key : MapKey) → said base key ≡ None → finite.get table key ≡ None

-- beside what is set, no more changes than the base has
abbrev pub AreFew : List Change → List Change → Type 0
AreFew base changes = length changes ≤ length base + set_count changes

-- ---- the difference of two tables
abbrev pub same_kind : Kind → Kind → Bool
same_kind Allow Allow = true
same_kind Allow Deny = false
same_kind Deny Allow = false
same_kind Deny Deny = true

-- What the difference says of a key that has the one kind before and the other after, if any: its later kind where it
-- has another one then or is new, that it is cleared where it is gone, and nothing where both are the same.
abbrev pub difference_at : Option Kind → Option Kind → Option (Option Kind)
difference_at None None = None
difference_at None (Some after) = Some (Some after)
difference_at (Some before) None = Some None
difference_at (Some before) (Some after) = if same_kind before after then None else Some (Some after)

-- the changes are exactly those between the tables, in key order
pub record IsDifference (changes : List Change) (before after : PolicyMap) : Type 0 where
  pub ascending : IsAscending changes
  pub exact : (key : MapKey) → said changes key ≡ difference_at (finite.get before key) (finite.get after key)

-- ---- tables as lists of their entries
-- the table of these entries
abbrev pub table_of : List Entry → PolicyMap
table_of entries = finite.from_entries entries

-- `Set` of each entry
abbrev pub whole : List Entry → List Change
whole entries = map (λ e. Set e.0 e.1) entries
