-- The laws of change lists.
use Rattle.std.specs.Prelude.{◌≡◌, ◌↔◌, List, [], ◌∷◌}
use Rattle.std.specs.FinMap as finite
use Rattle.std.specs.List.Sorted.{IsStrictlySortedBy}
use Rattle.std.specs.Option.{option_or}
use Rattle.std.specs.declared.cmp.Ordering.TheVariants.{Less}
use Rattle.pol_mapkey.specs.Entries.{Entry}
use Rattle.pol_mapkey.specs.MapKey.{key_cmp}
use Rattle.pol_mapkey.specs.declared.Kind.TheVariants.{Allow, Deny}
use Rattle.pol_mapkey.specs.declared.MapKey.{MapKey}
use Rattle.pol_trie.specs.PolicyMap.{PolicyMap}
use Rattle.pol_map_changes.specs.declared.change.Change.{Change}
use Rattle.pol_map_changes.specs.declared.change.Change.TheVariants.{Set, Clear}
use Rattle.pol_map_changes.specs.Changes.{IsAscending, IsChangedPartly, IsDifference, changed, said, table_of, whole}

-- lists that say the same of each key are the same
abbrev pub ListsAreWhatTheySay : Type 0
ListsAreWhatTheySay = (one other : List Change) → IsAscending one → IsAscending other → ((key : MapKey) → said one key ≡ said other key) → one ≡ other

-- two tables have at most one difference
abbrev pub DifferencesAreUnique : Type 0
DifferencesAreUnique = (one other : List Change) (before after : PolicyMap) → IsDifference one before after → IsDifference other before after → one ≡ other

-- the difference makes the one table the other
abbrev pub DifferencesLead : Type 0
DifferencesLead = (changes : List Change) (before after : PolicyMap) → IsDifference changes before after → changed changes before ≡ after

-- the difference is empty exactly where the tables are the same
abbrev pub NoneDiffers : Type 0
NoneDiffers = (changes : List Change) (before after : PolicyMap) → IsDifference changes before after → (changes ≡ []) ↔ (before ≡ after)

-- `Set` of each entry of a table is its difference from the empty one
abbrev pub WholeIsDifference : Type 0
WholeIsDifference =
    (entries : List Entry) → IsStrictlySortedBy (λ a b. key_cmp a.0 b.0) entries → IsDifference (whole entries) finite.empty (table_of entries)

-- the table of entries in key order has just these entries
abbrev pub TablesHaveTheirEntries : Type 0
TablesHaveTheirEntries = (entries : List Entry) → IsStrictlySortedBy (λ a b. key_cmp a.0 b.0) entries → finite.entries (table_of entries) ≡ entries

-- where only some of the changes were made, all of them once more make what they would have made
abbrev pub ChangesMayBeMadeAgain : Type 0
ChangesMayBeMadeAgain = (changes : List Change) (before now : PolicyMap) → IsAscending changes → IsChangedPartly changes before now → changed changes now ≡ changed changes before

-- ---- an example
-- One list sets a key, and a later one clears it and sets a higher key: joined they clear the one and set the other.
abbrev pub LaterChangeStands : Type 0
LaterChangeStands =
    (low high : MapKey) → key_cmp low high ≡ Less → (both : List Change) → IsAscending both
    → ((key : MapKey) → said both key ≡ option_or (said (Clear low ∷ Set high Deny ∷ []) key) (said (Set low Allow ∷ []) key))
    → both ≡ Clear low ∷ Set high Deny ∷ []
