-- The keys whose entries a change may change, and the changes. No public clause cites this module.
use Rattle.std.specs.Prelude.{◌≡◌, ℕ, ◌+◌, ◌<◌, ◌≤◌, ◌==◌, Bool, true, false, List, [], ◌∷◌, ◌++◌, Option, None, Some}
use Rattle.std.specs.List.{AllByRecursion, Contains, flat_map, list_any}
use Rattle.std.specs.List.Sorted.{IsStrictlySortedBy}
use Rattle.pol_mapkey.specs.MapKey.{key_cmp, same_key}
use Rattle.pol_mapkey.specs.declared.Kind.{Kind}
use Rattle.pol_mapkey.specs.declared.MapKey.{MapKey}
use Rattle.pol_map_changes.specs.declared.change.Change.{Change}
use Rattle.pol_map_changes.specs.declared.change.Change.TheVariants.{Set, Clear}
use Rattle.pol_map_changes.specs.Changes.{difference_at}
use Rattle.pol_entry_tally.specs.Numbers.{fits, key_in, local_of, number_of}
use Rattle.pol_entry_tally.specs.Sizes.{clear_count, new_count}
use Rattle.pol_entry_tally.specs.Times.{Times, kind_of}

abbrev pub has_key : MapKey → List MapKey → Bool
has_key key keys = list_any (λ own. same_key own key) keys

abbrev pub has_number : ℕ → List ℕ → Bool
has_number n ns = list_any (λ own. own == n) ns

-- what is of the one list is of the other
abbrev pub Has : List ℕ → List ℕ → Type 0
Has old new = (n : ℕ) → Contains old n → Contains new n

-- ---- the changes
abbrev pub change_at : MapKey → Option (Option Kind) → List Change
change_at key None = []
change_at key (Some None) = Clear key ∷ []
change_at key (Some (Some kind)) = Set key kind ∷ []

-- what differs at a key
abbrev pub says : Times → Times → MapKey → Option (Option Kind)
says before after key = difference_at (kind_of before key) (kind_of after key)

abbrev pub changes_at : Times → Times → List MapKey → List Change
changes_at before after keys = flat_map (λ key. change_at key (says before after key)) keys

-- the same of the keys of a group that stand there
abbrev pub changes_in : ℕ → Times → Times → List ℕ → List Change
changes_in group before after locals = flat_map (λ local. change_at (key_in group local) (says before after (key_in group local))) locals

-- what a key of some group stands at
abbrev pub IsLocal : ℕ → Type 0
IsLocal n = (key : MapKey) × (fits key ≡ true) × (n ≡ local_of key)

-- the changes of a list are those at keys, in order, and at no other key the entry changes
pub record Lists (before after : Times) (changes : List Change) : Type 0 where
  pub keys : List MapKey
  pub ascends : IsStrictlySortedBy key_cmp keys
  pub others : (q : MapKey) → has_key q keys ≡ false → kind_of before q ≡ kind_of after q
  pub made : changes ≡ changes_at before after keys

-- the same of the keys with numbers from one bound up to another, put behind a list, with the map's size
pub record GoesOn (before after : Times) (from to : ℕ) (old new : List Change) (size grown : ℕ) : Type 0 where
  pub keys : List MapKey
  pub ascends : IsStrictlySortedBy key_cmp keys
  pub within : AllByRecursion (λ k. (fits k ≡ true) × (from ≤ number_of k) × (number_of k < to)) keys
  pub others : (q : MapKey) → fits q ≡ true → from ≤ number_of q → number_of q < to → has_key q keys ≡ false → kind_of before q ≡ kind_of after q
  pub made : new ≡ old ++ changes_at before after keys
  pub sized : grown + clear_count (changes_at before after keys) ≡ size + new_count before (changes_at before after keys)
