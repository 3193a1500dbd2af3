-- Which ends have the maps of their numbers, and which numbers have the same map before and after a change.
use Rattle.std.specs.Prelude.{ℕ, ◌≡◌, Bool, true, List, Some, IsTrue, is_some}
use Rattle.std.specs.BTreeMap.{BTreeMap, get}
use Rattle.std.specs.List.{AllByRecursion}
use Rattle.std.specs.Ordering.{nat_cmp}
use Rattle.std.proofs.Common.{Bor}
use Rattle.pol_connections.specs.declared.end.EndName.{EndName}
use Rattle.pol_connection_maps.specs.Maps.{NumberEntries, entries_at}
use Rattle.pol_connection_maps.specs.Named.{AreFirsts}
use Rattle.pol_connection_maps.specs.Seen.{Kept, Seen}

-- the maps of a state and of one after it; of a state alone they are both its own
pub record StateMaps : Type 0 where
  pub before : List NumberEntries
  pub after : List NumberEntries

-- an end with a policy of its own has the map of its number
abbrev pub HasItsMap : List NumberEntries → Seen → Type 0
HasItsMap maps end = IsTrue (is_some end.entries) → end.entries ≡ entries_at end.number maps

abbrev pub HaveTheirMaps : StateMaps → Kept → Type 0
HaveTheirMaps maps end = HasItsMap maps.before end.before × HasItsMap maps.after end.after

-- both are seen by one number, and neither has a policy of its own or both have
abbrev pub AreOfOneKind : Seen → Seen → Type 0
AreOfOneKind one other = (one.number ≡ other.number) × (is_some one.entries ≡ is_some other.entries)

-- both are seen by one number, and have the same map or none
abbrev pub AreSeenAlike : Seen → Seen → Type 0
AreSeenAlike one other = (one.number ≡ other.number) × (one.entries ≡ other.entries)

-- all ends are of states with some maps
pub record AreOfMaps {E : Type 0} (stands : StateMaps → E → Type 0) (ends : List E) : Type 0 where
  pub maps : StateMaps
  pub all : AllByRecursion (stands maps) ends

-- the number has the same map in both lists
abbrev pub StayAt : List NumberEntries → List NumberEntries → ℕ → Type 0
StayAt before after number = entries_at number before ≡ entries_at number after

-- each number of which the table says so has the same map in both lists
abbrev pub Stay : List NumberEntries → List NumberEntries → BTreeMap ℕ Bool → Type 0
Stay before after still = (number : ℕ) → get nat_cmp still number ≡ Some true → StayAt before after number

-- the ends of both states have the maps of their numbers, and what is told to stay does
pub record AreOfTheirMaps (before after : List Seen) (still : BTreeMap ℕ Bool) : Type 0 where
  pub maps : StateMaps
  pub was : AllByRecursion (HasItsMap maps.before) before
  pub is : AllByRecursion (HasItsMap maps.after) after
  pub stay : Stay maps.before maps.after still

-- the table has the first end of each name of a state before
pub record AreKnown (firsts : BTreeMap EndName (Bor Seen)) (after : List Seen) (still : BTreeMap ℕ Bool) : Type 0 where
  pub before : List Seen
  pub are : AreFirsts (λ end. end.name) before firsts
  pub their : AreOfTheirMaps before after still
