-- What a tally counts.
use Rattle.std.specs.Prelude.{ℕ, ◌≡◌, ◌==◌, Bool, is_some, if◌then◌else◌, List}
use Rattle.std.specs.BTreeMap.{get}
use Rattle.std.specs.Ordering.{nat_cmp}
use Rattle.pol_mapkey.specs.Entries.{Entry}
use Rattle.pol_mapkey.specs.declared.Kind.{Kind}
use Rattle.pol_mapkey.specs.declared.MapKey.{MapKey}
use Rattle.pol_entry_tally.specs.declared.counts.Count.{Count}
use Rattle.pol_entry_tally.specs.declared.tally.Tally.{Tally}
use Rattle.pol_entry_tally.specs.Numbers.{fits, group_of, place_of}
use Rattle.pol_entry_tally.specs.Counts.{AreCounts, IsTurnedBy, counts_in, held, turned}
use Rattle.pol_entry_tally.specs.Times.{Times, times}

-- the counts of a group
abbrev pub of_group : Tally → ℕ → List Count
of_group tally group = counts_in tally.groups group

-- how often each key is given each kind, as the tally has it
abbrev pub times_of : Tally → Times
times_of tally key kind = held (of_group tally (group_of key)) key kind

-- the counts of each group stand in the order of their places
abbrev pub AreInOrder : Tally → Type 0
AreInOrder tally = (group : ℕ) → AreCounts (of_group tally group)

-- the tally counts just these entries
pub record IsTallyOf (entries : List Entry) (tally : Tally) : Type 0 where
  pub order : AreInOrder tally
  pub counts : (key : MapKey) (kind : Kind) → times_of tally key kind ≡ times entries key kind

-- both have the same counts
abbrev pub SameCounts : Tally → Tally → Type 0
SameCounts old new = (group : ℕ) → of_group new group ≡ of_group old group

-- the counts of the group are these, and the others stay
abbrev pub HasPut : Tally → Tally → ℕ → List Count → Type 0
HasPut old new group counts = (g : ℕ) → of_group new g ≡ (if group == g then counts else of_group old g)

-- the tree has the group
abbrev pub is_open : Tally → ℕ → Bool
is_open tally group = is_some (get nat_cmp tally.groups group)

-- how often each key is given each kind after these turns
abbrev pub times_after : Tally → List ℕ → Times
times_after tally turns key kind = if fits key then turned (group_of key) turns (of_group tally (group_of key)) (place_of key kind) else 0

-- the tally's counts are those that the turns make of the other's
abbrev pub IsTurnedTo : Tally → List ℕ → Tally → Type 0
IsTurnedTo old turns new = (group : ℕ) → IsTurnedBy group turns (of_group old group) (of_group new group)
