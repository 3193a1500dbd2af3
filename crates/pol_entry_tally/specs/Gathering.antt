-- The counts of several groups, made before any of them is put. No public clause cites this module.
use Rattle.std.specs.Prelude.{ℕ, ◌≡◌, ◌+◌, ◌*◌, ◌^◌, ◌<◌, ◌≤◌, ◌==◌, Bool, true, false, if◌then◌else◌, List, [], ◌∷◌, map}
use Rattle.std.specs.List.{AllByRecursion, list_any}
use Rattle.std.specs.List.Sorted.{IsStrictlySortedBy}
use Rattle.std.specs.Ordering.{nat_cmp}
use Rattle.pol_map_changes.specs.declared.change.Change.{Change}
use Rattle.pol_entry_tally.specs.declared.counts.Count.{Count}
use Rattle.pol_entry_tally.specs.declared.listing.Listing.{Listing}
use Rattle.pol_entry_tally.specs.declared.many.Made.{Made}
use Rattle.pol_entry_tally.specs.declared.tally.Tally.{Tally}
use Rattle.pol_entry_tally.specs.Affected.{GoesOn}
use Rattle.pol_entry_tally.specs.Counted.{AreInOrder, SameCounts, is_open, of_group, times_after, times_of}
use Rattle.pol_entry_tally.specs.Counts.{AreCounts, AreTurns, IsHeld, IsTurnedBy, Rises, counts_of, downs, ups}
use Rattle.pol_entry_tally.specs.Times.{Times}

-- what differs at the keys of a group, which had the one counts and has the other, is listed behind the others
abbrev pub GroupGoesOn : ℕ → List Count → List Count → Listing → Listing → Type 0
GroupGoesOn group old new listing made =
    (before after : Times) → IsHeld group old before → IsHeld group new after
    → GoesOn before after (group * 2 ^ 23) ((group + 1) * 2 ^ 23) listing.changes.items made.changes.items listing.size made.size

-- the counts that were made of the group, and these where none were
abbrev pub made_of : List Made → ℕ → List Count → List Count
made_of [] group counts = counts
made_of (one ∷ more) group counts = if one.group == group then counts_of one.counts else made_of more group counts

abbrev pub has_made : ℕ → List Made → Bool
has_made group made = list_any (λ one. one.group == group) made

-- each is in the tree, and no group stands twice
pub record AreOpen (tally : Tally) (made : List Made) : Type 0 where
  pub opened : AllByRecursion (λ one. is_open tally one.group ≡ true) made
  pub ascend : IsStrictlySortedBy nat_cmp (map (λ one. one.group) made)

-- what the turns make of a group's counts
pub record IsMade (old : Tally) (turns : List ℕ) (one : Made) : Type 0 where
  pub counts : AreCounts (counts_of one.counts)
  pub turned : IsTurnedBy one.group turns (of_group old one.group) (counts_of one.counts)

-- those so far: of each group below a bound of which something turns
pub record AreMade (old : Tally) (turns : List ℕ) (to : ℕ) (made : List Made) : Type 0 where
  pub each : AllByRecursion (IsMade old turns) made
  pub below : AllByRecursion (λ one. one.group < to) made
  pub others : (g p : ℕ) → g < to → p < 2 ^ 24 → has_made g made ≡ false → (ups turns (g * 2 ^ 24 + p) ≡ 0) × (downs turns (g * 2 ^ 24 + p) ≡ 0)

-- while turns of groups are looked at: those that are left, and what was listed of the others
pub record IsGathering (old now : Tally) (turns left : List ℕ) (made : List Made) (list more : List Change) (size grown : ℕ) : Type 0 where
  pub to : ℕ
  pub most : to ≤ 2 ^ 33
  pub same : SameCounts old now
  pub rises : Rises left
  pub are_turns : AreTurns left
  pub low : AllByRecursion (λ turn. to * 2 ^ 25 ≤ turn) left
  pub come : (c : ℕ) → to * 2 ^ 24 ≤ c → ups turns c ≡ ups left c
  pub go : (c : ℕ) → to * 2 ^ 24 ≤ c → downs turns c ≡ downs left c
  pub are_made : AreMade old turns to made
  pub are_open : AreOpen now made
  pub goes : GoesOn (times_of old) (times_after old turns) (0 * 2 ^ 23) (to * 2 ^ 23) list more size grown

-- while a tally of no entries is filled: the turns that are left
pub record IsFilling (old now : Tally) (turns left : List ℕ) : Type 0 where
  pub to : ℕ
  pub order : AreInOrder now
  pub rises : Rises left
  pub are_turns : AreTurns left
  pub low : AllByRecursion (λ turn. to * 2 ^ 25 ≤ turn) left
  pub come : (c : ℕ) → to * 2 ^ 24 ≤ c → ups turns c ≡ ups left c
  pub go : (c : ℕ) → to * 2 ^ 24 ≤ c → downs turns c ≡ downs left c
  pub done : (g : ℕ) → g < to → IsTurnedBy g turns (of_group old g) (of_group now g)
  pub same : (g : ℕ) → to ≤ g → of_group now g ≡ of_group old g
