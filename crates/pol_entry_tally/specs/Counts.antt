-- How often the keys of one direction and identity are given, each at its place.
use Rattle.std.specs.Prelude.{ℕ, ◌≡◌, ◌+◌, ◌-◌, ◌*◌, ◌^◌, ◌/◌, ◌%◌, ◌==◌, ◌<◌, ◌≤◌, if◌then◌else◌, List, [], ◌∷◌, ◌++◌, map, nat_lt, true, count_by, Option, None, Some}
use Rattle.std.specs.BTreeMap.{BTreeMap, get}
use Rattle.std.specs.List.{AllByRecursion}
use Rattle.std.specs.List.Sorted.{IsStrictlySortedBy}
use Rattle.std.specs.Ordering.{nat_cmp}
use Rattle.pol_entry_tally.specs.declared.counts.Count.{Count}
use Rattle.pol_entry_tally.specs.declared.counts.Counts.{Counts}
use Rattle.pol_entry_tally.specs.declared.counts.Counts.TheVariants.{One, Many}
use Rattle.pol_entry_tally.specs.Numbers.{IsPlace, code_of, fits, group_of, place_of}
use Rattle.pol_mapkey.specs.declared.Kind.{Kind}
use Rattle.pol_mapkey.specs.declared.MapKey.{MapKey}
use Rattle.pol_entry_tally.specs.Times.{Times}

-- the counts, wherever they are
abbrev pub counts_of : Counts → List Count
counts_of (One count) = count ∷ []
counts_of (Many counts) = counts.items

-- how often the key at the place is given
abbrev pub times_at : List Count → ℕ → ℕ
times_at [] place = 0
times_at (c ∷ cs) place = if c.place == place then c.times else times_at cs place

abbrev pub Ascend : List Count → Type 0
Ascend counts = IsStrictlySortedBy nat_cmp (map (λ c. c.place) counts)

-- all of them stand before the place, or none does
abbrev pub AreBefore : ℕ → List Count → Type 0
AreBefore place counts = AllByRecursion (λ c. c.place < place) counts

abbrev pub AreFrom : ℕ → List Count → Type 0
AreFrom place counts = AllByRecursion (λ c. place ≤ c.place) counts

-- each place once, in order, and each of them the place of a key
pub record AreCounts (counts : List Count) : Type 0 where
  pub ascend : Ascend counts
  pub places : AllByRecursion (λ c. IsPlace c.place) counts

-- one more count, if it is one of something
abbrev pub counted : ℕ → ℕ → List Count
counted place times = if nat_lt 0 times then record { place = place; times = times } ∷ [] else []

-- without the first, if that stands at the place
abbrev pub behind : ℕ → List Count → List Count
behind place [] = []
behind place (c ∷ cs) = if c.place == place then cs else c ∷ cs

-- how often each key is given each kind, of the keys of the group that has these counts
abbrev pub held : List Count → Times
held counts key kind = if fits key then times_at counts (place_of key kind) else 0

-- the counts of a group; one that isn't there has none
abbrev pub counts_found : Option Counts → List Count
counts_found None = []
counts_found (Some counts) = counts_of counts

abbrev pub counts_in : BTreeMap ℕ Counts → ℕ → List Count
counts_in groups group = counts_found (get nat_cmp groups group)

-- ---- what comes and goes
-- how many of the turns have a code come, and how many have it go
abbrev pub ups : List ℕ → ℕ → ℕ
ups turns code = count_by (λ turn. turn == code * 2) turns

abbrev pub downs : List ℕ → ℕ → ℕ
downs turns code = count_by (λ turn. turn == code * 2 + 1) turns

-- no turn is below the one before it
abbrev pub Rises : List ℕ → Type 0
Rises [] = Unit {0}
Rises (t ∷ ts) = AllByRecursion (λ u. t ≤ u) ts × Rises ts

-- each is a turn of a key that fits
abbrev pub IsTurn : ℕ → Type 0
IsTurn turn = (key : MapKey) × (kind : Kind) × (fits key ≡ true) × (turn / 2 ≡ code_of key kind)

abbrev pub AreTurns : List ℕ → Type 0
AreTurns turns = AllByRecursion IsTurn turns

-- so many of the turns have the code come, and so many have it go; the others stand behind
pub record IsRunOf (code : ℕ) (turns : List ℕ) (u d : ℕ) (others : List ℕ) : Type 0 where
  pub come : u ≡ ups turns code
  pub go : d ≡ downs turns code
  pub others_come : (c : ℕ) → code < c → ups others c ≡ ups turns c
  pub others_go : (c : ℕ) → code < c → downs others c ≡ downs turns c
  pub above : AllByRecursion (λ turn. code * 2 + 2 ≤ turn) others
  pub rises : Rises others
  pub front : List ℕ
  pub parts : turns ≡ front ++ others

-- what a run of turns makes of counts, some of which are done: those done, and those left
pub record IsTurnedAt (place u d : ℕ) (done rest now left : List Count) : Type 0 where
  pub ascend : Ascend (now ++ left)
  pub before : AreBefore (place + 1) now
  pub own : times_at (now ++ left) place ≡ times_at (done ++ rest) place + u - d
  pub others : (p : ℕ) → (p ≡ place → ⊥) → times_at (now ++ left) p ≡ times_at (done ++ rest) p
  pub places : IsPlace place → AllByRecursion (λ c. IsPlace c.place) (done ++ rest) → AllByRecursion (λ c. IsPlace c.place) (now ++ left)

-- each is of a key of the group
abbrev pub AreOf : ℕ → List ℕ → Type 0
AreOf group turns = AllByRecursion (λ turn. turn / 2 ^ 25 ≡ group) turns

-- how often a key of the group is given after the turns
abbrev pub turned : ℕ → List ℕ → List Count → ℕ → ℕ
turned group turns counts place = times_at counts place + ups turns (group * 2 ^ 24 + place) - downs turns (group * 2 ^ 24 + place)

-- the turns make the one counts of the other
abbrev pub IsTurnedBy : ℕ → List ℕ → List Count → List Count → Type 0
IsTurnedBy group turns old new = (p : ℕ) → p < 2 ^ 24 → times_at new p ≡ turned group turns old p

-- of the keys of the group, these counts say how often each is given
abbrev pub IsHeld : ℕ → List Count → Times → Type 0
IsHeld group counts given = (q : MapKey) (k : Kind) → group_of q ≡ group → given q k ≡ held counts q k

-- a group's counts, while turns are counted: those done, those left, and the turns that are left
pub record IsMerging (group : ℕ) (old : List Count) (given : List ℕ) (done rest : List Count) (left : List ℕ) : Type 0 where
  pub ascend : Ascend (done ++ rest)
  pub before : AllByRecursion (λ turn. AreBefore (turn / 2 % 2 ^ 24) done) left
  pub places : AllByRecursion (λ c. IsPlace c.place) (done ++ rest)
  pub rises : Rises left
  pub turns : AreTurns left
  pub own : AreOf group left
  pub times : (p : ℕ) → p < 2 ^ 24 → turned group left (done ++ rest) p ≡ turned group given old p
