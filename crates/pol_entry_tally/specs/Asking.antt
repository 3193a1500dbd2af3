-- Which keys of a group are asked, where some of its keys turn. No public clause cites this module.
use Rattle.std.specs.Prelude.{ℕ, ◌+◌, ◌-◌, ◌*◌, ◌/◌, ◌%◌, ◌^◌, ◌<◌, ◌≤◌, ◌≡◌, ◌⊎◌, ◌++◌, List, if◌then◌else◌, map, min, nat_lt}
use Rattle.std.specs.List.{AllByRecursion, Contains}
use Rattle.pol_entry_tally.specs.declared.counts.Count.{Count}
use Rattle.pol_entry_tally.specs.Affected.{Has}
use Rattle.pol_entry_tally.specs.Counts.{AreBefore, AreFrom, AreOf, Rises}

-- where the keys stand that have these counts
abbrev pub locals : List Count → List ℕ
locals counts = map (λ c. c.place % 2 ^ 23) counts

-- where the keys stand that turn
abbrev pub turned_locals : List ℕ → List ℕ
turned_locals turns = map (λ turn. turn / 2 % 2 ^ 23) turns

-- where those end that stand under the key there: for every protocol the whole group, else those of the prefix's ports
abbrev pub under_end : ℕ → ℕ
under_end local = if nat_lt local (2 ^ 21) then 2 ^ 23 else local - local % 2 ^ 5 + 2 ^ (16 - min (local % 2 ^ 5) 16) * 2 ^ 5

-- the turn is a deny's, and what stands there is its key or under it
pub record LiesUnder (turn local : ℕ) : Type 0 where
  pub deny : turn / 2 % 2 ^ 24 < 2 ^ 23
  pub from : turn / 2 % 2 ^ 24 ≤ local
  pub to : local < under_end (turn / 2 % 2 ^ 24)

-- those of the counts whose places stand from the one up to the other
pub record AreBetween (from to : ℕ) (counts own : List Count) : Type 0 where
  pub front : List Count
  pub back : List Count
  pub parts : counts ≡ front ++ (own ++ back)
  pub before : AreBefore from front
  pub behind : AreFrom to back

-- each key with a count is asked that stands from the one up to the other
abbrev pub AreAsked : List Count → ℕ → ℕ → List ℕ → Type 0
AreAsked counts from to asked = (n : ℕ) → Contains (locals counts) n → from ≤ n → n < to → Contains asked n

-- each with a count that lies under a deny that turns
abbrev pub AreAskedUnder : List Count → List ℕ → List ℕ → Type 0
AreAskedUnder counts turns asked = (turn n : ℕ) → Contains turns turn → LiesUnder turn n → Contains (locals counts) n → Contains asked n

-- the turns are of one group
abbrev pub AreOfOne : List ℕ → Type 0
AreOfOne turns = (group : ℕ) × AreOf group turns

-- while turns are gone through: the last one's place, up to which those from there on are asked
pub record IsAsking (counts : List Count) (turns left start asked : List ℕ) (done : ℕ) : Type 0 where
  pub last : ℕ
  pub rises : Rises left
  pub of : AreOfOne left
  pub low : AllByRecursion (λ turn. last ≤ turn / 2 % 2 ^ 24) left
  pub own : AreAsked counts last done asked
  pub all : (turn n : ℕ) → Contains turns turn → LiesUnder turn n → Contains (locals counts) n → Contains left turn ⊎ Contains asked n
  pub stay : Has start asked
  pub no_more : Has asked (start ++ locals counts)
