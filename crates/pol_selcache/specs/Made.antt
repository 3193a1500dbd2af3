-- Sets that were made of other sets. No public clause cites this module.
use Rattle.std.specs.Prelude.{ℕ, ◌≡◌, ◌&&◌, ◌||◌, not, nat_eq, Bool, List}
use Rattle.std.specs.Cmp.Lexicographic.{pointwise}
use Rattle.pol_sets.specs.IdSet.{IsIdSet}
use Rattle.pol_set_changes.specs.Ids.{has}

-- a set, and what it was made of: another set, the numbers that it gained, and those that it lost
pub record Made : Type 0 where
  pub was : List ℕ
  pub gained : List ℕ
  pub lost : List ℕ
  pub set : List ℕ

-- the set has the numbers of the other but those lost, and those gained
pub record IsMadeOf (was gained lost made : List ℕ) : Type 0 where
  pub members : (number : ℕ) → has number made ≡ ((has number was && not (has number lost)) || has number gained)
  pub set : IsIdSet made

-- it was made of these
abbrev pub is_of : List ℕ → List ℕ → List ℕ → Made → Bool
is_of was gained lost made = (pointwise nat_eq made.was was && pointwise nat_eq made.gained gained) && pointwise nat_eq made.lost lost
