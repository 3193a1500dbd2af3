-- What the net change of a set's changes says of the set.
use Rattle.std.specs.Prelude.{◌≡◌, ℕ, true, false, ⊤, List, [], ◌∷◌, ◌++◌}
use Rattle.std.specs.List.{AllByRecursion}
use Rattle.std.specs.List.Sorted.{IsStrictlySortedBy}
use Rattle.std.specs.Ordering.{nat_cmp}
use Rattle.pol_sets.specs.declared.sets.Move.{Move}
use Rattle.pol_set_changes.specs.declared.change.SetChange.{SetChange}
use Rattle.pol_set_changes.specs.Ids.{has, without}
use Rattle.pol_set_changes.specs.Net.{move_of, joined, net, moved, after_all}

-- the move gains numbers that the set doesn't have, and loses numbers that it has
pub record Fits (ids : List ℕ) (m : Move) : Type 0 where
  pub gained_ascend : IsStrictlySortedBy nat_cmp m.gained
  pub lost_ascend : IsStrictlySortedBy nat_cmp m.lost
  pub gained_new : AllByRecursion (λ id. has id ids ≡ false) m.gained
  pub lost_old : AllByRecursion (λ id. has id ids ≡ true) m.lost

-- each of the changes fits the set that the older ones left
abbrev pub AllFit : List ℕ → List SetChange → Type 0
AllFit ids [] = ⊤
AllFit ids (c ∷ older) = Fits (after_all ids older) (move_of c) × AllFit ids older

-- the move gained what the new set has and the old one has not, and lost what the old one has and the new one has not
pub record IsMove (old new : List ℕ) (m : Move) : Type 0 where
  pub gained : m.gained ≡ without new old
  pub lost : m.lost ≡ without old new

-- The net change of a set's changes is the difference of the set after them and before them.
abbrev pub NetIsExact : Type 0
NetIsExact =
    (selector : ℕ) (ids : List ℕ) (cs : List SetChange)
    → IsStrictlySortedBy nat_cmp ids → AllFit ids cs
    → IsMove ids (after_all ids cs) (net selector cs)

-- The net change of two stretches of changes is that of the older joined with that of the newer.
abbrev pub NetsJoin : Type 0
NetsJoin =
    (selector : ℕ) (ids : List ℕ) (newer older : List SetChange)
    → IsStrictlySortedBy nat_cmp ids → AllFit ids (newer ++ older)
    → net selector (newer ++ older) ≡ joined (net selector older) (net selector newer)

-- The difference of two sets is a move that fits the one and leads to the other.
abbrev pub DifferencesLead : Type 0
DifferencesLead =
    (old new : List ℕ) (m : Move)
    → IsStrictlySortedBy nat_cmp old → IsStrictlySortedBy nat_cmp new → IsMove old new m
    → Fits old m × (moved old m ≡ new)
