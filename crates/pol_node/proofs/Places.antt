-- The passes of a new board: their numbers are their places, and none of them has seen anything.
use Rattle.std.proofs.Common.{zero, suc, ◌≡◌, ℕ, ◌+◌, List, [], ◌∷◌, ◌++◌, drop, length, Some, inl, inr, refl, sym, ap, ◌∙◌, arith, length-append}
use Rattle.std.specs.List.{AllByRecursion, slice_get}
use Rattle.std.proofs.lemmas.List.Elements.{All-append, All-from_recursion, recursion_from_All}
use Rattle.core.proofs.iter.runs.Lists.{nth_drop}
use Rattle.pol_history.specs.Grows.{PassState, nothing_yet}
use Rattle.pol_history.proofs.Lists.{get_cases}
use Rattle.pol_board.specs.Counts.{new_passes}

pub places_long : (n : ℕ) → length (new_passes n) ≡ n
places_long zero = refl
places_long (suc n) =
    let others = places_long n in
    let more = length-append (new_passes n) (record { number = n; has = nothing_yet } ∷ []) in
    omega (arith, others, more)

number_at : (n place : ℕ) (pass : PassState) → slice_get (new_passes n) place ≡ Some pass → pass.number ≡ place
number_at zero place pass there = absurd (cc)
number_at (suc n) place pass there =
    elim (get_cases (new_passes n) (record { number = n; has = nothing_yet }) pass place there) [
      | inl before ↦ number_at n place pass before.1
      | inr last ↦ ap (λ (p : PassState). p.number) (sym last.1) ∙ sym (places_long n) ∙ sym last.0
    ]

abbrev HasSeenNothing : PassState → Type 0
HasSeenNothing pass = pass.has ≡ nothing_yet

seen_nothing : (n : ℕ) → AllByRecursion HasSeenNothing (new_passes n)
seen_nothing zero = tt
seen_nothing (suc n) =
    let last : List PassState = record { number = n; has = nothing_yet } ∷ [] in
    recursion_from_All HasSeenNothing (new_passes n ++ last)
    (All-append HasSeenNothing (new_passes n) last (All-from_recursion HasSeenNothing (new_passes n) (seen_nothing n)) (All-from_recursion HasSeenNothing last (refl, tt)))

all_behind : (m : ℕ) (passes : List PassState) → AllByRecursion HasSeenNothing passes → AllByRecursion HasSeenNothing (drop m passes)
all_behind zero passes all = all
all_behind (suc m) [] all = tt
all_behind (suc m) (pass ∷ passes) all = all_behind m passes all.1

-- the passes behind the first ones
module _ (first n : ℕ) where
  pub nothing_behind : AllByRecursion HasSeenNothing (drop first (new_passes n))
  nothing_behind = all_behind first (new_passes n) (seen_nothing n)

  pub number_behind : (i : ℕ) (pass : PassState) → slice_get (drop first (new_passes n)) i ≡ Some pass → pass.number ≡ first + i
  number_behind i pass there = number_at n (first + i) pass (sym (nth_drop first (new_passes n) i) ∙ there)

  pub apart_behind : (i j : ℕ) (one other : PassState) → slice_get (drop first (new_passes n)) i ≡ Some one → slice_get (drop first (new_passes n)) j ≡ Some other
      → one.number ≡ other.number → i ≡ j
  apart_behind i j one other at_i at_j same =
      let left = number_behind i one at_i in
      let right = number_behind j other at_j in
      omega (arith, left, right, same)
