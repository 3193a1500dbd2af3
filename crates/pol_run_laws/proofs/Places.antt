-- The commits of a history and their places.
use Rattle.std.proofs.Common.{◌≡◌, ℕ, zero, suc, ◌+◌, ◌<◌, ◌≤◌, inl, inr, List, [], ◌∷◌, ◌++◌, length, take, drop, slice_get, Some, ap, ◌∙◌, subst, arith, length-append}
use Rattle.std.specs.List.{AllByRecursion}
use Rattle.std.proofs.lemmas.Bool.{cases_lt}
use Rattle.pol_model.specs.declared.request.Request.{Request}
use Rattle.pol_history.specs.declared.event.HistoryEvent.{HistoryEvent}
use Rattle.pol_history.specs.declared.event.HistoryEvent.TheVariants as event
use Rattle.pol_history.specs.Commits.{commits_in, revision_of}
use Rattle.pol_history.proofs.Cuts.{commits-append, revision-grows}
use Rattle.pol_history.proofs.Lists.{get_seam, no_element}

-- ---- elements of a list

pub same_element : {X : Type 0} (x y : X) → Some x ≡ Some y → x ≡ y
same_element x y same = cc

-- what holds of every element holds of one at an index
pub element_at : {X : Type 0} (P : X → Type 0) (xs : List X) (i : ℕ) (x : X) → AllByRecursion P xs → slice_get xs i ≡ Some x → P x
element_at P [] i x every there = absurd (no_element x there)
element_at P (y ∷ xs) zero x every there = subst P (same_element y x there) every.0
element_at P (y ∷ xs) (suc i) x every there = element_at P xs i x every.1 there

-- the list up to an element, and what is behind it
split_at : {X : Type 0} (i : ℕ) (xs : List X) (x : X) → slice_get xs i ≡ Some x → xs ≡ take i xs ++ x ∷ drop (suc i) xs
split_at i [] x there = absurd (no_element x there)
split_at zero (y ∷ xs) x there = ap (λ z. z ∷ xs) (same_element y x there)
split_at (suc i) (y ∷ xs) x there = ap (λ rest. y ∷ rest) (split_at i xs x there)

one_more : {X : Type 0} (i : ℕ) (xs : List X) (x : X) → slice_get xs i ≡ Some x → take (suc i) xs ≡ take i xs ++ x ∷ []
one_more i [] x there = absurd (no_element x there)
one_more zero (y ∷ xs) x there = ap (λ z. z ∷ []) (same_element y x there)
one_more (suc i) (y ∷ xs) x there = ap (λ rest. y ∷ rest) (one_more i xs x there)

-- an element of the first n is one of the list
pub at_first : {X : Type 0} (n i : ℕ) (xs : List X) (x : X) → slice_get (take n xs) i ≡ Some x → (i < n) × (slice_get xs i ≡ Some x)
at_first zero i xs x there = absurd (no_element x there)
at_first (suc n) i [] x there = absurd (no_element x there)
at_first (suc n) zero (y ∷ xs) x there = (omega arith, there)
at_first (suc n) (suc i) (y ∷ xs) x there = let found = at_first n i xs x there in (omega (arith, found.0), found.1)

-- ---- commits

module _ (history : List HistoryEvent) (place pass number : ℕ) (request : Request)
    (there : slice_get history place ≡ Some (event.Commit pass number request)) where
  -- a commit is one more
  pub revision-next : revision_of (take (suc place) history) ≡ revision_of (take place history) + 1
  revision-next =
      let new = event.Commit pass number request in
      ap revision_of (one_more place history new there)
      ∙ ap (λ requests. length requests) (commits-append (take place history) (new ∷ []))
      ∙ length-append (commits_in (take place history)) (request ∷ [])

  -- its request is that of its place among the commits
  pub commit-kth : slice_get (commits_in history) (revision_of (take place history)) ≡ Some request
  commit-kth =
      let new = event.Commit pass number request in
      let rest = drop (suc place) history in
      ap (λ h. slice_get (commits_in h) (revision_of (take place history))) (split_at place history new there)
      ∙ ap (λ requests. slice_get requests (revision_of (take place history))) (commits-append (take place history) (new ∷ rest))
      ∙ get_seam (commits_in (take place history)) request (commits_in rest)

  -- so a commit behind it has another
  pub no_earlier : (other : ℕ) → revision_of (take place history) ≡ revision_of (take other history) → other ≤ place
  no_earlier other same =
      elim (cases_lt place other) [
        | inl less ↦ absurd (omega (arith, same, revision-next, revision-grows (suc place) other history (omega (arith, less))))
        | inr within ↦ within
      ]
