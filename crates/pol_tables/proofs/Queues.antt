-- A queue's elements, as the list of all places is written.
use Rattle.std.proofs.Common.{zero, suc, ◌≡◌, ℕ, ◌+◌, ◌-◌, ◌<◌, List, [], ◌∷◌, ◌++◌, length, drop, take, get_or, remove, slice_get, slice_set, slice_range, Some, refl, sym, ap, ◌∙◌, arith}
use Rattle.std.proofs.lemmas.List.{append_assoc, drop-set-add, get_or-drop, length-take}
use Rattle.pol_tables.specs.Queue.{first_comes}

module _ {X : Type 0} where
  -- what a slice's `get` tells
  pub read_at : (xs : List X) (i : ℕ) (x : X) → i < length xs → x ≡ get_or xs i x → slice_get xs i ≡ Some x
  read_at [] i x within is = absurd (omega arith)
  read_at (y ∷ ys) zero x within is = ap Some (sym is)
  read_at (y ∷ ys) (suc i) x within is = read_at ys i x (omega arith) is

  pub got_behind : (gone place : ℕ) (xs : List X) (x : X) → place < length (drop gone xs) → x ≡ get_or xs (gone + place) x → slice_get (drop gone xs) place ≡ Some x
  got_behind gone place xs x within is = read_at (drop gone xs) place x within (is ∙ sym (get_or-drop gone xs place x))

  pub set_behind : (gone place : ℕ) (xs : List X) (x : X) → drop gone (slice_set xs (gone + place) x) ≡ slice_set (drop gone xs) place x
  set_behind gone place xs x = drop-set-add gone xs place x

  removed_from : (gone place n : ℕ) (xs : List X) → n ≡ gone + place → drop gone (remove xs n) ≡ remove (drop gone xs) place
  removed_from zero place n xs is = let same : n ≡ place = omega (arith, is) in ap (remove xs) same
  removed_from (suc gone) place zero xs is = absurd (omega (arith, is))
  removed_from (suc gone) place (suc n) [] is = nothing place
    where
      nothing : (i : ℕ) → [] ≡ remove {X = X} [] i
      nothing zero = refl
      nothing (suc i) = refl
  removed_from (suc gone) place (suc n) (y ∷ ys) is = removed_from gone place n ys (omega (arith, is))

  pub removed_behind : (gone place : ℕ) (xs : List X) → drop gone (remove xs (gone + place)) ≡ remove (drop gone xs) place
  removed_behind gone place xs = removed_from gone place (gone + place) xs refl

  last_of_first : (place : ℕ) (xs : List X) → drop place (take (suc place) xs) ≡ take 1 (drop place xs)
  last_of_first zero xs = refl
  last_of_first (suc place) [] = refl
  last_of_first (suc place) (x ∷ xs) = last_of_first place xs

  first_of_first : (place : ℕ) (xs : List X) → take place (take (suc place) xs) ≡ take place xs
  first_of_first zero xs = refl
  first_of_first (suc place) [] = refl
  first_of_first (suc place) (x ∷ xs) = ap (λ ys. x ∷ ys) (first_of_first place xs)

  -- the first so many, turned by one
  pub turned : (place : ℕ) (xs ys : List X) → place < length xs → ys ≡ drop (length (take (place + 1) xs) - 1) (take (place + 1) xs) ++ take (length (take (place + 1) xs) - 1) (take (place + 1) xs)
      → ys ++ drop (place + 1) xs ≡ first_comes place xs
  turned place xs ys within is =
      let at : length (take (place + 1) xs) - 1 ≡ place = omega (arith, length-take (place + 1) xs) in
      let past : place + 1 ≡ suc place = omega arith in
      let one : 1 ≡ place + 1 - place = omega arith in
      ap (λ zs. zs ++ drop (place + 1) xs) is
      ∙ (λ i. (drop (at i) (take (past i) xs) ++ take (at i) (take (past i) xs)) ++ drop (past i) xs)
      ∙ (λ i. (last_of_first place xs i ++ first_of_first place xs i) ++ drop (suc place) xs)
      ∙ (λ i. (take (one i) (drop place xs) ++ take place xs) ++ drop (suc place) xs)
      ∙ append_assoc (slice_range xs place (place + 1)) (take place xs) (drop (suc place) xs)
