-- Lists that ascend by a number of their elements: each number is that of one element.
use Rattle.std.proofs.Common.{◌≡◌, ℕ, ◌+◌, ◌<◌, ◌≤◌, Bool, false, List, [], ◌∷◌, ◌++◌, map, find, length, count_by, nat_lt, suc, ◌==◌, Some, ◌⊎◌, inl, inr, refl, sym, ap, ◌∙◌, subst, arith}
use Rattle.std.specs.List.{AllByRecursion, list_any}
use Rattle.std.proofs.lemmas.Bool.{eqb-true, eq-eqb}
use Rattle.pol_data.proofs.Members.{In}
use Rattle.pol_model.specs.Ascending.{Ascends}
use Rattle.pol_model.specs.Numbers.{placed_by}
use Rattle.pol_model.proofs.Ascents.{placed_later}
use Rattle.pol_model_laws.proofs.Membership.{In-insert, find-In, found-some, insert-here, insert-kept, list_any-In, none-In, none-part}

module _ {X : Type 0} (number : X → ℕ) where
  pub above-In : (m : ℕ) (x : X) (xs : List X) → AllByRecursion (λ n. m < n) (map number xs) → In x xs → m < number x
  above-In m x [] all there = elim there [ ]
  above-In m x (y ∷ ys) all (inl same) = subst (λ z. m < number z) same all.0
  above-In m x (y ∷ ys) all (inr later) = above-In m x ys all.1 later

  pub one_of_number : (x y : X) (xs : List X) → Ascends (map number xs) → In x xs → In y xs → number x ≡ number y → x ≡ y
  one_of_number x y [] ascends there other same = elim there [ ]
  one_of_number x y (z ∷ zs) ascends (inl here) (inl there) same = sym here ∙ there
  one_of_number x y (z ∷ zs) ascends (inl here) (inr later) same =
      absurd (omega (arith, above-In (number z) y zs ascends.0 later, same, ap number here))
  one_of_number x y (z ∷ zs) ascends (inr later) (inl here) same =
      absurd (omega (arith, above-In (number z) x zs ascends.0 later, same, ap number here))
  one_of_number x y (z ∷ zs) ascends (inr one) (inr other) same = one_of_number x y zs ascends.1 one other same

  -- what is placed above all of the front leaves the front alone
  pub placed_behind : (x : X) (xs ys : List X) → AllByRecursion (λ y. number y < number x) xs → placed_by number x (xs ++ ys) ≡ xs ++ placed_by number x ys
  placed_behind x [] ys below = refl
  placed_behind x (y ∷ xs) ys below = placed_later number x y (xs ++ ys) below.0 ∙ ap (λ rest. y ∷ rest) (placed_behind x xs ys below.1)

  pub In-placed : (x y : X) (xs : List X) → In y (placed_by number x xs) → (x ≡ y) ⊎ In y xs
  In-placed x y xs there = In-insert x y (count_by (λ z. nat_lt (number z) (number x)) xs) xs there

  pub placed-here : (x : X) (xs : List X) → In x (placed_by number x xs)
  placed-here x xs = insert-here x (count_by (λ z. nat_lt (number z) (number x)) xs) xs

  pub placed-kept : (x y : X) (xs : List X) → In y xs → In y (placed_by number x xs)
  placed-kept x y xs there = insert-kept x y (count_by (λ z. nat_lt (number z) (number x)) xs) xs there

  -- none of these passes, nor of those before
  pub none-placed : (p : X → Bool) (x : X) (xs : List X) → list_any p (placed_by number x xs) ≡ false → (p x ≡ false) × (list_any p xs ≡ false)
  none-placed p x xs none =
      (none-In p x (placed_by number x xs) none (placed-here x xs), none-part p xs (placed_by number x xs) (λ y there. placed-kept x y xs there) none)

  -- so that is the one that is found
  pub found_by_number : (x : X) (xs : List X) → Ascends (map number xs) → In x xs → find (λ y. number y == number x) xs ≡ Some x
  found_by_number x xs ascends there =
      let one = found-some (λ y. number y == number x) xs (list_any-In (λ y. number y == number x) x xs there (eq-eqb (number x) (number x) refl)) in
      let at = find-In (λ y. number y == number x) one.0 xs one.1 in
      one.1 ∙ ap Some (one_of_number one.0 x xs ascends at.0 there (eqb-true (number one.0) (number x) at.1))

  -- numbers that ascend below a bound are no more than it
  pub ascend_few : (first last : ℕ) (xs : List X) → first ≤ last → AllByRecursion (λ n. first ≤ n) (map number xs) → ((x : X) → In x xs → number x < last) → Ascends (map number xs) → first + length xs ≤ last
  ascend_few first last [] fits from below ascends = omega (arith, fits)
  ascend_few first last (x ∷ xs) fits from below ascends =
      let here = below x (inl refl) in
      let start = from.0 in
      let rest = ascend_few (suc (number x)) last xs here ascends.0 (λ y there. below y (inr there)) ascends.1 in
      omega (arith, start, rest)

  pub few_below : (last : ℕ) (xs : List X) → ((x : X) → In x xs → number x < last) → Ascends (map number xs) → length xs ≤ last
  few_below last xs below ascends = let few = ascend_few 0 last xs (omega arith) (any_number (map number xs)) below ascends in omega (arith, few)
    where
      any_number : (ns : List ℕ) → AllByRecursion (λ n. 0 ≤ n) ns
      any_number [] = tt
      any_number (n ∷ ns) = (omega arith, any_number ns)
