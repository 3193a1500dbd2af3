-- Which elements a list has after `++`, `map`, `filter` and an insertion, and what `find` and `list_any` tell of them.
use Rattle.std.proofs.Common.{zero, suc, ◌≡◌, ℕ, Bool, true, false, ◌||◌, cond, List, [], ◌∷◌, ◌++◌, map, filter, find, Option, None, Some, ◌⊎◌, inl, inr, refl, sym, ap, subst, ◌∙◌}
use Rattle.std.specs.List.{list_any, insert}
use Rattle.std.proofs.lemmas.Bool.{false≢true, both_ways, or_cases, or_left, or_right, or_parts, false_from_ne_true}
use Rattle.pol_data.proofs.Members.{In}

module _ {X : Type 0} where
  pub In-append : (x : X) (xs ys : List X) → In x (xs ++ ys) → In x xs ⊎ In x ys
  In-append x [] ys there = inr there
  In-append x (y ∷ xs) ys (inl same) = inl (inl same)
  In-append x (y ∷ xs) ys (inr later) = elim (In-append x xs ys later) [ inl left ↦ inl (inr left) | inr right ↦ inr right ]

  pub In-left : (x : X) (xs ys : List X) → In x xs → In x (xs ++ ys)
  In-left x [] ys there = elim there [ ]
  In-left x (y ∷ xs) ys (inl same) = inl same
  In-left x (y ∷ xs) ys (inr later) = inr (In-left x xs ys later)

  pub In-right : (x : X) (xs ys : List X) → In x ys → In x (xs ++ ys)
  In-right x [] ys there = there
  In-right x (y ∷ xs) ys there = inr (In-right x xs ys there)

  kept : (b : Bool) (x y : X) (ys : List X) → In x (cond b (y ∷ ys) ys) → ((y ≡ x) × (b ≡ true)) ⊎ In x ys
  kept true x y ys (inl same) = inl (same, refl)
  kept true x y ys (inr later) = inr later
  kept false x y ys later = inr later

  keep : (b : Bool) (x y : X) (ys : List X) → ((y ≡ x) × (b ≡ true)) ⊎ In x ys → In x (cond b (y ∷ ys) ys)
  keep true x y ys (inl here) = inl here.0
  keep true x y ys (inr later) = inr later
  keep false x y ys (inl here) = absurd (false≢true here.1)
  keep false x y ys (inr later) = later

  -- what a filter keeps
  pub In-filter : (p : X → Bool) (x : X) (xs : List X) → In x (filter p xs) → In x xs × (p x ≡ true)
  In-filter p x [] there = elim there [ ]
  In-filter p x (y ∷ ys) there =
      elim (kept (p y) x y (filter p ys) there) [
        | inl here ↦ (inl here.0, subst (λ z. p z ≡ true) here.0 here.1)
        | inr later ↦ let rest = In-filter p x ys later in (inr rest.0, rest.1)
      ]

  pub filter-In : (p : X → Bool) (x : X) (xs : List X) → In x xs → p x ≡ true → In x (filter p xs)
  filter-In p x [] there passes = elim there [ ]
  filter-In p x (y ∷ ys) (inl same) passes = keep (p y) x y (filter p ys) (inl (same, subst (λ z. p z ≡ true) (sym same) passes))
  filter-In p x (y ∷ ys) (inr later) passes = keep (p y) x y (filter p ys) (inr (filter-In p x ys later passes))

  -- an element that passes
  pub list_any-In : (p : X → Bool) (x : X) (xs : List X) → In x xs → p x ≡ true → list_any p xs ≡ true
  list_any-In p x [] there passes = elim there [ ]
  list_any-In p x (y ∷ ys) (inl same) passes = or_left (p y) _ (subst (λ z. p z ≡ true) (sym same) passes)
  list_any-In p x (y ∷ ys) (inr later) passes = or_right (p y) _ (list_any-In p x ys later passes)

  pub In-list_any : (p : X → Bool) (xs : List X) → list_any p xs ≡ true → (x : X) × In x xs × (p x ≡ true)
  In-list_any p [] some = absurd (false≢true some)
  In-list_any p (y ∷ ys) some =
      elim (or_cases (p y) _ some) [
        | inl here ↦ (y, inl refl, here)
        | inr later ↦ let rest = In-list_any p ys later in (rest.0, inr rest.1, rest.2)
      ]

  pub none-In : (p : X → Bool) (x : X) (xs : List X) → list_any p xs ≡ false → In x xs → p x ≡ false
  none-In p x [] none there = elim there [ ]
  none-In p x (y ∷ ys) none (inl same) = subst (λ z. p z ≡ false) same (or_parts (p y) _ none).0
  none-In p x (y ∷ ys) none (inr later) = none-In p x ys (or_parts (p y) _ none).1 later

  -- where none of a list passes, none of a part of it does
  pub none-part : (p : X → Bool) (xs ys : List X) → ((x : X) → In x xs → In x ys) → list_any p ys ≡ false → list_any p xs ≡ false
  none-part p xs ys part none =
      false_from_ne_true (list_any p xs) (λ some. let one = In-list_any p xs some in both_ways (p one.0) (none-In p one.0 ys none (part one.0 one.1)) one.2)

  -- what `find` finds
  found : (b : Bool) (x y : X) (o : Option X) → cond b (Some y) o ≡ Some x → ((y ≡ x) × (b ≡ true)) ⊎ (o ≡ Some x)
  found true x y o is = inl (cc, refl)
  found false x y o is = inr is

  pub find-In : (p : X → Bool) (x : X) (xs : List X) → find p xs ≡ Some x → In x xs × (p x ≡ true)
  find-In p x [] is = absurd cc
  find-In p x (y ∷ ys) is =
      elim (found (p y) x y (find p ys) is) [
        | inl here ↦ (inl here.0, subst (λ z. p z ≡ true) here.0 here.1)
        | inr later ↦ let rest = find-In p x ys later in (inr rest.0, rest.1)
      ]

  not_found : (b : Bool) (y : X) (o : Option X) → cond b (Some y) o ≡ None → (b ≡ false) × (o ≡ None)
  not_found true y o is = absurd cc
  not_found false y o is = (refl, is)

  pub find-none : (p : X → Bool) (xs : List X) → find p xs ≡ None → list_any p xs ≡ false
  find-none p [] is = refl
  find-none p (y ∷ ys) is =
      let parts = not_found (p y) y (find p ys) is in
      ap (λ b. b || list_any p ys) parts.0 ∙ find-none p ys parts.1

  -- one that passes is found
  pub found-some : (p : X → Bool) (xs : List X) → list_any p xs ≡ true → (x : X) × (find p xs ≡ Some x)
  found-some p xs some = told (find p xs) refl
    where
      told : (o : Option X) → find p xs ≡ o → (x : X) × (find p xs ≡ Some x)
      told None is = absurd (both_ways (list_any p xs) (find-none p xs is) some)
      told (Some x) is = (x, is)

  -- an insertion keeps all elements and adds one
  pub In-insert : (x y : X) (i : ℕ) (xs : List X) → In y (insert xs i x) → (x ≡ y) ⊎ In y xs
  In-insert x y zero xs (inl same) = inl same
  In-insert x y zero xs (inr later) = inr later
  In-insert x y (suc i) [] (inl same) = inl same
  In-insert x y (suc i) [] (inr later) = elim later [ ]
  In-insert x y (suc i) (z ∷ zs) (inl same) = inr (inl same)
  In-insert x y (suc i) (z ∷ zs) (inr later) =
      elim (In-insert x y i zs later) [ inl same ↦ inl same | inr there ↦ inr (inr there) ]

  pub insert-here : (x : X) (i : ℕ) (xs : List X) → In x (insert xs i x)
  insert-here x zero xs = inl refl
  insert-here x (suc i) [] = inl refl
  insert-here x (suc i) (z ∷ zs) = inr (insert-here x i zs)

  pub insert-kept : (x y : X) (i : ℕ) (xs : List X) → In y xs → In y (insert xs i x)
  insert-kept x y zero xs there = inr there
  insert-kept x y (suc i) [] there = elim there [ ]
  insert-kept x y (suc i) (z ∷ zs) (inl same) = inl same
  insert-kept x y (suc i) (z ∷ zs) (inr later) = inr (insert-kept x y i zs later)

module _ {X Y : Type 0} (f : X → Y) where
  -- an element of a mapped list is the image of one
  pub In-map : (y : Y) (xs : List X) → In y (map f xs) → (x : X) × In x xs × (f x ≡ y)
  In-map y [] there = elim there [ ]
  In-map y (x ∷ xs) (inl same) = (x, inl refl, same)
  In-map y (x ∷ xs) (inr later) = let rest = In-map y xs later in (rest.0, inr rest.1, rest.2)

  pub map-In : (x : X) (xs : List X) → In x xs → In (f x) (map f xs)
  map-In x [] there = elim there [ ]
  map-In x (z ∷ zs) (inl same) = inl (ap f same)
  map-In x (z ∷ zs) (inr later) = inr (map-In x zs later)

  pub list_any-map : (p : Y → Bool) (xs : List X) → list_any p (map f xs) ≡ list_any (λ x. p (f x)) xs
  list_any-map p [] = refl
  list_any-map p (x ∷ xs) = ap (λ b. p (f x) || b) (list_any-map p xs)
