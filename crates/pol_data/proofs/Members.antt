-- The elements of a list: where they stand in a longer or a filtered one, and what tests of a whole list say of them.
use Rattle.std.proofs.Common.{◌≡◌, ℕ, zero, suc, ◌<◌, Bool, true, false, cond, List, [], ◌∷◌, length, get_or, filter, Option, Some, None, MatchOption, refl, sym, ap, subst, ◌∙◌, ◌⊎◌, inl, inr, arith}
use Rattle.std.specs.List.{All, AllByRecursion, Contains, find, list_all, list_any}
use Rattle.std.proofs.lemmas.Bool.{and_parts, and_from, cases_Bool, or_cases, or_parts}
use Rattle.std.proofs.lemmas.List.Elements.{Contains-get_or}

module _ {X : Type 0} where
  pub Contains-here : (x : X) (xs : List X) → Contains (x ∷ xs) x
  Contains-here x xs = (0, omega arith, refl)

  pub Contains-later : (y : X) (xs : List X) (x : X) → Contains xs x → Contains (y ∷ xs) x
  Contains-later y xs x (k, below, at) = (suc k, omega arith, at)

  pub Contains-cases : (y : X) (xs : List X) (x : X) → Contains (y ∷ xs) x → (y ≡ x) ⊎ Contains xs x
  Contains-cases y xs x (zero, below, at) = inl at
  Contains-cases y xs x (suc k, below, at) = inr (k, omega arith, at)

  -- ---- membership by recursion
  abbrev pub In : X → List X → Type 0
  In x [] = ⊥
  In x (y ∷ ys) = (y ≡ x) ⊎ In x ys

  pub In-get_or : (xs : List X) (k : ℕ) (d : X) → k < length xs → In (get_or xs k d) xs
  In-get_or [] k d below = absurd (omega arith)
  In-get_or (x ∷ xs) zero d below = inl refl
  In-get_or (x ∷ xs) (suc k) d below = inr (In-get_or xs k d (omega arith))

  pub In-from_Contains : (xs : List X) (x : X) → Contains xs x → In x xs
  In-from_Contains xs x at = subst (λ y. In y xs) at.2 (In-get_or xs at.0 x at.1)

  pub Contains-from_In : (xs : List X) (x : X) → In x xs → Contains xs x
  Contains-from_In [] x there = elim there [ ]
  Contains-from_In (y ∷ ys) x (inl same) = (0, omega arith, same)
  Contains-from_In (y ∷ ys) x (inr later) = Contains-later y ys x (Contains-from_In ys x later)

  -- ---- a filtered list has just the elements that pass
  filter_chosen : (b : Bool) (y x : X) (ys zs : List X) → (b ≡ true → (y ≡ x) ⊎ Contains ys x → Contains zs x) → (Contains ys x → Contains zs x) → Contains (cond b (y ∷ ys) ys) x → Contains zs x
  filter_chosen true y x ys zs taken left there = taken refl (Contains-cases y ys x there)
  filter_chosen false y x ys zs taken left there = left there

  pub Contains-from_filter : (p : X → Bool) (xs : List X) (x : X) → Contains (filter p xs) x → Contains xs x
  Contains-from_filter p [] x there = there
  Contains-from_filter p (y ∷ xs) x there =
      filter_chosen (p y) y x (filter p xs) (y ∷ xs)
      (λ _ either. elim either [ inl same ↦ (0, omega arith, same) | inr later ↦ Contains-later y xs x (Contains-from_filter p xs x later) ])
      (λ later. Contains-later y xs x (Contains-from_filter p xs x later))
      there

  pub passes-from_filter : (p : X → Bool) (xs : List X) (x : X) → Contains (filter p xs) x → p x ≡ true
  passes-from_filter p [] x there = absurd (let below = there.1 in omega arith)
  passes-from_filter p (y ∷ xs) x there =
      elim (cases_Bool (p y)) [
        | inl passes ↦ elim (Contains-cases y (filter p xs) x (rw passes at there)) [
          | inl same ↦ ap p (sym same) ∙ passes
          | inr later ↦ passes-from_filter p xs x later
        ]
        | inr fails ↦ passes-from_filter p xs x (rw fails at there)
      ]

  pub Contains-filter : (p : X → Bool) (xs : List X) (x : X) → p x ≡ true → Contains xs x → Contains (filter p xs) x
  Contains-filter p [] x passes there = there
  Contains-filter p (y ∷ xs) x passes there =
      elim (Contains-cases y xs x there) [
        | inl is ↦ rw (ap p is ∙ passes) (0, omega arith, is)
        | inr later ↦ elim (p y) as (λ b. Contains (cond b (y ∷ filter p xs) (filter p xs)) x) [
          | true ↦ Contains-later y (filter p xs) x (Contains-filter p xs x passes later)
          | false ↦ Contains-filter p xs x passes later
        ]
      ]

  -- ---- what holds of all
  pub All-from_Contains : (P : X → Type 0) (xs : List X) → ((x : X) → Contains xs x → P x) → All P xs
  All-from_Contains P xs all k d below = all (get_or xs k d) (Contains-get_or xs k d below)

  pub every-in : (P : X → Type 0) (xs : List X) → AllByRecursion P xs → (x : X) → In x xs → P x
  every-in P [] all x there = elim there [ ]
  every-in P (y ∷ ys) all x (inl same) = subst P same all.0
  every-in P (y ∷ ys) all x (inr later) = every-in P ys all.1 x later

  pub every-from_in : (P : X → Type 0) (xs : List X) → ((x : X) → In x xs → P x) → AllByRecursion P xs
  every-from_in P [] holds = tt
  every-from_in P (y ∷ ys) holds = (holds y (inl refl), every-from_in P ys (λ x later. holds x (inr later)))

  -- ---- tests of a whole list
  module _ (p : X → Bool) where
    pub list_all-in : (xs : List X) → list_all p xs ≡ true → (x : X) → Contains xs x → p x ≡ true
    list_all-in [] all x there = absurd (let below = there.1 in omega arith)
    list_all-in (y ∷ xs) all x there =
        let both = and_parts (p y) (list_all p xs) all in
        elim (Contains-cases y xs x there) [ inl is ↦ ap p (sym is) ∙ both.0 | inr later ↦ list_all-in xs both.1 x later ]

    pub list_all-from_in : (xs : List X) → ((x : X) → Contains xs x → p x ≡ true) → list_all p xs ≡ true
    list_all-from_in [] all = refl
    list_all-from_in (y ∷ xs) all =
        and_from (p y) (list_all p xs) (all y (Contains-here y xs)) (list_all-from_in xs (λ x there. all x (Contains-later y xs x there)))

    pub list_any-none_in : (xs : List X) → list_any p xs ≡ false → (x : X) → In x xs → p x ≡ false
    list_any-none_in [] none x there = elim there [ ]
    list_any-none_in (y ∷ xs) none x (inl same) = ap p (sym same) ∙ (or_parts (p y) (list_any p xs) none).0
    list_any-none_in (y ∷ xs) none x (inr later) = list_any-none_in xs (or_parts (p y) (list_any p xs) none).1 x later

    pub list_any-found : (xs : List X) → list_any p xs ≡ true → (x : X) × Contains xs x × (p x ≡ true)
    list_any-found [] some = absurd (let wrong : ⊥ = cc in wrong)
    list_any-found (y ∷ xs) some =
        elim (or_cases (p y) (list_any p xs) some) [
          | inl here ↦ (y, Contains-here y xs, here)
          | inr later ↦ (let found = list_any-found xs later in (found.0, Contains-later y xs found.0 found.1, found.2))
        ]

    found_later : (y : X) (xs : List X) → p y ≡ false → (r : Option X)
        → MatchOption r ((x : X) → Contains xs x → p x ≡ false) (λ x. Contains xs x × (p x ≡ true))
        → MatchOption r ((x : X) → Contains (y ∷ xs) x → p x ≡ false) (λ x. Contains (y ∷ xs) x × (p x ≡ true))
    found_later y xs fails None none = λ x there. elim (Contains-cases y xs x there) [ inl is ↦ ap p (sym is) ∙ fails | inr later ↦ none x later ]
    found_later y xs fails (Some x) found = (Contains-later y xs x found.0, found.1)

    -- what `find` gives is an element that passes, and where it gives none no element does
    pub find-gives : (xs : List X) → MatchOption (find p xs) ((x : X) → Contains xs x → p x ≡ false) (λ x. Contains xs x × (p x ≡ true))
    find-gives [] = λ x there. absurd (let below = there.1 in omega arith)
    find-gives (y ∷ xs) =
        let Gives : Option X → Type 0 = λ r. MatchOption r ((x : X) → Contains (y ∷ xs) x → p x ≡ false) (λ x. Contains (y ∷ xs) x × (p x ≡ true)) in
        elim (cases_Bool (p y)) [
          | inl passes ↦ (let At : Bool → Type 0 = λ b. Gives (cond b (Some y) (find p xs)) in subst At (sym passes) (Contains-here y xs, passes))
          | inr fails ↦ (let At : Bool → Type 0 = λ b. Gives (cond b (Some y) (find p xs)) in subst At (sym fails) (found_later y xs fails (find p xs) (find-gives xs)))
        ]
