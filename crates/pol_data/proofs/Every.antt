-- What holds of every element of a list, by recursion on it. `All` of the kit is the same by places: `All-from_recursion` and
-- `recursion_from_All` (`Rattle.std.proofs.lemmas.List.Elements`) lead from one to the other.
use Rattle.std.proofs.Common.{◌≡◌, ℕ, zero, suc, Bool, true, false, cond, IsTrue, List, [], ◌∷◌, ◌++◌, take, drop, map, filter, Some, refl, subst}
use Rattle.std.specs.List.{AllByRecursion, Contains, find, flat_map, insert}
use Rattle.std.proofs.lemmas.List.Elements.{All-contains, All-from_recursion}
use Rattle.std.proofs.lemmas.Option.{same_Some}

module _ {X : Type 0} (P : X → Type 0) where
  pub every-append : (xs ys : List X) → AllByRecursion P xs → AllByRecursion P ys → AllByRecursion P (xs ++ ys)
  every-append [] ys front back = back
  every-append (x ∷ xs) ys front back = (front.0, every-append xs ys front.1 back)

  pub every-take : (k : ℕ) (xs : List X) → AllByRecursion P xs → AllByRecursion P (take k xs)
  every-take zero xs all = tt
  every-take (suc k) [] all = tt
  every-take (suc k) (x ∷ xs) all = (all.0, every-take k xs all.1)

  pub every-drop : (k : ℕ) (xs : List X) → AllByRecursion P xs → AllByRecursion P (drop k xs)
  every-drop zero xs all = all
  every-drop (suc k) [] all = tt
  every-drop (suc k) (x ∷ xs) all = every-drop k xs all.1

  pub every-insert : (xs : List X) (k : ℕ) (new : X) → AllByRecursion P xs → P new → AllByRecursion P (insert xs k new)
  every-insert xs k new all here = every-append (take k xs) (new ∷ drop k xs) (every-take k xs all) (here, every-drop k xs all)

  every_chosen : (b : Bool) (x : X) (xs : List X) → (IsTrue b → P x) → AllByRecursion P xs → AllByRecursion P (cond b (x ∷ xs) xs)
  every_chosen true x xs here rest = (here refl, rest)
  every_chosen false x xs here rest = rest

  -- of those that pass
  pub every-filter : (p : X → Bool) (xs : List X) → AllByRecursion (λ x. IsTrue (p x) → P x) xs → AllByRecursion P (filter p xs)
  every-filter p [] all = tt
  every-filter p (x ∷ xs) all = every_chosen (p x) x (filter p xs) all.0 (every-filter p xs all.1)

  -- a filter takes only away
  pub every-kept : (p : X → Bool) (xs : List X) → AllByRecursion P xs → AllByRecursion P (filter p xs)
  every-kept p [] all = tt
  every-kept p (x ∷ xs) all = every_chosen (p x) x (filter p xs) (λ _. all.0) (every-kept p xs all.1)

  pub every-map : {Y : Type 0} (f : Y → X) (ys : List Y) → AllByRecursion (λ y. P (f y)) ys → AllByRecursion P (map f ys)
  every-map f [] all = tt
  every-map f (y ∷ ys) all = (all.0, every-map f ys all.1)

  pub every-flat_map : {Y : Type 0} (f : Y → List X) (ys : List Y) → AllByRecursion (λ y. AllByRecursion P (f y)) ys → AllByRecursion P (flat_map f ys)
  every-flat_map f [] all = tt
  every-flat_map f (y ∷ ys) all = every-append (f y) (flat_map f ys) all.0 (every-flat_map f ys all.1)

  -- so of one of them
  pub every-contained : (xs : List X) (x : X) → AllByRecursion P xs → Contains xs x → P x
  every-contained xs x all there = All-contains P xs x (All-from_recursion P xs all) there

  every_found_by : (p : X → Bool) (b : Bool) (x y : X) (xs : List X) → P x → (find p xs ≡ Some y → P y) → cond b (Some x) (find p xs) ≡ Some y → P y
  every_found_by p true x y xs here rest is = subst P (same_Some x y is) here
  every_found_by p false x y xs here rest is = rest is

  pub every-found : (p : X → Bool) (xs : List X) (y : X) → AllByRecursion P xs → find p xs ≡ Some y → P y
  every-found p [] y all is = absurd (let wrong : ⊥ = cc in wrong)
  every-found p (x ∷ xs) y all is = every_found_by p (p x) x y xs all.0 (every-found p xs y all.1) is

pub every-weaker : {X : Type 0} (P Q : X → Type 0) → ((x : X) → P x → Q x) → (xs : List X) → AllByRecursion P xs → AllByRecursion Q xs
every-weaker P Q weaker [] all = tt
every-weaker P Q weaker (x ∷ xs) all = (weaker x all.0, every-weaker P Q weaker xs all.1)
