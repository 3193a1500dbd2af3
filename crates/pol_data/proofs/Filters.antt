-- Tests of a whole list, and what is left of them in a filtered one.
use Rattle.std.proofs.Common.{◌≡◌, Bool, true, false, cond, ◌&&◌, ◌||◌, List, [], ◌∷◌, filter, refl, ◌∙◌, ap}
use Rattle.std.specs.List.{list_all, list_any}
use Rattle.std.specs.Cmp.{first_so, second_so}
use Rattle.std.proofs.lemmas.Bool.{and_from, false_from_ne_true, both_ways}

module _ {X : Type 0} where
  -- what passes passes a weaker test
  pub list_all-weaker : (p q : X → Bool) → ((x : X) → p x ≡ true → q x ≡ true) → (xs : List X) → list_all p xs ≡ true → list_all q xs ≡ true
  list_all-weaker p q weaker [] all = refl
  list_all-weaker p q weaker (x ∷ xs) all =
      and_from (q x) (list_all q xs) (weaker x (first_so (p x) (list_all p xs) all)) (list_all-weaker p q weaker xs (second_so (p x) (list_all p xs) all))

  -- two tests as one
  pub list_all-both : (p q : X → Bool) (xs : List X) → list_all p xs ≡ true → list_all q xs ≡ true → list_all (λ x. p x && q x) xs ≡ true
  list_all-both p q [] first second = refl
  list_all-both p q (x ∷ xs) first second =
      and_from (p x && q x) (list_all (λ y. p y && q y) xs)
      (and_from (p x) (q x) (first_so (p x) (list_all p xs) first) (first_so (q x) (list_all q xs) second))
      (list_all-both p q xs (second_so (p x) (list_all p xs) first) (second_so (q x) (list_all q xs) second))

  -- a test that passes only what q passes finds the same among what q keeps
  pub list_any-filter : (p q : X → Bool) → ((x : X) → p x ≡ true → q x ≡ true) → (xs : List X) → list_any p xs ≡ list_any p (filter q xs)
  list_any-filter p q implies [] = refl
  list_any-filter p q implies (x ∷ xs) =
      elim (q x) as (λ b. q x ≡ b → (p x || list_any p xs) ≡ list_any p (cond b (x ∷ filter q xs) (filter q xs))) [
        | true ↦ λ _. ap (λ b. p x || b) (list_any-filter p q implies xs)
        | false ↦ λ drops.
            let fails : p x ≡ false = false_from_ne_true (p x) (λ passes. both_ways (q x) drops (implies x passes)) in
            ap (λ b. b || list_any p xs) fails ∙ list_any-filter p q implies xs
      ] refl

  -- where nothing passes nothing is kept
  pub filter-none : (p : X → Bool) (xs : List X) → list_any p xs ≡ false → filter p xs ≡ []
  filter-none p [] none = refl
  filter-none p (x ∷ xs) none =
      elim (p x) as (λ b. (b || list_any p xs) ≡ false → cond b (x ∷ filter p xs) (filter p xs) ≡ []) [
        | true ↦ λ none. cc
        | false ↦ λ none. filter-none p xs none
      ] none
