-- How many elements of a list pass a test.
use Rattle.std.proofs.Common.{◌≡◌, ◌+◌, ◌≤◌, Bool, true, false, cond, List, [], ◌∷◌, count_by, refl, ap, ◌∙◌, inl, inr, arith}
use Rattle.std.specs.List.{list_any}
use Rattle.std.proofs.lemmas.Bool.{or_cases, or_parts}
use Rattle.std.proofs.lemmas.List.Sums.{sum_by-cons}

module _ {X : Type 0} (p : X → Bool) where
  pub count_by-cons : (x : X) (xs : List X) → count_by p (x ∷ xs) ≡ cond (p x) 1 0 + count_by p xs
  count_by-cons x xs = sum_by-cons (λ y. cond (p y) 1 0) x xs

  pub count_by-none : (xs : List X) → list_any p xs ≡ false → count_by p xs ≡ 0
  count_by-none [] none = refl
  count_by-none (x ∷ xs) none =
      let both = or_parts (p x) (list_any p xs) none in
      omega (arith, count_by-cons x xs ∙ ap (λ b. cond b 1 0 + count_by p xs) both.0, count_by-none xs both.1)

  pub count_by-some : (xs : List X) → list_any p xs ≡ true → 1 ≤ count_by p xs
  count_by-some [] some = absurd (let wrong : ⊥ = cc in wrong)
  count_by-some (x ∷ xs) some =
      elim (or_cases (p x) (list_any p xs) some) [
        | inl here ↦ omega (arith, count_by-cons x xs ∙ ap (λ b. cond b 1 0 + count_by p xs) here)
        | inr later ↦ omega (arith, count_by-cons x xs, count_by-some xs later)
      ]
