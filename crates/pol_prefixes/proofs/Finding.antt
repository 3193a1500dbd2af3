-- What is found in rows after one comes, and after a count changes.
use Rattle.std.proofs.Common.{zero, suc, ◌≡◌, ℕ, ◌||◌, Bool, true, false, cond, List, [], ◌∷◌, map, find, Option, None, Some, option_map, refl, ap, ◌∙◌}
use Rattle.std.specs.List.{insert, list_any}
use Rattle.std.proofs.lemmas.Bool.{cond-false, cond-true, or_parts}
use Rattle.pol_model.specs.declared.row.IdentityRow.{IdentityRow}
use Rattle.pol_model.specs.Identities.{number_where, recounted}
use Rattle.pol_model_laws.proofs.Rows.{recounted-is, with_count}

module _ {X : Type 0} (p : X → Bool) (x : X) where
  -- an element that doesn't pass changes nothing
  pub insert-other : (i : ℕ) (xs : List X) → p x ≡ false → find p (insert xs i x) ≡ find p xs
  insert-other zero xs fails = cond-false (p x) (Some x) (find p xs) fails
  insert-other (suc i) [] fails = cond-false (p x) (Some x) None fails
  insert-other (suc i) (y ∷ ys) fails = ap (λ o. cond (p y) (Some y) o) (insert-other i ys fails)

  -- one that passes is found where no other does
  pub insert-own : (i : ℕ) (xs : List X) → p x ≡ true → list_any p xs ≡ false → find p (insert xs i x) ≡ Some x
  insert-own zero xs passes none = cond-true (p x) (Some x) (find p xs) passes
  insert-own (suc i) [] passes none = cond-true (p x) (Some x) None passes
  insert-own (suc i) (y ∷ ys) passes none =
      let parts = or_parts (p y) (list_any p ys) none in
      cond-false (p y) (Some y) (find p (insert ys i x)) parts.0 ∙ insert-own i ys passes parts.1

  swapped : (a b c : Bool) → (a || (b || c)) ≡ (b || (a || c))
  swapped true true c = refl
  swapped true false c = refl
  swapped false true c = refl
  swapped false false c = refl

  pub any-insert : (i : ℕ) (xs : List X) → list_any p (insert xs i x) ≡ (p x || list_any p xs)
  any-insert zero xs = refl
  any-insert (suc i) [] = refl
  any-insert (suc i) (y ∷ ys) = ap (λ b. p y || b) (any-insert i ys) ∙ swapped (p y) (p x) (list_any p ys)

-- a count isn't what rows are found by
module _ (passes : IdentityRow → Bool) (blind : (row : IdentityRow) (count : ℕ) → passes (with_count row count) ≡ passes row) where
  first_of : (b : Bool) (x y : IdentityRow) (o q : Option IdentityRow) → x.number ≡ y.number → option_map (λ row. row.number) o ≡ option_map (λ row. row.number) q
      → option_map (λ row. row.number) (cond b (Some x) o) ≡ option_map (λ row. row.number) (cond b (Some y) q)
  first_of true x y o q same rest = ap Some same
  first_of false x y o q same rest = rest

  pub recounted-where : (number : ℕ) (count : ℕ → ℕ) (rows : List IdentityRow) → number_where passes (map (recounted number count) rows) ≡ number_where passes rows
  recounted-where number count [] = refl
  recounted-where number count (row ∷ rows) =
      let is = recounted-is number count row in
      let here : passes (recounted number count row) ≡ passes row = ap passes is ∙ blind row _ in
      ap (λ b. option_map (λ row. row.number) (cond b (Some (recounted number count row)) (find passes (map (recounted number count) rows)))) here
      ∙ first_of (passes row) (recounted number count row) row (find passes (map (recounted number count) rows)) (find passes rows) (ap (λ r. r.number) is) (recounted-where number count rows)
