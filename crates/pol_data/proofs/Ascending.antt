-- A strictly sorted list is fixed by its elements.
use Rattle.std.proofs.Common.{◌≡◌, List, [], ◌∷◌, inl, inr, refl, sym, ◌∙◌, ap, subst}
use Rattle.std.specs.List.{AllByRecursion}
use Rattle.std.specs.List.Sorted.{IsStrictlySortedBy}
use Rattle.std.specs.declared.cmp.Ordering.{Ordering}
use Rattle.std.specs.declared.cmp.Ordering.TheVariants.{Less, Greater}
use Rattle.std.specs.Ordering.{ordering_reverse}
use Rattle.std.specs.Cmp.{IsTotalOrder}
use Rattle.std.proofs.lemmas.Cmp.{tied_itself}
use Rattle.pol_data.proofs.Members.{In, every-in}

module _ {X : Type 0} {R : X → X → Ordering} (order : IsTotalOrder R) where
  -- nothing stands before itself
  not_below_itself : (x : X) → R x x ≡ Less → ⊥
  not_below_itself x below = cc (tied_itself order x, below)

  -- two elements don't stand before each other
  not_both_below : (x y : X) → R x y ≡ Less → R y x ≡ Less → ⊥
  not_both_below x y one other =
      let e : Less ≡ Greater = sym one ∙ (order.antisymm x y ∙ ap ordering_reverse other) in cc

  same_head : (x y : X) (xs ys : List X) → AllByRecursion (λ z. R x z ≡ Less) xs → AllByRecursion (λ z. R y z ≡ Less) ys → In x (y ∷ ys) → In y (x ∷ xs) → x ≡ y
  same_head x y xs ys above_x above_y (inl same) back = sym same
  same_head x y xs ys above_x above_y (inr later) (inl same) = same
  same_head x y xs ys above_x above_y (inr x_later) (inr y_later) =
      absurd (not_both_below x y (every-in _ xs above_x y y_later) (every-in _ ys above_y x x_later))

  in_tail : (x y z : X) (xs ys : List X) → x ≡ y → AllByRecursion (λ w. R x w ≡ Less) xs → In z xs → In z (y ∷ ys) → In z ys
  in_tail x y z xs ys same above there (inl head) =
      absurd (not_below_itself x (subst (λ w. R x w ≡ Less) (sym (same ∙ head)) (every-in _ xs above z there)))
  in_tail x y z xs ys same above there (inr later) = later

  -- two strictly sorted lists with the same members are equal
  pub same_members : (xs ys : List X) → IsStrictlySortedBy R xs → IsStrictlySortedBy R ys
      → ((x : X) → In x xs → In x ys) → ((x : X) → In x ys → In x xs) → xs ≡ ys
  unfolding IsStrictlySortedBy
  same_members [] [] sorted_xs sorted_ys to back = refl
  same_members [] (y ∷ ys) sorted_xs sorted_ys to back = absurd (back y (inl refl))
  same_members (x ∷ xs) [] sorted_xs sorted_ys to back = absurd (to x (inl refl))
  same_members (x ∷ xs) (y ∷ ys) sorted_xs sorted_ys to back =
      let same : x ≡ y = same_head x y xs ys sorted_xs.0 sorted_ys.0 (to x (inl refl)) (back y (inl refl)) in
      let rest : xs ≡ ys = same_members xs ys sorted_xs.1 sorted_ys.1
      (λ z there. in_tail x y z xs ys same sorted_xs.0 there (to z (inr there)))
      (λ z there. in_tail y x z ys xs (sym same) sorted_ys.0 there (back z (inr there))) in
      λ i. same i ∷ rest i
