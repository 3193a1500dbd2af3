-- Lists whose elements' keys differ: what a filter, an insertion and a replacement leave of that, and what is found.
use Rattle.std.proofs.Common.{zero, suc, ◌≡◌, ℕ, ◌+◌, Bool, true, false, not, cond, List, [], ◌∷◌, ◌++◌, map, filter, find, count_by, length, Option, None, Some, inl, inr, refl, sym, ap, ◌∙◌, subst, arith}
use Rattle.std.specs.Bool.{Decides}
use Rattle.std.specs.List.{AllByRecursion, IsDistinct, insert, list_any, sum_by}
use Rattle.std.proofs.lemmas.Bool.{both_ways, cases_Bool, false_from_ne_true, or_parts}
use Rattle.std.proofs.lemmas.List.Edits.{insert_end}
use Rattle.std.proofs.lemmas.List.Sums.{sum_by-cons}
use Rattle.pol_data.proofs.Members.{In}
use Rattle.pol_model_laws.proofs.Membership.{find-In, find-none, none-In}

module _ {X K : Type 0} (key : X → K) {eq : K → K → Bool} (decides : (a b : K) → Decides (eq a b) (a ≡ b)) where
  turned : (a b : K) → eq a b ≡ false → eq b a ≡ false
  turned a b other = false_from_ne_true (eq b a) (λ same. both_ways (eq a b) other ((decides a b).1 (sym ((decides b a).0 same))))

  -- no key of these is this one
  abbrev NoneHas : K → List X → Type 0
  NoneHas k xs = AllByRecursion (λ other. eq k other ≡ false) (map key xs)

  none_has : (k : K) (xs : List X) → list_any (λ x. eq (key x) k) xs ≡ false → NoneHas k xs
  none_has k [] none = tt
  none_has k (x ∷ xs) none = let parts = or_parts (eq (key x) k) _ none in (turned (key x) k parts.0, none_has k xs parts.1)

  none_kept : (b : Bool) (k : K) (x : X) (xs : List X) → eq k (key x) ≡ false → NoneHas k xs → NoneHas k (cond b (x ∷ xs) xs)
  none_kept true k x xs here others = (here, others)
  none_kept false k x xs here others = others

  none_filtered : (p : X → Bool) (k : K) (xs : List X) → NoneHas k xs → NoneHas k (filter p xs)
  none_filtered p k [] none = tt
  none_filtered p k (x ∷ xs) none = none_kept (p x) k x (filter p xs) none.0 (none_filtered p k xs none.1)

  none_inserted : (k : K) (x : X) (i : ℕ) (xs : List X) → eq k (key x) ≡ false → NoneHas k xs → NoneHas k (insert xs i x)
  none_inserted k x zero xs here others = (here, others)
  none_inserted k x (suc i) [] here others = (here, tt)
  none_inserted k x (suc i) (y ∷ ys) here others = (others.0, none_inserted k x i ys here others.1)

  abbrev AllDiffer : List X → Type 0
  AllDiffer xs = IsDistinct eq (map key xs)

  differ_kept : (b : Bool) (x : X) (xs : List X) → NoneHas (key x) xs → AllDiffer xs → AllDiffer (cond b (x ∷ xs) xs)
  unfolding IsDistinct
  differ_kept true x xs here others = (here, others)
  differ_kept false x xs here others = others

  pub differ_filtered : (p : X → Bool) (xs : List X) → AllDiffer xs → AllDiffer (filter p xs)
  unfolding IsDistinct
  differ_filtered p [] differ = tt
  differ_filtered p (x ∷ xs) differ =
      differ_kept (p x) x (filter p xs) (none_filtered p (key x) xs differ.0) (differ_filtered p xs differ.1)

  pub differ_inserted : (x : X) (i : ℕ) (xs : List X) → list_any (λ y. eq (key y) (key x)) xs ≡ false → AllDiffer xs → AllDiffer (insert xs i x)
  unfolding IsDistinct
  differ_inserted x zero xs none differ = (none_has (key x) xs none, differ)
  differ_inserted x (suc i) [] none differ = (tt, tt)
  differ_inserted x (suc i) (y ∷ ys) none differ =
      let parts = or_parts (eq (key y) (key x)) _ none in
      (none_inserted (key y) x i ys parts.0 differ.0, differ_inserted x i ys parts.1 differ.1)

  pub differ_pushed : (x : X) (xs : List X) → list_any (λ y. eq (key y) (key x)) xs ≡ false → AllDiffer xs → AllDiffer (xs ++ x ∷ [])
  differ_pushed x xs none differ = subst AllDiffer (insert_end xs x) (differ_inserted x (length xs) xs none differ)

  none_In : (k : K) (x : X) (xs : List X) → NoneHas k xs → In x xs → k ≡ key x → ⊥
  none_In k x [] none there same = elim there [ ]
  none_In k x (y ∷ ys) none (inl here) same = both_ways (eq k (key y)) none.0 ((decides k (key y)).1 (same ∙ ap key (sym here)))
  none_In k x (y ∷ ys) none (inr later) same = none_In k x ys none.1 later same

  -- each key is that of one element
  pub one_of_key : (x y : X) (xs : List X) → AllDiffer xs → In x xs → In y xs → key x ≡ key y → x ≡ y
  unfolding IsDistinct
  one_of_key x y [] differ there here same = elim there [ ]
  one_of_key x y (z ∷ zs) differ (inl first) (inl second) same = sym first ∙ second
  one_of_key x y (z ∷ zs) differ (inl first) (inr second) same = absurd (none_In (key z) y zs differ.0 second (ap key first ∙ same))
  one_of_key x y (z ∷ zs) differ (inr first) (inl second) same = absurd (none_In (key z) x zs differ.0 first (ap key second ∙ sym same))
  one_of_key x y (z ∷ zs) differ (inr first) (inr second) same = one_of_key x y zs differ.1 first second same

  -- so that is the one that is found
  pub found_by_key : (x : X) (xs : List X) → AllDiffer xs → In x xs → find (λ y. eq (key y) (key x)) xs ≡ Some x
  found_by_key x xs differ there = found (find (λ y. eq (key y) (key x)) xs) refl
    where
      found : (o : Option X) → find (λ y. eq (key y) (key x)) xs ≡ o → o ≡ Some x
      found None is =
          absurd (both_ways (eq (key x) (key x)) (none-In (λ y. eq (key y) (key x)) x xs (find-none (λ y. eq (key y) (key x)) xs is) there) ((decides (key x) (key x)).1 refl))
      found (Some y) is =
          let at = find-In (λ y. eq (key y) (key x)) y xs is in
          ap Some (one_of_key y x xs differ at.0 there ((decides (key y) (key x)).0 at.1))

  none_removed : (k : K) (xs : List X) → NoneHas k xs → filter (λ x. not (eq (key x) k)) xs ≡ xs
  none_removed k [] none = refl
  none_removed k (x ∷ xs) none =
      let here = turned k (key x) none.0 in
      let others = none_removed k xs none.1 in
      rw (here, others) refl

  -- what is removed is what was found
  pub removed_sum : (f : X → ℕ) (k : K) (y : X) (xs : List X) → AllDiffer xs → find (λ x. eq (key x) k) xs ≡ Some y
      → sum_by f (filter (λ x. not (eq (key x) k)) xs) + f y ≡ sum_by f xs
  unfolding IsDistinct
  removed_sum f k y [] differ is = absurd cc
  removed_sum f k y (x ∷ xs) differ is =
      elim (cases_Bool (eq (key x) k)) [
        | inl same ↦
            let found : Some x ≡ Some y = rw same at is in
            let one : x ≡ y = cc in
            let others = none_removed k xs (subst (λ j. NoneHas j xs) ((decides (key x) k).0 same) differ.0) in
            rw (same, others) (omega (arith, sum_by-cons f x xs, ap f one))
        | inr other ↦
            let found : find (λ x. eq (key x) k) xs ≡ Some y = rw other at is in
            let others = removed_sum f k y xs differ.1 found in
            rw other (omega (arith, sum_by-cons f x xs, sum_by-cons f x (filter (λ x. not (eq (key x) k)) xs), others))
      ]

  -- a key that is there is there once
  none_counted : (k : K) (xs : List X) → NoneHas k xs → count_by (λ x. eq (key x) k) xs ≡ 0
  none_counted k [] none = refl
  none_counted k (x ∷ xs) none =
      let here = turned k (key x) none.0 in
      let others = none_counted k xs none.1 in
      sum_by-cons (λ x. cond (eq (key x) k) 1 0) x xs ∙ rw (here, others) refl

  pub counted_once : (k : K) (xs : List X) → AllDiffer xs → count_by (λ x. eq (key x) k) xs ≡ cond (list_any (λ x. eq (key x) k) xs) 1 0
  unfolding IsDistinct
  counted_once k [] differ = refl
  counted_once k (x ∷ xs) differ =
      sum_by-cons (λ x. cond (eq (key x) k) 1 0) x xs
      ∙ elim (cases_Bool (eq (key x) k)) [
        | inl same ↦
            let others = none_counted k xs (subst (λ j. NoneHas j xs) ((decides (key x) k).0 same) differ.0) in
            rw (same, others) refl
        | inr other ↦
            let others = counted_once k xs differ.1 in
            rw (other, others) (omega arith)
      ]
