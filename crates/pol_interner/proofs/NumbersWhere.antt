-- The numbers of the places whose key meets a test: they ascend, and each is of such a place.
use Rattle.std.proofs.Common.{zero, suc, ◌≡◌, ℕ, ◌+◌, ◌<◌, ◌≤◌, ◌==◌, Bool, true, false, cond, List, [], ◌∷◌, None, Some, refl, sym, ap, subst, ◌∙◌, inl, inr, arith}
use Rattle.std.specs.List.{AllByRecursion}
use Rattle.std.specs.List.Sorted.{IsStrictlySortedBy}
use Rattle.std.specs.Ordering.{nat_cmp}
use Rattle.std.specs.declared.cmp.Ordering.TheVariants.{Less, Equal, Greater}
use Rattle.std.proofs.lemmas.Bool.{lt-ltb}
use Rattle.std.proofs.lemmas.Option.{none-some, same_Some}
use Rattle.pol_data.proofs.Every.{every-weaker}
use Rattle.pol_data.proofs.Members.{In}
use Rattle.pol_interner.specs.Slots.{Slot, numbers_where, slot_at}

below : (m n : ℕ) → m < n → nat_cmp m n ≡ Less
below m n less = ap (λ b. cond b Less (cond (m == n) Equal Greater)) (lt-ltb m n less)

module _ {K : Type 0} (test : K → Bool) where
  -- a key of a place, and that it meets the test
  pub record IsWhere (first n : ℕ) (slots : List (Slot K)) : Type 0 where
    pub place : ℕ
    pub own : K × ℕ
    pub there : slot_at slots place ≡ Some own
    pub meets : test own.0 ≡ true
    pub number : n ≡ first + place

  where-above : (first : ℕ) (slots : List (Slot K)) → AllByRecursion (λ n. first ≤ n) (numbers_where first test slots)
  where-above first [] = tt
  where-above first (None ∷ slots) = every-weaker _ _ (λ n more. omega (arith, more)) (numbers_where (first + 1) test slots) (where-above (first + 1) slots)
  where-above first (Some own ∷ slots) =
      let later = every-weaker _ _ (λ n more. omega (arith, more)) (numbers_where (first + 1) test slots) (where-above (first + 1) slots) in
      elim (test own.0) as (λ b. AllByRecursion (λ n. first ≤ n) (cond b (first ∷ numbers_where (first + 1) test slots) (numbers_where (first + 1) test slots))) [
        | true ↦ (omega arith, later)
        | false ↦ later
      ]

  pub where-ascends : (first : ℕ) (slots : List (Slot K)) → IsStrictlySortedBy nat_cmp (numbers_where first test slots)
  unfolding IsStrictlySortedBy
  where-ascends first [] = tt
  where-ascends first (None ∷ slots) = where-ascends (first + 1) slots
  where-ascends first (Some own ∷ slots) =
      let above = every-weaker _ _ (λ n more. below first n (omega (arith, more))) (numbers_where (first + 1) test slots) (where-above (first + 1) slots) in
      elim (test own.0) as (λ b. IsStrictlySortedBy nat_cmp (cond b (first ∷ numbers_where (first + 1) test slots) (numbers_where (first + 1) test slots))) [
        | true ↦ (above, where-ascends (first + 1) slots)
        | false ↦ where-ascends (first + 1) slots
      ]

  one_later : (first n : ℕ) (slot : Slot K) (slots : List (Slot K)) → IsWhere (first + 1) n slots → IsWhere first n (slot ∷ slots)
  one_later first n slot slots is = record { place = suc is.place; own = is.own; there = is.there; meets = is.meets; number = omega (arith, is.number) }

  -- each number is of a place whose key meets the test
  pub where-from : (first n : ℕ) (slots : List (Slot K)) → In n (numbers_where first test slots) → IsWhere first n slots
  where-from first n [] there = elim there [ ]
  where-from first n (None ∷ slots) there = one_later first n None slots (where-from (first + 1) n slots there)
  where-from first n (Some own ∷ slots) there = by (λ later. where-from (first + 1) n slots later) (test own.0) refl there
    where
      by : (In n (numbers_where (first + 1) test slots) → IsWhere (first + 1) n slots) → (b : Bool) → test own.0 ≡ b → In n (cond b (first ∷ numbers_where (first + 1) test slots) (numbers_where (first + 1) test slots)) → IsWhere first n (Some own ∷ slots)
      by deeper true is (inl same) = record { place = 0; own = own; there = refl; meets = is; number = omega (arith, same) }
      by deeper true is (inr later) = one_later first n (Some own) slots (deeper later)
      by deeper false is later = one_later first n (Some own) slots (deeper later)

  -- and each such place has its number
  pub where-has : (first place : ℕ) (own : K × ℕ) (slots : List (Slot K)) → slot_at slots place ≡ Some own → test own.0 ≡ true → In (first + place) (numbers_where first test slots)
  where-has first place own [] there meets = absurd (none-some own there)
  where-has first zero own (None ∷ slots) there meets = absurd (none-some own there)
  where-has first zero own (Some other ∷ slots) there meets =
      let passes : test other.0 ≡ true = ap (λ o. test o.0) (same_Some other own there) ∙ meets in
      subst (λ b. In (first + 0) (cond b (first ∷ numbers_where (first + 1) test slots) (numbers_where (first + 1) test slots))) (sym passes) (inl (omega arith))
  where-has first (suc place) own (None ∷ slots) there meets =
      subst (λ n. In n (numbers_where (first + 1) test slots)) (omega arith) (where-has (first + 1) place own slots there meets)
  where-has first (suc place) own (Some other ∷ slots) there meets =
      let later : In (first + suc place) (numbers_where (first + 1) test slots) = subst (λ n. In n (numbers_where (first + 1) test slots)) (omega arith) (where-has (first + 1) place own slots there meets) in
      elim (test other.0) as (λ b. In (first + suc place) (cond b (first ∷ numbers_where (first + 1) test slots) (numbers_where (first + 1) test slots))) [
        | true ↦ inr later
        | false ↦ later
      ]
