-- The places that are filed under a heading are those whose set has a label of it.
use Rattle.std.proofs.Common.{◌≡◌, ◌==◌, ◌+◌, ◌<◌, ◌^◌, ◌||◌, true, false, Some, None, ℕ, List, [], ◌∷◌, length, map, refl, sym, ap, subst, ◌∙◌, inl, inr, arith, cond}
use Rattle.std.specs.Prelude.{All}
use Rattle.std.specs.List.{AllByRecursion}
use Rattle.std.specs.List.Sorted.{IsStrictlySortedBy}
use Rattle.std.specs.Ordering.{nat_cmp}
use Rattle.std.specs.declared.cmp.Ordering.TheVariants.{Less, Equal, Greater}
use Rattle.std.proofs.lemmas.Bool.{eq-eqb, eqb-true, lt-ltb, or_cases}
use Rattle.std.proofs.lemmas.Cmp.{nat_cmp_total}
use Rattle.pol_data.proofs.Ascending.{same_members}
use Rattle.pol_data.proofs.Members.{In, All-from_Contains, In-from_Contains}
use Rattle.pol_headings.specs.declared.heading.Heading.{Heading}
use Rattle.pol_headings.specs.Filed.{Drawers, has, is_filed}
use Rattle.pol_labels.specs.declared.label.Label.{Label}
use Rattle.pol_model.specs.Ascending.{Ascends}
use Rattle.pol_interner.specs.Slots.{Slot, numbers_where, slot_at}
use Rattle.pol_interner.proofs.FreePlaces.{taken_within}
use Rattle.pol_interner.proofs.NumbersWhere.{where-ascends, where-from, where-has}
use Rattle.pol_label_sets.specs.Carried.{carries_heading}
use Rattle.pol_label_sets.specs.Filed.{IsFiledAs, slot_carries}

-- ---- lists of numbers
in_from_has : (n : ℕ) (xs : List ℕ) → has n xs ≡ true → In n xs
in_from_has n [] there = absurd cc
in_from_has n (x ∷ xs) there =
    elim (or_cases (x == n) (has n xs) there) [
      | inl here ↦ inl (eqb-true x n here)
      | inr later ↦ inr (in_from_has n xs later)
    ]

has_from_in : (n : ℕ) (xs : List ℕ) → In n xs → has n xs ≡ true
has_from_in n [] there = elim there [ ]
has_from_in n (x ∷ xs) (inl same) = ap (λ b. b || has n xs) (eq-eqb x n same)
has_from_in n (x ∷ xs) (inr later) = elim (x == n) as (λ b. (b || has n xs) ≡ true) [ true ↦ refl | false ↦ has_from_in n xs later ]

module _ (first : ℕ) where
  abbrev pub numbered : List ℕ → List ℕ
  numbered places = map (λ place. first + place) places

  from_numbered : (n : ℕ) (places : List ℕ) → In n (numbered places) → (place : ℕ) × In place places × (first + place ≡ n)
  from_numbered n [] there = elim there [ ]
  from_numbered n (place ∷ places) (inl same) = (place, inl refl, same)
  from_numbered n (place ∷ places) (inr later) = let found = from_numbered n places later in (found.0, inr found.1, found.2)

  to_numbered : (place : ℕ) (places : List ℕ) → In place places → In (first + place) (numbered places)
  to_numbered place [] there = elim there [ ]
  to_numbered place (own ∷ places) (inl same) = inl (ap (λ p. first + p) same)
  to_numbered place (own ∷ places) (inr later) = inr (to_numbered place places later)

  numbered_above : (place : ℕ) (places : List ℕ) → AllByRecursion (λ other. place < other) places → AllByRecursion (λ n. nat_cmp (first + place) n ≡ Less) (numbered places)
  numbered_above place [] above = tt
  numbered_above place (other ∷ places) above =
      (ap (λ b. cond b Less (cond (first + place == first + other) Equal Greater)) (lt-ltb (first + place) (first + other) (omega (arith, above.0))), numbered_above place places above.1)

  numbered_ascends : (places : List ℕ) → Ascends places → IsStrictlySortedBy nat_cmp (numbered places)
  unfolding IsStrictlySortedBy
  numbered_ascends [] ascends = tt
  numbered_ascends (place ∷ places) ascends = (numbered_above place places ascends.0, numbered_ascends places ascends.1)

-- ---- what is filed
module _ (filing : Drawers) (slots : List (Slot (List Label))) (tied : IsFiledAs filing slots) (heading : Heading) (places : List ℕ)
    (members : (n : ℕ) → has n places ≡ is_filed filing heading n) where
  carried : (place : ℕ) → In place places → (own : List Label × ℕ) × (slot_at slots place ≡ Some own) × (carries_heading heading own.0 ≡ true)
  carried place there = by (slot_at slots place) refl (sym (tied heading place) ∙ sym (members place) ∙ has_from_in place places there)
    where
      by : (slot : Slot (List Label)) → slot_at slots place ≡ slot → slot_carries heading slot ≡ true → (own : List Label × ℕ) × (slot_at slots place ≡ Some own) × (carries_heading heading own.0 ≡ true)
      by None at carries = absurd cc
      by (Some own) at carries = (own, at, carries)

  pub places-fit : (first : ℕ) → first + length slots < 2 ^ 32 → All (λ place. first + place < 2 ^ 32) places
  places-fit first fits = All-from_Contains (λ place. first + place < 2 ^ 32) places (λ place there.
      let own = carried place (In-from_Contains places place there) in
      let within = taken_within slots place own.0 own.1 in
      omega (arith, fits, within))

  pub numbers-filed : (first : ℕ) → Ascends places → numbered first places ≡ numbers_where first (carries_heading heading) slots
  numbers-filed first ascends =
      same_members nat_cmp_total (numbered first places) (numbers_where first (carries_heading heading) slots) (numbered_ascends first places ascends) (where-ascends (carries_heading heading) first slots)
      (λ n there.
      let found = from_numbered first n places there in
      let own = carried found.0 found.1 in
      subst (λ k. In k (numbers_where first (carries_heading heading) slots)) found.2 (where-has (carries_heading heading) first found.0 own.0 slots own.1 own.2))
      (λ n there.
      let is = where-from (carries_heading heading) first n slots there in
      let filed : has is.place places ≡ true = members is.place ∙ tied heading is.place ∙ ap (slot_carries heading) is.there ∙ is.meets in
      subst (λ k. In k (numbered first places)) (sym is.number) (to_numbered first is.place places (in_from_has is.place places filed)))
