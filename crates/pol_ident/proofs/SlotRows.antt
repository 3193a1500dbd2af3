-- How a change of slots changes the rows that they stand for.
use Rattle.std.proofs.Common.{zero, suc, ◌≡◌, ℕ, ◌+◌, ◌-◌, ◌<◌, ◌≤◌, Bool, true, false, not, cond, List, [], ◌∷◌, ◌++◌, length, nat_lt, nat_le, Option, None, Some, option_map, refl, sym, ap, ◌∙◌, inl, inr, arith}
use Rattle.std.proofs.lemmas.Bool.{ne_eqb, eq-eqb, cases_lt, le-leb, lt-leb, le-ltb, lt-ltb}
use Rattle.pol_addr.specs.declared.network.Prefix.{Prefix}
use Rattle.pol_labels.specs.declared.label.Label.{Label}
use Rattle.pol_model.specs.declared.row.IdentityRow.{IdentityRow}
use Rattle.pol_model.specs.Identities.{is_reserved, released, with_holder}
use Rattle.pol_model.specs.Numbers.{least_free, placed_by}
use Rattle.pol_model.proofs.Ascents.{placed_later}
use Rattle.pol_model_laws.specs.Holding.{row_of}
use Rattle.pol_ident.specs.Rows.{row_with, rows_then}
use Rattle.pol_interner.specs.Slots.{Slot, changed, filled, free_place, numbers_from, one_less, one_more, slot_at}
use Rattle.pol_ident.proofs.RowLists.{above-same, AllAbove, AreHeld, least_free-above, least_free-below, least_free-here, numbers, placed_first, recounted-above, recounted-other, recounted-own, released-above, released-cons}

module _ {K : Type 0} (labels : K → List Label) (prefix : K → Option Prefix) where
  abbrev rows : ℕ → List (Slot K) → List IdentityRow → List IdentityRow
  rows = rows_then labels prefix

  pub rows-above : (m first : ℕ) (slots : List (Slot K)) (rest : List IdentityRow) → m < first → AllAbove m rest → AllAbove m (rows first slots rest)
  rows-above m first [] rest less above = above
  rows-above m first (None ∷ slots) rest less above = rows-above m (first + 1) slots rest (omega (arith, less)) above
  rows-above m first (Some held ∷ slots) rest less above = (less, rows-above m (first + 1) slots rest (omega (arith, less)) above)

  -- one holder more of a number behind these
  pub more-past : (n first : ℕ) (slots : List (Slot K)) (rest : List IdentityRow) → first + length slots ≤ n → with_holder n (rows first slots rest) ≡ rows first slots (with_holder n rest)
  more-past n first [] rest past = refl
  more-past n first (None ∷ slots) rest past = more-past n (first + 1) slots rest (omega (arith, past))
  more-past n first (Some held ∷ slots) rest past =
      let here = recounted-other n (λ count. count + 1) (row_with labels prefix first held) (omega (arith, past)) in
      let others = more-past n (first + 1) slots rest (omega (arith, past)) in
      λ i. here i ∷ others i

  -- one holder more of one of these
  pub more-here : (n first place : ℕ) (slots : List (Slot K)) (rest : List IdentityRow) → n ≡ first + place → is_reserved n ≡ false → AllAbove n rest → with_holder n (rows first slots rest) ≡ rows first (changed one_more place slots) rest
  more-here n first place [] rest is free above = recounted-above n (λ count. count + 1) rest above
  more-here n first zero (None ∷ slots) rest is free above =
      recounted-above n (λ count. count + 1) (rows (first + 1) slots rest) (rows-above n (first + 1) slots rest (omega (arith, is)) above)
  more-here n first zero (Some held ∷ slots) rest is free above =
      let here = recounted-own n (λ count. count + 1) (row_with labels prefix first held) (omega (arith, is)) free in
      let others = recounted-above n (λ count. count + 1) (rows (first + 1) slots rest) (rows-above n (first + 1) slots rest (omega (arith, is)) above) in
      λ i. here i ∷ others i
  more-here n first (suc place) (None ∷ slots) rest is free above = more-here n (first + 1) place slots rest (omega (arith, is)) free above
  more-here n first (suc place) (Some held ∷ slots) rest is free above =
      let here = recounted-other n (λ count. count + 1) (row_with labels prefix first held) (omega (arith, is)) in
      let others = more-here n (first + 1) place slots rest (omega (arith, is)) free above in
      λ i. here i ∷ others i

  -- one holder less of a number behind these
  pub less-past : (n first : ℕ) (slots : List (Slot K)) (rest : List IdentityRow) → first + length slots ≤ n → AreHeld (rows first slots rest) → released n (rows first slots rest) ≡ rows first slots (released n rest)
  less-past n first [] rest past held = refl
  less-past n first (None ∷ slots) rest past held = less-past n (first + 1) slots rest (omega (arith, past)) held
  less-past n first (Some own ∷ slots) rest past held =
      released-cons n (row_with labels prefix first own) (rows (first + 1) slots rest) (omega (arith, past)) held.0
      ∙ ap (λ others. row_with labels prefix first own ∷ others) (less-past n (first + 1) slots rest (omega (arith, past)) held.1)

  -- a row with one holder less, or none
  lowered : (b : Bool) (n first : ℕ) (own : K × ℕ) (slots : List (Slot K)) (rest : List IdentityRow) → nat_le own.1 1 ≡ b → nat_lt 0 (own.1 - 1) ≡ not b
      → cond (nat_lt 0 (own.1 - 1)) (row_with labels prefix first (own.0, own.1 - 1) ∷ rows (first + 1) slots rest) (rows (first + 1) slots rest) ≡ rows first (one_less (Some own) ∷ slots) rest
  lowered true n first own slots rest gone none =
      ap (λ b. cond b (row_with labels prefix first (own.0, own.1 - 1) ∷ rows (first + 1) slots rest) (rows (first + 1) slots rest)) none
      ∙ sym (ap (λ b. rows first (cond b None (Some (own.0, own.1 - 1)) ∷ slots) rest) gone)
  lowered false n first own slots rest gone none =
      ap (λ b. cond b (row_with labels prefix first (own.0, own.1 - 1) ∷ rows (first + 1) slots rest) (rows (first + 1) slots rest)) none
      ∙ sym (ap (λ b. rows first (cond b None (Some (own.0, own.1 - 1)) ∷ slots) rest) gone)

  -- one holder less of one of these
  pub less-here : (n first place : ℕ) (slots : List (Slot K)) (rest : List IdentityRow) → n ≡ first + place → is_reserved n ≡ false → AllAbove n rest → AreHeld (rows first slots rest) → released n (rows first slots rest) ≡ rows first (changed one_less place slots) rest
  less-here n first place [] rest is free above held = released-above n rest above held
  less-here n first zero (None ∷ slots) rest is free above held =
      released-above n (rows (first + 1) slots rest) (rows-above n (first + 1) slots rest (omega (arith, is)) above) held
  less-here n first zero (Some own ∷ slots) rest is free above held =
      ap (λ r. cond (nat_lt 0 r.holders) (r ∷ released n (rows (first + 1) slots rest)) (released n (rows (first + 1) slots rest))) (recounted-own n (λ count. count - 1) (row_with labels prefix first own) (omega (arith, is)) free)
      ∙ ap (λ others. cond (nat_lt 0 (own.1 - 1)) (row_with labels prefix first (own.0, own.1 - 1) ∷ others) others) (released-above n (rows (first + 1) slots rest) (rows-above n (first + 1) slots rest (omega (arith, is)) above) held.1)
      ∙ elim (cases_lt 1 own.1) [
        | inl more ↦ lowered false n first own slots rest (lt-leb own.1 1 more) (lt-ltb 0 (own.1 - 1) (omega (arith, more)))
        | inr one ↦ lowered true n first own slots rest (le-leb own.1 1 one) (le-ltb 0 (own.1 - 1) (omega (arith, one)))
      ]
  less-here n first (suc place) (None ∷ slots) rest is free above held = less-here n (first + 1) place slots rest (omega (arith, is)) free above held
  less-here n first (suc place) (Some own ∷ slots) rest is free above held =
      released-cons n (row_with labels prefix first own) (rows (first + 1) slots rest) (omega (arith, is)) held.0
      ∙ ap (λ others. row_with labels prefix first own ∷ others) (less-here n (first + 1) place slots rest (omega (arith, is)) free above held.1)

  -- a new row behind these
  pub placed-past : (new : IdentityRow) (first : ℕ) (slots : List (Slot K)) (rest : List IdentityRow) → first + length slots ≤ new.number → placed_by (λ row. row.number) new (rows first slots rest) ≡ rows first slots (placed_by (λ row. row.number) new rest)
  placed-past new first [] rest past = refl
  placed-past new first (None ∷ slots) rest past = placed-past new (first + 1) slots rest (omega (arith, past))
  placed-past new first (Some own ∷ slots) rest past =
      placed_later (λ row. row.number) new (row_with labels prefix first own) (rows (first + 1) slots rest) (omega (arith, past))
      ∙ ap (λ others. row_with labels prefix first own ∷ others) (placed-past new (first + 1) slots rest (omega (arith, past)))

  -- a new row in the least free place
  pub placed-here : (n first : ℕ) (new : K × ℕ) (slots : List (Slot K)) (rest : List IdentityRow) → n ≡ first + free_place slots → AllAbove n rest
      → placed_by (λ row. row.number) (row_with labels prefix n new) (rows first slots rest) ≡ rows first (filled new slots) rest
  placed-here n first new [] rest is above =
      placed_first (row_with labels prefix n new) rest above ∙ ap (λ m. row_with labels prefix m new ∷ rest) (omega (arith, is))
  placed-here n first new (None ∷ slots) rest is above =
      placed_first (row_with labels prefix n new) (rows (first + 1) slots rest) (rows-above n (first + 1) slots rest (omega (arith, is)) above)
      ∙ ap (λ m. row_with labels prefix m new ∷ rows (first + 1) slots rest) (omega (arith, is))
  placed-here n first new (Some own ∷ slots) rest is above =
      placed_later (λ row. row.number) (row_with labels prefix n new) (row_with labels prefix first own) (rows (first + 1) slots rest) (omega (arith, is))
      ∙ ap (λ others. row_with labels prefix first own ∷ others) (placed-here n (first + 1) new slots rest (omega (arith, is)) above)

  -- the least free number from a number behind these, or from the first of them
  pub free-past : (n first : ℕ) (slots : List (Slot K)) (rest : List IdentityRow) → first + length slots ≤ n → least_free n (numbers (rows first slots rest)) ≡ least_free n (numbers rest)
  free-past n first [] rest past = refl
  free-past n first (None ∷ slots) rest past = free-past n (first + 1) slots rest (omega (arith, past))
  free-past n first (Some own ∷ slots) rest past =
      least_free-below n first (numbers (rows (first + 1) slots rest)) (omega (arith, past)) ∙ free-past n (first + 1) slots rest (omega (arith, past))

  pub free-here : (first : ℕ) (slots : List (Slot K)) (rest : List IdentityRow) → AllAbove (first + free_place slots) rest → least_free first (numbers (rows first slots rest)) ≡ first + free_place slots
  free-here first [] rest above =
      least_free-above first (numbers rest) (above-same (first + 0) first rest (omega arith) above) ∙ omega arith
  free-here first (None ∷ slots) rest above =
      least_free-above first (numbers (rows (first + 1) slots rest)) (rows-above first (first + 1) slots rest (omega arith) (above-same (first + 0) first rest (omega arith) above))
      ∙ omega arith
  free-here first (Some own ∷ slots) rest above =
      least_free-here first first (numbers (rows (first + 1) slots rest)) refl
      ∙ free-here (first + 1) slots rest (above-same _ (first + 1 + free_place slots) rest (omega arith) above)
      ∙ omega arith

  -- the row of a number behind these, before them, and among them
  pub row-past : (n first : ℕ) (slots : List (Slot K)) (rest : List IdentityRow) → first + length slots ≤ n → row_of n (rows first slots rest) ≡ row_of n rest
  row-past n first [] rest past = refl
  row-past n first (None ∷ slots) rest past = row-past n (first + 1) slots rest (omega (arith, past))
  row-past n first (Some own ∷ slots) rest past =
      ap (λ b. cond b (Some (row_with labels prefix first own)) (row_of n (rows (first + 1) slots rest))) (ne_eqb first n (omega (arith, past)))
      ∙ row-past n (first + 1) slots rest (omega (arith, past))

  pub row-none : (n : ℕ) (list : List IdentityRow) → AllAbove n list → row_of n list ≡ None
  row-none n [] above = refl
  row-none n (row ∷ list) above =
      ap (λ b. cond b (Some row) (row_of n list)) (ne_eqb row.number n (omega (arith, above.0))) ∙ row-none n list above.1

  pub row-here : (n first place : ℕ) (slots : List (Slot K)) (rest : List IdentityRow) → n ≡ first + place → AllAbove n rest → row_of n (rows first slots rest) ≡ option_map (row_with labels prefix n) (slot_at slots place)
  row-here n first place [] rest is above = row-none n rest above
  row-here n first zero (None ∷ slots) rest is above = row-none n (rows (first + 1) slots rest) (rows-above n (first + 1) slots rest (omega (arith, is)) above)
  row-here n first zero (Some own ∷ slots) rest is above =
      ap (λ b. cond b (Some (row_with labels prefix first own)) (row_of n (rows (first + 1) slots rest))) (eq-eqb first n (omega (arith, is)))
      ∙ ap (λ m. Some (row_with labels prefix m own)) (omega (arith, is))
  row-here n first (suc place) (None ∷ slots) rest is above = row-here n (first + 1) place slots rest (omega (arith, is)) above
  row-here n first (suc place) (Some own ∷ slots) rest is above =
      ap (λ b. cond b (Some (row_with labels prefix first own)) (row_of n (rows (first + 1) slots rest))) (ne_eqb first n (omega (arith, is)))
      ∙ row-here n (first + 1) place slots rest (omega (arith, is)) above

  -- the numbers of the rows
  pub numbers-rows : (first : ℕ) (slots : List (Slot K)) (rest : List IdentityRow) → numbers (rows first slots rest) ≡ numbers_from first slots ++ numbers rest
  numbers-rows first [] rest = refl
  numbers-rows first (None ∷ slots) rest = numbers-rows (first + 1) slots rest
  numbers-rows first (Some own ∷ slots) rest = ap (λ others. first ∷ others) (numbers-rows (first + 1) slots rest)
