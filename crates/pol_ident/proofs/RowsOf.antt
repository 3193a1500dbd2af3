-- The rows of slots: which there are, and that the reserved ones stand in front.
use Rattle.std.proofs.Common.{zero, suc, ◌≡◌, ℕ, ◌+◌, ◌<◌, cond, List, [], ◌∷◌, ◌++◌, Option, None, Some, ◌⊎◌, inl, inr, refl, ap, ◌∙◌, arith}
use Rattle.std.specs.List.{AllByRecursion}
use Rattle.std.proofs.lemmas.Bool.{ne_eqb}
use Rattle.pol_addr.specs.declared.network.Prefix.{Prefix}
use Rattle.pol_labels.specs.declared.label.Label.{Label}
use Rattle.pol_data.proofs.Members.{In}
use Rattle.pol_model.specs.declared.limits.TheConstants.{RESERVED_LAST}
use Rattle.pol_model.specs.declared.row.IdentityRow.{IdentityRow}
use Rattle.pol_model.specs.Identities.{released, reserved_identities, with_holder}
use Rattle.pol_model_laws.specs.Holding.{row_of}
use Rattle.pol_ident.specs.Rows.{row_with, rows_then}
use Rattle.pol_interner.specs.Slots.{Slot, slot_at}
use Rattle.pol_ident.proofs.RowLists.{AreHeld, recounted-other, released-cons}

-- each number is below this one
abbrev pub AllBelow : ℕ → List IdentityRow → Type 0
AllBelow n rows = AllByRecursion (λ row. row.number < n) rows

pub reserved-below : (n : ℕ) → RESERVED_LAST < n → AllBelow n reserved_identities
reserved-below n past = (omega (arith, past), (omega (arith, past), (omega (arith, past), (omega (arith, past), (omega (arith, past), (omega (arith, past), (omega (arith, past), (omega (arith, past), (omega (arith, past), (omega (arith, past), tt))))))))))

module _ (n : ℕ) where
  -- rows in front stay
  pub more-front : (front rest : List IdentityRow) → AllBelow n front → with_holder n (front ++ rest) ≡ front ++ with_holder n rest
  more-front [] rest below = refl
  more-front (row ∷ front) rest below =
      let here = recounted-other n (λ count. count + 1) row (omega (arith, below.0)) in
      let others = more-front front rest below.1 in
      λ i. here i ∷ others i

  pub less-front : (front rest : List IdentityRow) → AllBelow n front → AreHeld (front ++ rest) → released n (front ++ rest) ≡ front ++ released n rest
  less-front [] rest below held = refl
  less-front (row ∷ front) rest below held =
      released-cons n row (front ++ rest) (omega (arith, below.0)) held.0 ∙ ap (λ others. row ∷ others) (less-front front rest below.1 held.1)

  pub row-front : (front rest : List IdentityRow) → AllBelow n front → row_of n (front ++ rest) ≡ row_of n rest
  row-front [] rest below = refl
  row-front (row ∷ front) rest below =
      ap (λ b. cond b (Some row) (row_of n (front ++ rest))) (ne_eqb row.number n (omega (arith, below.0))) ∙ row-front front rest below.1

pub held-behind : (front rest : List IdentityRow) → AreHeld (front ++ rest) → AreHeld rest
held-behind [] rest held = held
held-behind (row ∷ front) rest held = held-behind front rest held.1

module _ {K : Type 0} (labels : K → List Label) (prefix : K → Option Prefix) where
  pub held-past : (first : ℕ) (slots : List (Slot K)) (rest : List IdentityRow) → AreHeld (rows_then labels prefix first slots rest) → AreHeld rest
  held-past first [] rest held = held
  held-past first (None ∷ slots) rest held = held-past (first + 1) slots rest held
  held-past first (Some own ∷ slots) rest held = held-past (first + 1) slots rest held.1

  -- the row of a slot
  pub In-here : (n first place : ℕ) (slots : List (Slot K)) (rest : List IdentityRow) (own : K × ℕ) → n ≡ first + place → slot_at slots place ≡ Some own → In (row_with labels prefix n own) (rows_then labels prefix first slots rest)
  In-here n first place [] rest own is at = absurd cc
  In-here n first zero (None ∷ slots) rest own is at = absurd cc
  In-here n first zero (Some other ∷ slots) rest own is at =
      let same : other ≡ own = cc in
      let number : first ≡ n = omega (arith, is) in
      inl (λ i. row_with labels prefix (number i) (same i))
  In-here n first (suc place) (None ∷ slots) rest own is at = In-here n (first + 1) place slots rest own (omega (arith, is)) at
  In-here n first (suc place) (Some other ∷ slots) rest own is at = inr (In-here n (first + 1) place slots rest own (omega (arith, is)) at)

  pub In-past : (row : IdentityRow) (first : ℕ) (slots : List (Slot K)) (rest : List IdentityRow) → In row rest → In row (rows_then labels prefix first slots rest)
  In-past row first [] rest there = there
  In-past row first (None ∷ slots) rest there = In-past row (first + 1) slots rest there
  In-past row first (Some own ∷ slots) rest there = inr (In-past row (first + 1) slots rest there)

  later : (row : IdentityRow) (first : ℕ) (slot : Slot K) (slots : List (Slot K)) (rest : List IdentityRow)
      → ((place : ℕ) × (own : K × ℕ) × (slot_at slots place ≡ Some own) × (row_with labels prefix (first + 1 + place) own ≡ row)) ⊎ In row rest
      → ((place : ℕ) × (own : K × ℕ) × (slot_at (slot ∷ slots) place ≡ Some own) × (row_with labels prefix (first + place) own ≡ row)) ⊎ In row rest
  later row first slot slots rest (inl found) =
      inl (suc found.0, found.1, found.2, (let here : first + suc found.0 ≡ first + 1 + found.0 = omega arith in ap (λ n. row_with labels prefix n found.1) here) ∙ found.3)
  later row first slot slots rest (inr there) = inr there

  -- a row is that of a slot, or one of those behind
  pub In-slots : (row : IdentityRow) (first : ℕ) (slots : List (Slot K)) (rest : List IdentityRow) → In row (rows_then labels prefix first slots rest)
      → ((place : ℕ) × (own : K × ℕ) × (slot_at slots place ≡ Some own) × (row_with labels prefix (first + place) own ≡ row)) ⊎ In row rest
  In-slots row first [] rest there = inr there
  In-slots row first (None ∷ slots) rest there = later row first None slots rest (In-slots row (first + 1) slots rest there)
  In-slots row first (Some own ∷ slots) rest (inl same) = inl (0, own, refl, (let here : first + 0 ≡ first = omega arith in ap (λ n. row_with labels prefix n own) here) ∙ same)
  In-slots row first (Some own ∷ slots) rest (inr there) = later row first (Some own) slots rest (In-slots row (first + 1) slots rest there)
