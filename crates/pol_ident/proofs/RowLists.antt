-- What holding and releasing a number do to rows of other numbers.
use Rattle.std.proofs.Common.{◌≡◌, ℕ, ◌+◌, ◌-◌, ◌<◌, ◌≢◌, ◌==◌, ◌&&◌, Bool, true, false, not, cond, List, [], ◌∷◌, map, nat_lt, count_by, refl, ap, subst, ◌∙◌, arith}
use Rattle.std.specs.List.{AllByRecursion, insert}
use Rattle.std.proofs.lemmas.Bool.{le-ltb, lt-ltb, ne_eqb, eq-eqb}
use Rattle.std.proofs.lemmas.List.Sums.{sum_by-cons}
use Rattle.pol_data.proofs.Every.{every-weaker}
use Rattle.pol_model.specs.declared.row.IdentityRow.{IdentityRow}
use Rattle.pol_model.specs.Identities.{is_reserved, recounted, released}
use Rattle.pol_model.specs.Numbers.{least_free, placed_by}

abbrev pub numbers : List IdentityRow → List ℕ
numbers rows = map (λ row. row.number) rows

-- each number is above this one
abbrev pub AllAbove : ℕ → List IdentityRow → Type 0
AllAbove n rows = AllByRecursion (λ m. n < m) (numbers rows)

pub above-less : (m n : ℕ) → m < n → (rows : List IdentityRow) → AllAbove n rows → AllAbove m rows
above-less m n less rows above = every-weaker (λ k. n < k) (λ k. m < k) (λ k more. omega (arith, more)) (numbers rows) above

pub above-same : (m n : ℕ) (rows : List IdentityRow) → m ≡ n → AllAbove m rows → AllAbove n rows
above-same m n rows same above = subst (λ k. AllAbove k rows) same above

module _ (n : ℕ) (count : ℕ → ℕ) where
  -- a row of another number stays
  pub recounted-other : (row : IdentityRow) → row.number ≢ n → recounted n count row ≡ row
  recounted-other row other =
      ap (λ b. cond (b && not (is_reserved n)) (record row { holders = count row.holders }) row) (ne_eqb row.number n other)

  -- that of the number changes its count
  pub recounted-own : (row : IdentityRow) → row.number ≡ n → is_reserved n ≡ false → recounted n count row ≡ record row { holders = count row.holders }
  recounted-own row own free =
      ap (λ b. cond (b && not (is_reserved n)) (record row { holders = count row.holders }) row) (eq-eqb row.number n own)
      ∙ ap (λ b. cond (not b) (record row { holders = count row.holders }) row) free

  pub recounted-above : (rows : List IdentityRow) → AllAbove n rows → map (recounted n count) rows ≡ rows
  recounted-above [] above = refl
  recounted-above (row ∷ rows) above =
      let here = recounted-other row (omega (arith, above.0)) in
      let rest = recounted-above rows above.1 in
      λ i. here i ∷ rest i

  -- nothing changes where the number is reserved
  pub recounted-reserved : (rows : List IdentityRow) → is_reserved n ≡ true → map (recounted n count) rows ≡ rows
  recounted-reserved [] reserved = refl
  recounted-reserved (row ∷ rows) reserved =
      let here : recounted n count row ≡ row = by (row.number == n) in
      let rest = recounted-reserved rows reserved in
      λ i. here i ∷ rest i
    where
      by : (b : Bool) → cond (b && not (is_reserved n)) (record row { holders = count row.holders }) row ≡ row
      by true = ap (λ b. cond (not b) (record row { holders = count row.holders }) row) reserved
      by false = refl

-- each row has a holder
abbrev pub AreHeld : List IdentityRow → Type 0
AreHeld rows = AllByRecursion (λ row. 0 < row.holders) rows

-- a row that has a holder is kept
pub released-cons : (n : ℕ) (row : IdentityRow) (rows : List IdentityRow) → row.number ≢ n → 0 < row.holders → released n (row ∷ rows) ≡ row ∷ released n rows
released-cons n row rows other held =
    ap (λ r. cond (nat_lt 0 r.holders) (r ∷ released n rows) (released n rows)) (recounted-other n (λ count. count - 1) row other)
    ∙ ap (λ b. cond b (row ∷ released n rows) (released n rows)) (lt-ltb 0 row.holders held)

pub released-above : (n : ℕ) (rows : List IdentityRow) → AllAbove n rows → AreHeld rows → released n rows ≡ rows
released-above n [] above held = refl
released-above n (row ∷ rows) above held =
    released-cons n row rows (omega (arith, above.0)) held.0 ∙ ap (λ rest. row ∷ rest) (released-above n rows above.1 held.1)

-- a row goes before those of greater numbers
lesser-above : (new : IdentityRow) (rows : List IdentityRow) → AllAbove new.number rows → count_by (λ row. nat_lt row.number new.number) rows ≡ 0
lesser-above new [] above = refl
lesser-above new (row ∷ rows) above =
    sum_by-cons (λ row. cond (nat_lt row.number new.number) 1 0) row rows
    ∙ ap (λ b. cond b 1 0 + count_by (λ row. nat_lt row.number new.number) rows) (le-ltb row.number new.number (omega (arith, above.0)))
    ∙ omega (arith, lesser-above new rows above.1)

pub placed_first : (new : IdentityRow) (rows : List IdentityRow) → AllAbove new.number rows → placed_by (λ row. row.number) new rows ≡ new ∷ rows
placed_first new rows above = ap (λ i. insert rows i new) (lesser-above new rows above)

-- the least free number of a list, by its first number
pub least_free-above : (first : ℕ) (ns : List ℕ) → AllByRecursion (λ m. first < m) ns → least_free first ns ≡ first
least_free-above first [] above = refl
least_free-above first (n ∷ ns) above =
    ap (λ b. cond b (least_free first ns) (cond (n == first) (least_free (first + 1) ns) first)) (le-ltb n first (omega (arith, above.0)))
    ∙ ap (λ b. cond b (least_free (first + 1) ns) first) (ne_eqb n first (omega (arith, above.0)))

pub least_free-below : (first n : ℕ) (ns : List ℕ) → n < first → least_free first (n ∷ ns) ≡ least_free first ns
least_free-below first n ns below =
    ap (λ b. cond b (least_free first ns) (cond (n == first) (least_free (first + 1) ns) first)) (lt-ltb n first below)

pub least_free-here : (first n : ℕ) (ns : List ℕ) → n ≡ first → least_free first (n ∷ ns) ≡ least_free (first + 1) ns
least_free-here first n ns here =
    ap (λ b. cond b (least_free first ns) (cond (n == first) (least_free (first + 1) ns) first)) (le-ltb n first (omega (arith, here)))
    ∙ ap (λ b. cond b (least_free (first + 1) ns) first) (eq-eqb n first here)
