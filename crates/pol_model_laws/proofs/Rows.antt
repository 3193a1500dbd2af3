-- What a changed count of holders, a new row and a filter leave of the rows of identities.
use Rattle.std.proofs.Common.{◌≡◌, ℕ, ◌==◌, ◌<◌, ◌&&◌, Bool, true, false, not, cond, List, [], ◌∷◌, ◌++◌, map, filter, count_by, nat_lt, inl, inr, refl, sym, ap, ◌∙◌, subst, arith}
use Rattle.std.specs.List.{AllByRecursion, list_any}
use Rattle.std.proofs.lemmas.Bool.{and_left, and_right, not_from_true, not_from_false, eqb-true, cases_Bool, cond-false, cond-true, and_from}
use Rattle.std.proofs.lemmas.List.Sums.{sum_by-cons}
use Rattle.pol_data.proofs.Members.{In}
use Rattle.pol_model.specs.declared.limits.TheConstants.{RESERVED_LAST}
use Rattle.pol_model.specs.declared.row.IdentityRow.{IdentityRow}
use Rattle.pol_model.specs.Identities.{is_reserved, reserved_identities, recounted}
use Rattle.pol_model.specs.Numbers.{placed_by}
use Rattle.pol_model_laws.proofs.Keyed.{placed_behind}
use Rattle.pol_model_laws.proofs.Membership.{In-map, map-In}

-- the row with this count
abbrev pub with_count : IdentityRow → ℕ → IdentityRow
with_count row count = record row { holders = count }

-- the row's count, where that of a number is changed
abbrev pub recount : ℕ → (ℕ → ℕ) → IdentityRow → ℕ
recount number count row = cond ((row.number == number) && not (is_reserved number)) (count row.holders) row.holders

recounted_by : (b : Bool) (count : ℕ) (row : IdentityRow) → cond b (record row { holders = count }) row ≡ with_count row (cond b count row.holders)
recounted_by true count row = refl
recounted_by false count row = refl

pub recounted-is : (number : ℕ) (count : ℕ → ℕ) (row : IdentityRow) → recounted number count row ≡ with_count row (recount number count row)
recounted-is number count row = recounted_by ((row.number == number) && not (is_reserved number)) (count row.holders) row

-- a reserved row keeps its count
pub recount-reserved : (number : ℕ) (count : ℕ → ℕ) (row : IdentityRow) → is_reserved row.number ≡ true → recount number count row ≡ row.holders
recount-reserved number count row reserved =
    cond-false _ (count row.holders) row.holders (
    elim (cases_Bool (row.number == number)) [
      | inl same ↦
          let this : is_reserved number ≡ true = subst (λ n. is_reserved n ≡ true) (eqb-true row.number number same) reserved in
          and_right (row.number == number) _ (not_from_true (is_reserved number) this)
      | inr other ↦ and_left (row.number == number) _ other
    ]
    )

-- any other row changes it where it has the number
pub recount-other : (number : ℕ) (count : ℕ → ℕ) (row : IdentityRow) → is_reserved row.number ≡ false → recount number count row ≡ cond (row.number == number) (count row.holders) row.holders
recount-other number count row unreserved =
    elim (cases_Bool (row.number == number)) [
      | inl same ↦
          let this : is_reserved number ≡ false = subst (λ n. is_reserved n ≡ false) (eqb-true row.number number same) unreserved in
          cond-true _ (count row.holders) row.holders (and_from (row.number == number) _ same (not_from_false (is_reserved number) this))
          ∙ sym (cond-true _ (count row.holders) row.holders same)
      | inr other ↦
          cond-false _ (count row.holders) row.holders (and_left (row.number == number) _ other)
          ∙ sym (cond-false _ (count row.holders) row.holders other)
    ]

-- a row after the change is one of before with its count
pub In-recounted : (number : ℕ) (count : ℕ → ℕ) (row : IdentityRow) (rows : List IdentityRow) → In row (map (recounted number count) rows) → (old : IdentityRow) × In old rows × (with_count old (recount number count old) ≡ row)
In-recounted number count row rows there =
    let from = In-map (recounted number count) row rows there in
    (from.0, from.1, sym (recounted-is number count from.0) ∙ from.2)

pub recounted-In : (number : ℕ) (count : ℕ → ℕ) (row : IdentityRow) (rows : List IdentityRow) → In row rows → In (with_count row (recount number count row)) (map (recounted number count) rows)
recounted-In number count row rows there =
    subst (λ new. In new (map (recounted number count) rows)) (recounted-is number count row) (map-In (recounted number count) row rows there)

-- a test that looks at no count has the same answer
module _ (passes : IdentityRow → Bool) (blind : (row : IdentityRow) (count : ℕ) → passes (with_count row count) ≡ passes row) where
  pub recounted-any : (number : ℕ) (count : ℕ → ℕ) (rows : List IdentityRow) → list_any passes (map (recounted number count) rows) ≡ list_any passes rows
  recounted-any number count [] = refl
  recounted-any number count (row ∷ rows) =
      let here : passes (recounted number count row) ≡ passes row = ap passes (recounted-is number count row) ∙ blind row _ in
      rw (here, recounted-any number count rows) refl

  pub recounted-count : (number : ℕ) (count : ℕ → ℕ) (rows : List IdentityRow) → count_by passes (map (recounted number count) rows) ≡ count_by passes rows
  recounted-count number count [] = refl
  recounted-count number count (row ∷ rows) =
      let here : passes (recounted number count row) ≡ passes row = ap passes (recounted-is number count row) ∙ blind row _ in
      sum_by-cons (λ row. cond (passes row) 1 0) (recounted number count row) (map (recounted number count) rows)
      ∙ rw (here, recounted-count number count rows) (sym (sum_by-cons (λ row. cond (passes row) 1 0) row rows))

-- The rows begin with the reserved ones as they are at the start.
abbrev pub BeginsReserved : List IdentityRow → Type 0
BeginsReserved rows = (others : List IdentityRow) × (rows ≡ reserved_identities ++ others)

recounted_same : (number : ℕ) (count : ℕ → ℕ) (row : IdentityRow) → is_reserved row.number ≡ true → recounted number count row ≡ row
recounted_same number count row reserved = recounted-is number count row ∙ ap (with_count row) (recount-reserved number count row reserved)

recounted_front : (number : ℕ) (count : ℕ → ℕ) (xs ys : List IdentityRow) → AllByRecursion (λ row. is_reserved row.number ≡ true) xs → map (recounted number count) (xs ++ ys) ≡ xs ++ map (recounted number count) ys
recounted_front number count [] ys all = refl
recounted_front number count (row ∷ xs) ys all =
    let here = recounted_same number count row all.0 in
    let others = recounted_front number count xs ys all.1 in
    λ i. here i ∷ others i

reserved_all : AllByRecursion (λ row. is_reserved row.number ≡ true) reserved_identities
reserved_all = (refl, (refl, (refl, (refl, (refl, (refl, (refl, (refl, (refl, (refl, tt))))))))))

pub recounted-begins : (number : ℕ) (count : ℕ → ℕ) (rows : List IdentityRow) → BeginsReserved rows → BeginsReserved (map (recounted number count) rows)
recounted-begins number count rows begins =
    (map (recounted number count) begins.0, ap (map (recounted number count)) begins.1 ∙ recounted_front number count reserved_identities begins.0 reserved_all)

pub held-begins : (rows : List IdentityRow) → BeginsReserved rows → BeginsReserved (filter (λ row. nat_lt 0 row.holders) rows)
held-begins rows begins = (filter (λ row. nat_lt 0 row.holders) begins.0, ap (filter (λ row. nat_lt 0 row.holders)) begins.1)

reserved_below : (number : ℕ) → RESERVED_LAST < number → AllByRecursion (λ row. row.number < number) reserved_identities
reserved_below number above = (omega arith, (omega arith, (omega arith, (omega arith, (omega arith, (omega arith, (omega arith, (omega arith, (omega arith, (omega arith, tt))))))))))

pub placed-begins : (new : IdentityRow) (rows : List IdentityRow) → RESERVED_LAST < new.number → BeginsReserved rows → BeginsReserved (placed_by (λ row. row.number) new rows)
placed-begins new rows above begins = (
  placed_by (λ row. row.number) new begins.0,
  ap (placed_by (λ row. row.number) new) begins.1
      ∙ placed_behind (λ row. row.number) new reserved_identities begins.0 (reserved_below new.number above),
)
