-- Limits of maps and rows of `synced` lines, in the words of the definition and in those of the short account.
use Rattle.std.proofs.Common.{◌≡◌, ◌≢◌, ℕ, zero, suc, ◌<◌, ◌≤◌, false, not, nat_le, bytes_eq, IsTrue, List, [], ◌∷◌, slice_get, Option, None, Some, refl, sym, subst, arith}
use Rattle.std.specs.List.{AllByRecursion}
use Rattle.std.proofs.lemmas.Bool.{leb-false, le-leb, lt-leb, not-true, not_from_false, false_from_ne_true, false≢true, or_from, or_parts, both_ways}
use Rattle.std.proofs.lemmas.Slice.Eq.{bytes_eq-Decides}
use Rattle.pol_model.specs.declared.answer.FullSlot.{FullSlot}
use Rattle.pol_model.specs.declared.options.Options.{Options}
use Rattle.pol_model.specs.FullRows.{fits_limit}
use Rattle.pol_run.specs.Spots.{Spot}
use Rattle.pol_run.specs.Endpoints.{has_row}
use Rattle.pol_run.specs.RightAnswer.{NoTwoOfOneEndpoint, AreOfOneEndpoint}
use Rattle.pol_run.specs.InShort.{IsOver}

-- ---- limits

over_limit : (limit : Option ℕ) (count : ℕ) → IsTrue (not (fits_limit limit count)) → (n : ℕ) × (limit ≡ Some n) × (n < count)
over_limit None count over = absurd (false≢true over)
over_limit (Some n) count over = (n, refl, leb-false count n (not-true (nat_le count n) over))

pub is_over : (options : Options) (count : ℕ) → IsTrue (not (fits_limit options.map_max count)) → IsOver options count
is_over options count over =
    let parts = over_limit options.map_max count over in
    record { limit = parts.0; is_limit = parts.1; over = parts.2 }

pub not_fitting : (options : Options) (count : ℕ) → IsOver options count → IsTrue (not (fits_limit options.map_max count))
not_fitting options count is =
    subst (λ (limit : Option ℕ). IsTrue (not (fits_limit limit count))) (sym is.is_limit)
    (not_from_false (nat_le count is.limit) (lt-leb count is.limit is.over))

fits_limit_if : (limit : Option ℕ) (count : ℕ) → ((n : ℕ) → limit ≡ Some n → count ≤ n) → IsTrue (fits_limit limit count)
fits_limit_if None count within = refl
fits_limit_if (Some n) count within = le-leb count n (within n refl)

pub is_fitting : (options : Options) (count : ℕ) → ((n : ℕ) → options.map_max ≡ Some n → count ≤ n) → IsTrue (fits_limit options.map_max count)
is_fitting options count within = fits_limit_if options.map_max count within

-- ---- rows

pub no_row : (name : List ℕ) (full : List FullSlot) → AllByRecursion (λ (row : FullSlot). row.name ≢ name) full → IsTrue (not (has_row name full))
no_row name full differ = not_from_false (has_row name full) (none full differ)
  where
    none : (rows : List FullSlot) → AllByRecursion (λ (row : FullSlot). row.name ≢ name) rows → has_row name rows ≡ false
    none [] apart = refl
    none (row ∷ rows) apart =
        or_from (bytes_eq row.name name) (has_row name rows)
        (false_from_ne_true (bytes_eq row.name name) (λ is. apart.0 ((bytes_eq-Decides row.name name).0 is)))
        (none rows apart.1)

some_row : (a b : FullSlot) → Some a ≡ Some b → a ≡ b
some_row a b same = cc

no_such_row : (a : FullSlot) → None ≡ Some a → ⊥
no_such_row a same = cc

every_row_at : (P : FullSlot → Type 0) (rows : List FullSlot) (i : ℕ) (row : FullSlot) → AllByRecursion P rows → slice_get rows i ≡ Some row → P row
every_row_at P [] i row every there = absurd (no_such_row row there)
every_row_at P (first ∷ rows) zero row every there = subst P (some_row first row there) every.0
every_row_at P (first ∷ rows) (suc i) row every there = every_row_at P rows i row every.1 there

pub apart_at : (options : Options) (spots : List Spot) (full : List FullSlot) (a b : ℕ) (first second : FullSlot)
    → NoTwoOfOneEndpoint options spots full → a < b → slice_get full a ≡ Some first → slice_get full b ≡ Some second
    → AreOfOneEndpoint options spots first second → ⊥
apart_at options spots [] a b first second distinct less is_first is_second one = no_such_row first is_first
apart_at options spots (row ∷ rows) zero zero first second distinct less is_first is_second one = absurd (omega arith)
apart_at options spots (row ∷ rows) zero (suc b) first second distinct less is_first is_second one =
    every_row_at (λ (other : FullSlot). AreOfOneEndpoint options spots row other → ⊥) rows b second distinct.0 is_second
    (subst (λ (x : FullSlot). AreOfOneEndpoint options spots x second) (sym (some_row row first is_first)) one)
apart_at options spots (row ∷ rows) (suc a) zero first second distinct less is_first is_second one = absurd (omega arith)
apart_at options spots (row ∷ rows) (suc a) (suc b) first second distinct less is_first is_second one =
    apart_at options spots rows a b first second distinct.1 (omega arith) is_first is_second one

pub row_names_differ : (name : List ℕ) (full : List FullSlot) → has_row name full ≡ false → AllByRecursion (λ (row : FullSlot). row.name ≢ name) full
row_names_differ name [] none = tt
row_names_differ name (row ∷ rows) none =
    let apart = or_parts (bytes_eq row.name name) (has_row name rows) none in (
      λ same. both_ways (bytes_eq row.name name) apart.0 ((bytes_eq-Decides row.name name).1 same),
      row_names_differ name rows apart.1,
    )

every_from_at : (P : FullSlot → Type 0) (rows : List FullSlot) → ((i : ℕ) (row : FullSlot) → slice_get rows i ≡ Some row → P row)
    → AllByRecursion P rows
every_from_at P [] every = tt
every_from_at P (row ∷ rows) every = (every 0 row refl, every_from_at P rows (λ i other there. every (suc i) other there))

pub distinct_from : (options : Options) (spots : List Spot) (full : List FullSlot)
    → ((a b : ℕ) (first second : FullSlot) → a < b → slice_get full a ≡ Some first → slice_get full b ≡ Some second
    → AreOfOneEndpoint options spots first second → ⊥)
    → NoTwoOfOneEndpoint options spots full
distinct_from options spots [] apart = tt
distinct_from options spots (row ∷ rows) apart = (
  every_from_at (λ (other : FullSlot). AreOfOneEndpoint options spots row other → ⊥) rows
      (λ i other there. apart 0 (suc i) row other (omega arith) refl there),
  distinct_from options spots rows (λ a b first second less is_first is_second. apart (suc a) (suc b) first second (omega arith) is_first is_second),
)
