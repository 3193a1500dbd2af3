-- The least free number of a list.
use Rattle.std.proofs.Common.{◌≡◌, ℕ, ◌+◌, ◌==◌, ◌<◌, ◌≤◌, Bool, true, false, ◌||◌, cond, List, [], ◌∷◌, nat_lt, refl, ap, ◌∙◌, inl, inr, arith}
use Rattle.std.specs.List.{AllByRecursion, list_any}
use Rattle.std.proofs.lemmas.Bool.{cases_lt, or_right, eqb-true, eqb-false, eq-eqb, ne_eqb, ltb-true, ltb-false}
use Rattle.pol_data.proofs.Every.{every-weaker}
use Rattle.pol_model.specs.Ascending.{Ascends}
use Rattle.pol_model.specs.Numbers.{least_free}

at_least : (a b : Bool) (first m n : ℕ) → first ≤ m → first + 1 ≤ n → first ≤ cond a m (cond b n first)
at_least true b first m n p q = p
at_least false true first m n p q = omega arith
at_least false false first m n p q = omega arith

-- it is at least the first
pub first-le : (first : ℕ) (xs : List ℕ) → first ≤ least_free first xs
first-le first [] = omega arith
first-le first (x ∷ xs) =
    at_least (nat_lt x first) (x == first) first (least_free first xs) (least_free (first + 1) xs) (first-le first xs) (first-le (first + 1) xs)

none_above : (n : ℕ) (xs : List ℕ) → AllByRecursion (λ y. n < y) xs → list_any (λ m. m == n) xs ≡ false
none_above n [] all = refl
none_above n (x ∷ xs) all =
    ap (λ b. b || list_any (λ m. m == n) xs) (ne_eqb x n (λ e. omega (arith, all.0))) ∙ none_above n xs all.1

-- what is above a number is above a lesser one
pub above_more : (m n : ℕ) (xs : List ℕ) → n < m → AllByRecursion (λ y. m < y) xs → AllByRecursion (λ y. n < y) xs
above_more m n xs less = every-weaker (λ y. m < y) (λ y. n < y) (λ y below. omega arith) xs

-- where x isn't the number, it is in the list exactly where it is in the rest
skip : (x n : ℕ) (xs : List ℕ) (b : Bool) → (x ≡ n → ⊥) → list_any (λ m. m == n) xs ≡ b → list_any (λ m. m == n) (x ∷ xs) ≡ b
skip x n xs b other rest = ap (λ t. t || list_any (λ m. m == n) xs) (ne_eqb x n other) ∙ rest

free_at : (a b : Bool) (first x : ℕ) (xs : List ℕ) → nat_lt x first ≡ a → (x == first) ≡ b → Ascends (x ∷ xs) → list_any (λ m. m == least_free first xs) xs ≡ false → list_any (λ m. m == least_free (first + 1) xs) xs ≡ false → list_any (λ m. m == cond a (least_free first xs) (cond b (least_free (first + 1) xs) first)) (x ∷ xs) ≡ false
free_at true b first x xs below same ascends here next =
    skip x (least_free first xs) xs false (λ e. omega (arith, first-le first xs, ltb-true x first below)) here
free_at false true first x xs below same ascends here next =
    skip x (least_free (first + 1) xs) xs false (λ e. omega (arith, first-le (first + 1) xs, eqb-true x first same)) next
free_at false false first x xs below same ascends here next =
    let above : first < x = omega (arith, ltb-false x first below, eqb-false x first same) in
    skip x first xs false (λ e. omega arith) (none_above first xs (above_more x first xs above ascends.0))

-- it isn't in the list, where the list ascends
pub least_free-free : (first : ℕ) (xs : List ℕ) → Ascends xs → list_any (λ m. m == least_free first xs) xs ≡ false
least_free-free first [] ascends = refl
least_free-free first (x ∷ xs) ascends =
    free_at (nat_lt x first) (x == first) first x xs refl refl ascends (least_free-free first xs ascends.1) (least_free-free (first + 1) xs ascends.1)

taken_at : (a b : Bool) (first x n : ℕ) (xs : List ℕ) → (x == first) ≡ b → first ≤ n → n < cond a (least_free first xs) (cond b (least_free (first + 1) xs) first) → (n < least_free first xs → list_any (λ m. m == n) xs ≡ true) → (first + 1 ≤ n → n < least_free (first + 1) xs → list_any (λ m. m == n) xs ≡ true) → list_any (λ m. m == n) (x ∷ xs) ≡ true
taken_at true b first x n xs same from below here next = or_right (x == n) _ (here below)
taken_at false true first x n xs same from below here next =
    elim (cases_lt first n) [
      | inl later ↦ or_right (x == n) _ (next (omega arith) below)
      | inr now ↦ ap (λ t. t || list_any (λ m. m == n) xs) (eq-eqb x n (omega (arith, eqb-true x first same)))
    ]
taken_at false false first x n xs same from below here next = absurd (omega arith)

-- each number from the first up to it is in the list
pub least_free-taken : (first : ℕ) (xs : List ℕ) (n : ℕ) → first ≤ n → n < least_free first xs → list_any (λ m. m == n) xs ≡ true
least_free-taken first [] n from below = absurd (omega arith)
least_free-taken first (x ∷ xs) n from below =
    taken_at (nat_lt x first) (x == first) first x n xs refl from below (least_free-taken first xs n from) (least_free-taken (first + 1) xs n)
