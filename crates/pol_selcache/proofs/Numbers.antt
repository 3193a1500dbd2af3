-- Which numbers lists have, and that a list that ascends is fixed by them.
use Rattle.std.proofs.Common.{◌≡◌, ℕ, ◌==◌, ◌<◌, ◌&&◌, ◌||◌, Bool, true, false, not, List, [], ◌∷◌, ◌++◌, filter, length, refl, sym, ap, ◌∙◌, subst, arith}
use Rattle.std.specs.List.{Contains}
use Rattle.std.specs.List.Sorted.{IsStrictlySortedBy}
use Rattle.std.specs.Ordering.{nat_cmp}
use Rattle.std.specs.declared.cmp.Ordering.TheVariants.{Less}
use Rattle.std.proofs.lemmas.Bool.{cond-true, eqb-true, eq-eqb, lt-ltb}
use Rattle.std.proofs.lemmas.Cmp.{nat_cmp_total}
use Rattle.std.proofs.lemmas.List.Folds.{list_any-append}
use Rattle.std.proofs.lemmas.Map.Views.{any-filter_same}
use Rattle.pol_data.proofs.Ascending.{same_members}
use Rattle.pol_data.proofs.Every.{every-weaker}
use Rattle.pol_data.proofs.Members.{In, Contains-from_In, In-from_Contains}
use Rattle.pol_model_laws.proofs.Membership.{In-list_any, list_any-In}
use Rattle.pol_model.specs.Ascending.{Ascends}
use Rattle.pol_set_changes.specs.Ids.{has, without}

-- ---- order
above : (x y : ℕ) → x < y → nat_cmp x y ≡ Less
above x y below = cond-true _ Less _ (lt-ltb x y below)

pub strict_from_ascends : (xs : List ℕ) → Ascends xs → IsStrictlySortedBy nat_cmp xs
unfolding IsStrictlySortedBy
strict_from_ascends [] ascends = tt
strict_from_ascends (x ∷ xs) ascends =
    (every-weaker (λ y. x < y) (λ y. nat_cmp x y ≡ Less) (λ y below. above x y below) xs ascends.0, strict_from_ascends xs ascends.1)

-- ---- numbers that are there
pub In-has : (n : ℕ) (xs : List ℕ) → has n xs ≡ true → In n xs
In-has n xs there =
    let found = In-list_any (λ own. own == n) xs there in
    subst (λ m. In m xs) (eqb-true found.0 n found.2) found.1

pub has-In : (n : ℕ) (xs : List ℕ) → In n xs → has n xs ≡ true
has-In n xs there = list_any-In (λ own. own == n) n xs there (eq-eqb n n refl)

pub has-filter : (p : ℕ → Bool) (n : ℕ) (xs : List ℕ) → has n (filter p xs) ≡ (p n && has n xs)
has-filter p n xs = any-filter_same (λ own. own == n) p (p n) (λ k same. ap p (eqb-true k n same)) xs

pub has-without : (n : ℕ) (xs ys : List ℕ) → has n (without xs ys) ≡ (not (has n ys) && has n xs)
has-without n xs ys = has-filter (λ m. not (has m ys)) n xs

-- two lists that ascend and have the same numbers are equal
pub same_numbers : (xs ys : List ℕ) → IsStrictlySortedBy nat_cmp xs → IsStrictlySortedBy nat_cmp ys → ((n : ℕ) → has n xs ≡ has n ys) → xs ≡ ys
same_numbers xs ys xs_ascend ys_ascend same =
    same_members nat_cmp_total xs ys xs_ascend ys_ascend
    (λ n there. In-has n ys (sym (same n) ∙ has-In n xs there))
    (λ n there. In-has n xs (same n ∙ has-In n ys there))

-- a list with a number isn't empty
pub has_none : (n : ℕ) (xs : List ℕ) → (length xs == 0) ≡ true → has n xs ≡ false
has_none n [] empty = refl
has_none n (x ∷ xs) empty = absurd (let none = eqb-true (length (x ∷ xs)) 0 empty in omega arith)

-- numbers that are sorted and then freed of doubles
pub has-members : (n : ℕ) (xs ys : List ℕ) → (Contains xs n → Contains ys n) → has n xs ≡ true → has n ys ≡ true
has-members n xs ys to there = has-In n ys (In-from_Contains ys n (to (Contains-from_In xs n (In-has n xs there))))

pub same_has : (n : ℕ) (xs ys : List ℕ) → (Contains xs n → Contains ys n) → (Contains ys n → Contains xs n) → has n xs ≡ has n ys
same_has n xs ys to back = agree (has n xs) (has n ys) (has-members n xs ys to) (has-members n ys xs back)
  where
    agree : (a b : Bool) → (a ≡ true → b ≡ true) → (b ≡ true → a ≡ true) → a ≡ b
    agree true b to back = sym (to refl)
    agree false true to back = back refl
    agree false false to back = refl

pub has-append : (n : ℕ) (xs ys : List ℕ) → has n (xs ++ ys) ≡ (has n xs || has n ys)
has-append n xs ys = list_any-append (λ own. own == n) xs ys

pub and_swap : (a b : Bool) → (a && b) ≡ (b && a)
and_swap true true = refl
and_swap true false = refl
and_swap false true = refl
and_swap false false = refl
