-- What a binary search in an id set says, and the sets with no number and with one.
use Rattle.std.proofs.Common.{◌≡◌, ℕ, ◌==◌, ◌<◌, ◌^◌, List, [], ◌∷◌, false, get_or, Result, Ok, Err, is_ok, sym, inl, inr, arith}
use Rattle.std.proofs.lemmas.Bool.{cases_lt, eq-eqb, ne_eqb}
use Rattle.std.proofs.lemmas.List.Elements.{All-cons, All-from_get_or, All-nil}
use Rattle.std.proofs.lemmas.List.Folds.{list_any_at, list_any_none}
use Rattle.std.proofs.lemmas.List.Sorted.{searched}
use Rattle.std.proofs.lemmas.Map.Keys.{non_decreasing_from_sorted}
use Rattle.std.specs.List.{list_any}
use Rattle.std.specs.List.Sorted.{IsBinarySearchResult, IsStrictlySortedBy}
use Rattle.std.specs.Ordering.{nat_cmp}
use Rattle.pol_sets.specs.IdSet.{IsIdSet}

pub no_ids : IsIdSet []
unfolding IsStrictlySortedBy
no_ids = record { ascends = tt; small = All-nil (λ id. id < 2 ^ 32) }

pub one_id : (id : ℕ) → id < 2 ^ 32 → IsIdSet (id ∷ [])
unfolding IsStrictlySortedBy
one_id id small = record { ascends = (tt, tt); small = All-cons (λ id. id < 2 ^ 32) id [] small no_ids.small }

pub found_is : (xs : List ℕ) (x : ℕ) (r : Result ℕ ℕ) → IsBinarySearchResult (λ y. nat_cmp y x) xs r → IsStrictlySortedBy nat_cmp xs
    → is_ok r ≡ list_any (λ y. y == x) xs
found_is xs x (Ok i) found up =
    let at = searched xs x (Ok i) found (λ j k le within. non_decreasing_from_sorted xs up j k 0 le within) in
    sym (list_any_at (λ y. y == x) xs i 0 at.0 (eq-eqb (get_or xs i 0) x at.1))
found_is xs x (Err i) found up =
    let at = searched xs x (Err i) found (λ j k le within. non_decreasing_from_sorted xs up j k 0 le within) in
    sym (list_any_none (λ y. y == x) xs (All-from_get_or (λ y. (y == x) ≡ false) xs 0 (λ k within.
    elim (cases_lt k i) [
      | inl below ↦ (let less = at.1 k below in ne_eqb (get_or xs k 0) x (λ e. omega arith))
      | inr above ↦ (let more = at.2 k above within in ne_eqb (get_or xs k 0) x (λ e. omega arith))
    ])))
