-- How many rows of identities there are: a label set adds one at most, and what is released adds none.
use Rattle.std.proofs.Common.{◌≡◌, ℕ, zero, suc, ◌+◌, ◌-◌, ◌≤◌, Bool, true, false, cond, ◌&&◌, ◌==◌, nat_lt, List, [], ◌∷◌, length, map, filter, insert, count_by, Option, None, Some, is_none, refl, arith}
use Rattle.std.proofs.lemmas.Bool.{le-ltb}
use Rattle.std.proofs.lemmas.List.{length-map}
use Rattle.std.proofs.lemmas.List.Sums.{count_by-le-length}
use Rattle.pol_addr.specs.declared.network.Prefix.{Prefix}
use Rattle.pol_labels.specs.declared.label.Label.{Label}
use Rattle.pol_model.specs.Fault.{is_exhausted, locals_held}
use Rattle.pol_model.specs.Identities.{free_number, held_or_new, is_local, labels_held, number_of_labels, number_released, recounted}
use Rattle.pol_model.specs.Numbers.{least_free}
use Rattle.pol_model.specs.Prefixes.{number_of_prefix, prefix_released, prefixes_released}
use Rattle.pol_model.specs.declared.limits.TheConstants.{CLUSTER_FIRST, CLUSTER_LAST, LOCAL_IDENTITIES}
use Rattle.pol_model.specs.declared.row.IdentityRow.{IdentityRow}

-- ---- lists

pub inserted_length : {X : Type 0} (xs : List X) (k : ℕ) (x : X) → length (insert xs k x) ≤ suc (length xs)
inserted_length [] zero x = omega arith
inserted_length [] (suc k) x = omega arith
inserted_length (y ∷ ys) zero x = omega arith
inserted_length (y ∷ ys) (suc k) x = omega (arith, inserted_length ys k x)

filter_where : {X : Type 0} (passes : Bool) (x : X) (xs : List X) (n : ℕ) → length xs ≤ n → length (cond passes (x ∷ xs) xs) ≤ suc n
filter_where true x xs n few = omega (arith, few)
filter_where false x xs n few = omega (arith, few)

filter_length : {X : Type 0} (p : X → Bool) (xs : List X) → length (filter p xs) ≤ length xs
filter_length p [] = omega arith
filter_length p (x ∷ xs) = filter_where (p x) x (filter p xs) (length xs) (filter_length p xs)

-- ---- rows

held_by : (o : Option ℕ) (new : IdentityRow) (rows : List IdentityRow) → length (held_or_new o new rows) ≤ suc (length rows)
held_by (Some number) new rows = omega (arith, length-map rows (recounted number (λ count. count + 1)))
held_by None new rows = inserted_length rows (count_by (λ (row : IdentityRow). nat_lt row.number new.number) rows) new

pub labels_held_length : (labels : List Label) (rows : List IdentityRow) → length (labels_held labels rows) ≤ suc (length rows)
labels_held_length labels rows =
    held_by (number_of_labels labels rows) (record { number = free_number CLUSTER_FIRST rows; labels = labels; prefix = None; holders = 1 }) rows

released_by : (o : Option ℕ) (rows : List IdentityRow) → length (number_released o rows) ≤ length rows
released_by None rows = omega arith
released_by (Some number) rows =
    let counted = map (recounted number (λ count. count - 1)) rows in
    omega (arith, filter_length (λ (row : IdentityRow). nat_lt 0 row.holders) counted, length-map rows (recounted number (λ count. count - 1)))

pub prefixes_released_length : (prefixes : List Prefix) (rows : List IdentityRow) → length (prefixes_released prefixes rows) ≤ length rows
prefixes_released_length [] rows = omega arith
prefixes_released_length (prefix ∷ others) rows =
    let first : length (prefix_released prefix rows) ≤ length rows = released_by (number_of_prefix prefix rows) rows in
    let rest : length (prefixes_released others (prefix_released prefix rows)) ≤ length (prefix_released prefix rows) =
    prefixes_released_length others (prefix_released prefix rows) in
    omega (arith, first, rest)

-- ---- numbers that are left

free_where : (low same : Bool) (a b c n : ℕ) → a ≤ n → b ≤ n → c ≤ n → cond low a (cond same b c) ≤ n
free_where true same a b c n one two three = one
free_where false true a b c n one two three = two
free_where false false a b c n one two three = three

free_below : (first : ℕ) (taken : List ℕ) → least_free first taken ≤ first + length taken
free_below first [] = omega arith
free_below first (n ∷ taken) =
    free_where (nat_lt n first) (n == first) (least_free first taken) (least_free (first + 1) taken) first (first + suc (length taken))
    (omega (arith, free_below first taken)) (omega (arith, free_below (first + 1) taken)) (omega arith)

and_false : (a b : Bool) → b ≡ false → (a && b) ≡ false
and_false true b none = none
and_false false b none = refl

-- few rows leave a number for each label set
pub number_left : (labels : List Label) (rows : List IdentityRow) → length rows ≤ 100 → is_exhausted labels rows ≡ false
number_left labels rows few =
    let numbers = map (λ (row : IdentityRow). row.number) rows in
    let below : free_number CLUSTER_FIRST rows ≤ CLUSTER_LAST =
    omega (arith, free_below CLUSTER_FIRST numbers, length-map rows (λ (row : IdentityRow). row.number), few) in
    and_false (is_none (number_of_labels labels rows)) (nat_lt CLUSTER_LAST (free_number CLUSTER_FIRST rows))
    (le-ltb CLUSTER_LAST (free_number CLUSTER_FIRST rows) below)

-- few rows have room for a policy without prefixes
pub room_left : (rows : List IdentityRow) → length rows ≤ 100 → nat_lt LOCAL_IDENTITIES (locals_held rows + 0) ≡ false
room_left rows few =
    let held : locals_held rows ≤ length rows = count_by-le-length (λ (row : IdentityRow). is_local row.number) rows in
    le-ltb LOCAL_IDENTITIES (locals_held rows + 0) (omega (arith, held, few))
