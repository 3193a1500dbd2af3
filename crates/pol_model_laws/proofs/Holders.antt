-- Holding a label set, and releasing a number, in rows that fit together.
use Rattle.std.proofs.Common.{◌≡◌, ℕ, ◌+◌, ◌==◌, ◌≤◌, ◌&&◌, Bool, true, false, not, cond, List, map, find, nat_lt, Option, None, Some, option_map, is_none, inl, inr, refl, sym, ◌∙◌, subst, arith}
use Rattle.std.specs.List.{list_any}
use Rattle.std.proofs.lemmas.Bool.{eqb-false, eq-eqb, ne_eqb, ltb-false, and_cases, and_from, both_ways, not_from_false, not-false}
use Rattle.std.proofs.lemmas.Bool.Decides.{nat_tests}
use Rattle.pol_addr.specs.declared.network.Prefix.{Prefix}
use Rattle.pol_labels.specs.declared.label.Label.{Label}
use Rattle.pol_labels.specs.Order.{IsLabelSet}
use Rattle.pol_labels.specs.Same.{same_labels}
use Rattle.pol_labels.specs.SameLaws.{same_labels-Decides}
use Rattle.pol_data.proofs.Members.{In}
use Rattle.pol_model.specs.declared.limits.TheConstants.{CLUSTER_FIRST, CLUSTER_LAST, INIT_IDENTITY}
use Rattle.pol_model.specs.declared.row.IdentityRow.{IdentityRow}
use Rattle.pol_model.specs.Fault.{has_reserved, is_init, is_exhausted}
use Rattle.pol_model_laws.specs.Holding.{has_row}
use Rattle.pol_model.specs.Identities.{is_local, free_number, held_or_new, labels_held, number_for, number_of_labels, number_where, or_free, recounted}
use Rattle.pol_model.proofs.LeastFree.{first-le, least_free-free}
use Rattle.pol_model_laws.proofs.Ledger.{Ledger, recounted_ledger, placed_ledger}
use Rattle.pol_model_laws.proofs.Membership.{find-In, find-none, list_any-In, list_any-map, none-In}
use Rattle.pol_model_laws.proofs.Rows.{BeginsReserved}

-- one more of one number, none of any other
abbrev pub one_of : ℕ → ℕ → ℕ
one_of number other = cond (number == other) 1 0

-- what a number found tells
pub number_where-some : (passes : IdentityRow → Bool) (rows : List IdentityRow) (number : ℕ) → number_where passes rows ≡ Some number → (row : IdentityRow) × (find passes rows ≡ Some row) × (row.number ≡ number)
number_where-some passes rows number is = told (find passes rows) is
  where
    told : (found : Option IdentityRow) → option_map (λ row. row.number) found ≡ Some number → (row : IdentityRow) × (found ≡ Some row) × (row.number ≡ number)
    told None is = absurd cc
    told (Some row) is = (row, refl, cc)

pub number_where-none : (passes : IdentityRow → Bool) (rows : List IdentityRow) → number_where passes rows ≡ None → list_any passes rows ≡ false
number_where-none passes rows is = find-none passes rows (told (find passes rows) is)
  where
    told : (found : Option IdentityRow) → option_map (λ row. row.number) found ≡ None → found ≡ None
    told None is = refl
    told (Some row) is = absurd cc

-- the row of `reserved:init` is there
pub init_number : (labels : List Label) (rows : List IdentityRow) → BeginsReserved rows → is_init labels ≡ true → number_of_labels labels rows ≡ Some INIT_IDENTITY
init_number labels rows begins init =
    let is = (same_labels-Decides labels _).0 init in
    rw (is, begins.1) refl

-- a new label set without a row isn't reserved
new_unreserved : (labels : List Label) (rows : List IdentityRow) → BeginsReserved rows → (has_reserved labels && not (is_init labels)) ≡ false → number_of_labels labels rows ≡ None → has_reserved labels ≡ false
new_unreserved labels rows begins allowed none =
    elim (and_cases (has_reserved labels) (not (is_init labels)) allowed) [
      | inl unreserved ↦ unreserved
      | inr init ↦ absurd (let number = init_number labels rows begins (not-false (is_init labels) init) in cc)
    ]

pub within_cluster : (o : Option ℕ) (free : ℕ) → o ≡ None → (is_none o && nat_lt CLUSTER_LAST free) ≡ false → free ≤ CLUSTER_LAST
within_cluster None free none room = ltb-false CLUSTER_LAST free room
within_cluster (Some number) free none room = absurd cc

-- a row for labels
abbrev pub labels_row : ℕ → List Label → IdentityRow
labels_row number labels = record { number = number; labels = labels; prefix = None; holders = 1 }

-- counts of one more and of one less
more_at : (h x y a b : ℕ) → h ≡ x + y → cond (a == b) (h + 1) h ≡ (x + cond (b == a) 1 0) + y
more_at h x y a b is = grind (arith, nat_tests, is)

none_more : (h x y a b : ℕ) → h ≡ x + y → (b ≡ a → ⊥) → h ≡ (x + cond (b == a) 1 0) + y
none_more h x y a b is other = grind (arith, nat_tests, is, other)

pub first_holder : (x y a : ℕ) → x ≡ 0 → y ≡ 0 → 1 ≡ (x + cond (a == a) 1 0) + y
first_holder x y a no_x no_y = rw (eq-eqb a a refl) (omega (arith, no_x, no_y))

none_at : (x a b : ℕ) → x ≡ 0 → (b == a) ≡ false → x + cond (b == a) 1 0 ≡ 0
none_at x a b is other = rw other (omega (arith, is))

module _ {by_number : ℕ → ℕ} {by_prefix : Option Prefix → ℕ} {rows : List IdentityRow} (ledger : Ledger by_number by_prefix rows) where
  pub free-none : (first : ℕ) → has_row (free_number first rows) rows ≡ false
  free-none first = sym (list_any-map (λ row. row.number) (λ n. n == free_number first rows) rows) ∙ least_free-free first (map (λ row. row.number) rows) ledger.ascend

  pub free_other : (first : ℕ) (row : IdentityRow) → In row rows → free_number first rows ≡ row.number → ⊥
  free_other first row there same = eqb-false row.number (free_number first rows) (none-In (λ row. row.number == free_number first rows) row rows (free-none first) there) (sym same)

  -- one holder more of a label set that has a row
  hold_found : (labels : List Label) (number : ℕ) → number_of_labels labels rows ≡ Some number
      → Ledger (λ n. by_number n + one_of number n) by_prefix (map (recounted number (λ count. count + 1)) rows)
  hold_found labels number is =
      let row = number_where-some (λ row. not (is_local row.number) && same_labels row.labels labels) rows number is in
      let there = find-In (λ row. not (is_local row.number) && same_labels row.labels labels) row.0 rows row.1 in
      let its = list_any-In (λ row. row.number == number) row.0 rows there.0 (eq-eqb row.0.number number row.2) in
      recounted_ledger ledger (λ n. by_number n + one_of number n) by_prefix number (λ count. count + 1)
      (λ row here taken. more_at row.holders (by_number row.number) (by_prefix row.prefix) row.number number taken.count)
      (λ n none. none_at (by_number n) n number (ledger.numbers_there n none) (ne_eqb number n (λ same. both_ways (has_row n rows) none (subst (λ m. has_row m rows ≡ true) same its))))
      ledger.prefixes_there

  -- a label set takes a new row
  hold_new : (labels : List Label) → IsLabelSet labels → has_reserved labels ≡ false → by_prefix None ≡ 0
      → number_of_labels labels rows ≡ None → free_number CLUSTER_FIRST rows ≤ CLUSTER_LAST
      → Ledger (λ n. by_number n + one_of (free_number CLUSTER_FIRST rows) n) by_prefix (held_or_new None (labels_row (free_number CLUSTER_FIRST rows) labels) rows)
  hold_new labels set unreserved nobody none room =
      let free = free_number CLUSTER_FIRST rows in
      let new = labels_row free labels in
      let nothing = number_where-none (λ row. not (is_local row.number) && same_labels row.labels labels) rows none in
      placed_ledger ledger (λ n. by_number n + one_of free n) by_prefix new
      (inl (record { number = (first-le CLUSTER_FIRST (map (λ row. row.number) rows), room); label_set = set; not_reserved = unreserved; no_prefix = refl }))
      (free-none CLUSTER_FIRST)
      (λ old there same.
      both_ways (not (is_local old.number) && same_labels old.labels labels)
      (none-In (λ row. not (is_local row.number) && same_labels row.labels labels) old rows nothing there)
      (and_from _ _ (not_from_false (is_local old.number) same.1) ((same_labels-Decides old.labels labels).1 (sym same.2))))
      (λ old there same. cc (same.1))
      (first_holder (by_number free) (by_prefix None) free (ledger.numbers_there free (free-none CLUSTER_FIRST)) nobody)
      (λ row there taken. none_more row.holders (by_number row.number) (by_prefix row.prefix) row.number free taken.count (free_other CLUSTER_FIRST row there))
      (λ n none other. none_at (by_number n) n free (ledger.numbers_there n none) other)
      (λ prefix none other. ledger.prefixes_there prefix none)

  -- one holder more of a label set
  pub hold_labels : (labels : List Label) → IsLabelSet labels → (has_reserved labels && not (is_init labels)) ≡ false → by_prefix None ≡ 0 → is_exhausted labels rows ≡ false
      → Ledger (λ n. by_number n + one_of (number_for labels rows) n) by_prefix (labels_held labels rows)
  hold_labels labels set allowed nobody room = held (number_of_labels labels rows) refl
    where
      held : (o : Option ℕ) → number_of_labels labels rows ≡ o
          → Ledger (λ n. by_number n + one_of (or_free o (free_number CLUSTER_FIRST rows)) n) by_prefix (held_or_new o (labels_row (free_number CLUSTER_FIRST rows) labels) rows)
      held (Some number) is = hold_found labels number is
      held None is =
          hold_new labels set (new_unreserved labels rows ledger.begins allowed is) nobody is
          (within_cluster (number_of_labels labels rows) (free_number CLUSTER_FIRST rows) is room)
