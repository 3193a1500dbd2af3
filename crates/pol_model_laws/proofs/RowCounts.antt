-- How holds and releases change the count of a row, and when it goes.
use Rattle.std.proofs.Common.{◌≡◌, ℕ, ◌+◌, ◌-◌, ◌==◌, ◌<◌, ◌≤◌, Bool, true, false, cond, List, [], ◌∷◌, map, nat_lt, Option, None, Some, inl, inr, refl, sym, ap, ◌∙◌, subst, arith}
use Rattle.std.specs.List.{Contains}
use Rattle.std.proofs.lemmas.Bool.{both_ways, cases_lt, eqb-true, eq-eqb, false_from_ne_true, lt-ltb, ltb-true}
use Rattle.pol_addr.specs.declared.network.Prefix.{Prefix}
use Rattle.pol_labels.specs.declared.label.Label.{Label}
use Rattle.pol_data.proofs.Members.{In, Contains-from_In, In-from_Contains}
use Rattle.pol_model.specs.declared.limits.TheConstants.{CLUSTER_FIRST, LOCAL_FIRST}
use Rattle.pol_model.specs.declared.row.IdentityRow.{IdentityRow}
use Rattle.pol_model_laws.specs.Holding.{has_row}
use Rattle.pol_model.specs.Identities.{free_number, held_or_new, is_reserved, labels_held, number_for, number_of_labels, number_released, or_free, recounted, released}
use Rattle.pol_model_laws.specs.Keeps.{KeepsRows}
use Rattle.pol_model.specs.Prefixes.{has_prefix, number_of_prefix, prefix_held, prefix_row, prefix_released, prefixes_held, prefixes_released}
use Rattle.pol_model.proofs.AscendingStates.{RowsAscend, held_ascend, released_ascend}
use Rattle.pol_model_laws.proofs.Holders.{labels_row, number_where-none, number_where-some}
use Rattle.pol_model_laws.proofs.Keyed.{one_of_number, placed-kept}
use Rattle.pol_model_laws.proofs.Ledger.{AllHeld, AreApart, SamePrefix, apart_filtered, apart_placed, apart_recounted, has_prefix-is}
use Rattle.pol_model_laws.proofs.Membership.{In-filter, In-list_any, filter-In, find-In, none-In}
use Rattle.pol_model_laws.proofs.Parts.{free_row, part-number, part-prefixes_released}
use Rattle.pol_model_laws.proofs.PrefixHolders.{has_prefix-at, one_prefix, same_tests, times, times-cons}
use Rattle.pol_model_laws.proofs.Releases.{number_released-held}
use Rattle.pol_model_laws.proofs.RowLedger.{held_from, prefixes_apart}
use Rattle.pol_model_laws.proofs.Rows.{with_count, recount, recount-other, In-recounted, recounted-In}

one_less : (b : Bool) (h : ℕ) → cond b (h - 1) h ≡ h - cond b 1 0
one_less true h = refl
one_less false h = omega arith

one_more : (b : Bool) (h : ℕ) → cond b (h + 1) h ≡ h + cond b 1 0
one_more true h = refl
one_more false h = omega arith

-- one holder less of a number: the row stays with one less, or goes
release_stays : (number : ℕ) (rows : List IdentityRow) (row : IdentityRow) → In row rows → is_reserved row.number ≡ false → cond (row.number == number) 1 0 < row.holders
    → In (with_count row (row.holders - cond (row.number == number) 1 0)) (released number rows)
release_stays number rows row there unreserved more =
    let now = recount number (λ count. count - 1) row in
    let is : now ≡ row.holders - cond (row.number == number) 1 0 = recount-other number (λ count. count - 1) row unreserved ∙ one_less (row.number == number) row.holders in
    subst (λ n. In (with_count row n) (released number rows)) is
    (filter-In (λ r. nat_lt 0 r.holders) (with_count row now) (map (recounted number (λ count. count - 1)) rows) (recounted-In number (λ count. count - 1) row rows there)
    (lt-ltb 0 now (omega (arith, is, more))))

release_goes : (number : ℕ) (rows : List IdentityRow) (row : IdentityRow) → RowsAscend rows → In row rows → is_reserved row.number ≡ false → row.holders ≤ cond (row.number == number) 1 0
    → has_row row.number (released number rows) ≡ false
release_goes number rows row ascend there unreserved few =
    false_from_ne_true (has_row row.number (released number rows)) (λ has.
    let one = In-list_any (λ r. r.number == row.number) (released number rows) has in
    let kept = In-filter (λ r. nat_lt 0 r.holders) one.0 (map (recounted number (λ count. count - 1)) rows) one.1 in
    let from = In-recounted number (λ count. count - 1) one.0 rows kept.0 in
    let same = one_of_number (λ r. r.number) from.0 row rows ascend from.1 there (ap (λ r. r.number) from.2 ∙ eqb-true one.0.number row.number one.2) in
    let now = sym (ap (λ r. r.holders) from.2) ∙ ap (recount number (λ count. count - 1)) same ∙ recount-other number (λ count. count - 1) row unreserved ∙ one_less (row.number == number) row.holders in
    omega (arith, ltb-true 0 one.0.holders kept.1, now, few))

-- rows in which prefixes differ
record ByPrefix (rows : List IdentityRow) : Type 0 where
  ascend : RowsAscend rows
  apart : AreApart SamePrefix rows

-- the row of the number of a prefix is that which has it
number_is : (prefix : Prefix) (rows : List IdentityRow) (number : ℕ) → ByPrefix rows → number_of_prefix prefix rows ≡ Some number → (row : IdentityRow) → In row rows → (row.number == number) ≡ has_prefix prefix row.prefix
number_is prefix rows number by is row there =
    let its = number_where-some (λ row. has_prefix prefix row.prefix) rows number is in
    let found = find-In (λ row. has_prefix prefix row.prefix) its.0 rows its.1 in
    same_tests (row.number == number) (has_prefix prefix row.prefix)
    (λ same.
    let one = one_of_number (λ row. row.number) its.0 row rows by.ascend found.0 there (its.2 ∙ sym (eqb-true row.number number same)) in
    subst (λ r. has_prefix prefix r.prefix ≡ true) one found.1)
    (λ has.
    eq-eqb row.number number
    (by.apart row its.0 there found.0 (prefix, has_prefix-is prefix row.prefix has, has_prefix-is prefix its.0.prefix found.1) ∙ its.2))

-- one holder less of a prefix
prefix_stays : (prefix : Prefix) (rows : List IdentityRow) (row : IdentityRow) → ByPrefix rows → In row rows → is_reserved row.number ≡ false → one_prefix prefix row.prefix < row.holders
    → In (with_count row (row.holders - one_prefix prefix row.prefix)) (prefix_released prefix rows)
prefix_stays prefix rows row by there unreserved more = stays (number_of_prefix prefix rows) refl
  where
    stays : (o : Option ℕ) → number_of_prefix prefix rows ≡ o → In (with_count row (row.holders - one_prefix prefix row.prefix)) (number_released o rows)
    stays None is =
        let none = none-In (λ r. has_prefix prefix r.prefix) row rows (number_where-none (λ r. has_prefix prefix r.prefix) rows is) there in
        let same : row.holders - one_prefix prefix row.prefix ≡ row.holders = rw none (omega arith) in
        subst (λ n. In (with_count row n) rows) (sym same) there
    stays (Some number) is =
        let its = number_is prefix rows number by is row there in
        subst (λ b. In (with_count row (row.holders - cond b 1 0)) (released number rows)) its
        (release_stays number rows row there unreserved (subst (λ b. cond b 1 0 < row.holders) (sym its) more))

prefix_goes : (prefix : Prefix) (rows : List IdentityRow) (row : IdentityRow) → ByPrefix rows → AllHeld rows → In row rows → is_reserved row.number ≡ false → row.holders ≤ one_prefix prefix row.prefix
    → has_row row.number (prefix_released prefix rows) ≡ false
prefix_goes prefix rows row by held there unreserved few = goes (number_of_prefix prefix rows) refl
  where
    goes : (o : Option ℕ) → number_of_prefix prefix rows ≡ o → has_row row.number (number_released o rows) ≡ false
    goes None is =
        let none = none-In (λ r. has_prefix prefix r.prefix) row rows (number_where-none (λ r. has_prefix prefix r.prefix) rows is) there in
        let nobody : row.holders ≤ 0 = subst (λ b. row.holders ≤ cond b 1 0) none few in
        absurd (omega (arith, held row there, nobody))
    goes (Some number) is =
        release_goes number rows row by.ascend there unreserved (subst (λ b. row.holders ≤ cond b 1 0) (sym (number_is prefix rows number by is row there)) few)

less_by : (prefix : Prefix) (rows : List IdentityRow) → ByPrefix rows → ByPrefix (prefix_released prefix rows)
less_by prefix rows by = less (number_of_prefix prefix rows)
  where
    less : (o : Option ℕ) → ByPrefix (number_released o rows)
    less None = by
    less (Some number) = record {
      ascend = released_ascend (Some number) rows by.ascend;
      apart = apart_filtered SamePrefix (λ r. nat_lt 0 r.holders) (map (recounted number (λ count. count - 1)) rows)
          (apart_recounted SamePrefix (λ one other c d same. same) number (λ count. count - 1) rows by.apart);
    }

-- one holder less of each prefix: the row stays with so many less, or goes
pub prefixes_stay : (prefixes : List Prefix) (rows : List IdentityRow) (row : IdentityRow) → RowsAscend rows → AreApart SamePrefix rows → In row rows → is_reserved row.number ≡ false → times prefixes row.prefix < row.holders
    → In (with_count row (row.holders - times prefixes row.prefix)) (prefixes_released prefixes rows)
prefixes_stay prefixes rows row ascend apart there unreserved more = stay prefixes rows row (record { ascend = ascend; apart = apart }) there unreserved more
  where
    stay : (prefixes : List Prefix) (rows : List IdentityRow) (row : IdentityRow) → ByPrefix rows → In row rows → is_reserved row.number ≡ false → times prefixes row.prefix < row.holders
        → In (with_count row (row.holders - times prefixes row.prefix)) (prefixes_released prefixes rows)
    stay [] rows row by there unreserved more = subst (λ n. In (with_count row n) rows) (omega arith) there
    stay (prefix ∷ others) rows row by there unreserved more =
        let sum = times-cons prefix others row.prefix in
        let first = prefix_stays prefix rows row by there unreserved (omega (arith, sum, more)) in
        let rest = stay others (prefix_released prefix rows) (with_count row (row.holders - one_prefix prefix row.prefix)) (less_by prefix rows by) first unreserved (omega (arith, sum, more)) in
        subst (λ n. In (with_count row n) (prefixes_released (prefix ∷ others) rows)) (omega (arith, sum)) rest

pub prefixes_go : (prefixes : List Prefix) (rows : List IdentityRow) (row : IdentityRow) → RowsAscend rows → AreApart SamePrefix rows → AllHeld rows → In row rows → is_reserved row.number ≡ false → row.holders ≤ times prefixes row.prefix
    → has_row row.number (prefixes_released prefixes rows) ≡ false
prefixes_go prefixes rows row ascend apart held there unreserved few = go prefixes rows row (record { ascend = ascend; apart = apart }) held there unreserved few
  where
    go : (prefixes : List Prefix) (rows : List IdentityRow) (row : IdentityRow) → ByPrefix rows → AllHeld rows → In row rows → is_reserved row.number ≡ false → row.holders ≤ times prefixes row.prefix
        → has_row row.number (prefixes_released prefixes rows) ≡ false
    go [] rows row by held there unreserved few = absurd (omega (arith, held row there, few))
    go (prefix ∷ others) rows row by held there unreserved few =
        let sum = times-cons prefix others row.prefix in
        let by_now = less_by prefix rows by in
        elim (cases_lt (one_prefix prefix row.prefix) row.holders) [
          | inl more ↦
              let first = prefix_stays prefix rows row by there unreserved more in
              go others (prefix_released prefix rows) (with_count row (row.holders - one_prefix prefix row.prefix)) by_now (number_released-held (number_of_prefix prefix rows) rows held) first unreserved (omega (arith, sum, few))
          | inr none_left ↦
              let gone = prefix_goes prefix rows row by held there unreserved none_left in
              false_from_ne_true (has_row row.number (prefixes_released others (prefix_released prefix rows))) (λ has.
              both_ways (has_row row.number (prefix_released prefix rows)) gone
              (part-number (prefixes_released others (prefix_released prefix rows)) (prefix_released prefix rows) (part-prefixes_released others (prefix_released prefix rows) by_now.ascend) row.number has))
        ]

-- one holder more of a label set
pub labels_more : (labels : List Label) (rows : List IdentityRow) (row : IdentityRow) → RowsAscend rows → In row rows → is_reserved row.number ≡ false
    → In (with_count row (row.holders + cond (row.number == number_for labels rows) 1 0)) (labels_held labels rows)
labels_more labels rows row ascend there unreserved = more (number_of_labels labels rows)
  where
    free : ℕ
    free = free_number CLUSTER_FIRST rows

    more : (o : Option ℕ) → In (with_count row (row.holders + cond (row.number == or_free o free) 1 0)) (held_or_new o (labels_row free labels) rows)
    more (Some number) =
        subst (λ n. In (with_count row n) (map (recounted number (λ count. count + 1)) rows))
        (recount-other number (λ count. count + 1) row unreserved ∙ one_more (row.number == number) row.holders)
        (recounted-In number (λ count. count + 1) row rows there)
    more None =
        let other = none-In (λ r. r.number == free) row rows (free_row CLUSTER_FIRST rows ascend) there in
        let same : row.holders ≡ row.holders + cond (row.number == free) 1 0 = rw other (omega arith) in
        subst (λ n. In (with_count row n) (held_or_new None (labels_row free labels) rows)) same (placed-kept (λ r. r.number) (labels_row free labels) row rows there)

-- one holder more of a prefix
prefix_more : (prefix : Prefix) (rows : List IdentityRow) (row : IdentityRow) → ByPrefix rows → In row rows → is_reserved row.number ≡ false
    → In (with_count row (row.holders + one_prefix prefix row.prefix)) (prefix_held prefix rows)
prefix_more prefix rows row by there unreserved = more (number_of_prefix prefix rows) refl
  where
    more : (o : Option ℕ) → number_of_prefix prefix rows ≡ o → In (with_count row (row.holders + one_prefix prefix row.prefix)) (held_or_new o (prefix_row prefix (free_number LOCAL_FIRST rows)) rows)
    more (Some number) is =
        subst (λ n. In (with_count row n) (map (recounted number (λ count. count + 1)) rows))
        (recount-other number (λ count. count + 1) row unreserved ∙ one_more (row.number == number) row.holders
        ∙ ap (λ b. row.holders + cond b 1 0) (number_is prefix rows number by is row there))
        (recounted-In number (λ count. count + 1) row rows there)
    more None is =
        let none = none-In (λ r. has_prefix prefix r.prefix) row rows (number_where-none (λ r. has_prefix prefix r.prefix) rows is) there in
        let same : row.holders ≡ row.holders + one_prefix prefix row.prefix = rw none (omega arith) in
        subst (λ n. In (with_count row n) (held_or_new None (prefix_row prefix (free_number LOCAL_FIRST rows)) rows)) same
        (placed-kept (λ r. r.number) (prefix_row prefix (free_number LOCAL_FIRST rows)) row rows there)

more_by : (prefix : Prefix) (rows : List IdentityRow) → ByPrefix rows → ByPrefix (prefix_held prefix rows)
more_by prefix rows by = record {
  ascend = held_ascend (number_of_prefix prefix rows) (prefix_row prefix (free_number LOCAL_FIRST rows)) LOCAL_FIRST rows refl by.ascend;
  apart = apart (number_of_prefix prefix rows) refl;
}
  where
    apart : (o : Option ℕ) → number_of_prefix prefix rows ≡ o → AreApart SamePrefix (held_or_new o (prefix_row prefix (free_number LOCAL_FIRST rows)) rows)
    apart (Some number) is = apart_recounted SamePrefix (λ one other c d same. same) number (λ count. count + 1) rows by.apart
    apart None is =
        apart_placed SamePrefix (λ one other same. (same.0, same.2, same.1)) (prefix_row prefix (free_number LOCAL_FIRST rows)) rows (λ old there same.
        both_ways (has_prefix prefix old.prefix) (none-In (λ r. has_prefix prefix r.prefix) old rows (number_where-none (λ r. has_prefix prefix r.prefix) rows is) there)
        (has_prefix-at prefix old.prefix (same.2 ∙ sym same.1)))
        by.apart

-- one holder more of each prefix
pub prefixes_more : (prefixes : List Prefix) (rows : List IdentityRow) (row : IdentityRow) → RowsAscend rows → AreApart SamePrefix rows → In row rows → is_reserved row.number ≡ false
    → In (with_count row (row.holders + times prefixes row.prefix)) (prefixes_held prefixes rows)
prefixes_more prefixes rows row ascend apart there unreserved = more prefixes rows row (record { ascend = ascend; apart = apart }) there unreserved
  where
    more : (prefixes : List Prefix) (rows : List IdentityRow) (row : IdentityRow) → ByPrefix rows → In row rows → is_reserved row.number ≡ false
        → In (with_count row (row.holders + times prefixes row.prefix)) (prefixes_held prefixes rows)
    more [] rows row by there unreserved = subst (λ n. In (with_count row n) rows) (omega arith) there
    more (prefix ∷ others) rows row by there unreserved =
        let sum = times-cons prefix others row.prefix in
        let first = prefix_more prefix rows row by there unreserved in
        let rest = more others (prefix_held prefix rows) (with_count row (row.holders + one_prefix prefix row.prefix)) (more_by prefix rows by) first unreserved in
        subst (λ n. In (with_count row n) (prefixes_held (prefix ∷ others) rows)) (omega (arith, sum)) rest

-- the same, as it is handed out
pub labels-count : (labels : List Label) (rows : List IdentityRow) (row : IdentityRow) → RowsAscend rows → Contains rows row → is_reserved row.number ≡ false
    → Contains (labels_held labels rows) (with_count row (row.holders + cond (row.number == number_for labels rows) 1 0))
labels-count labels rows row ascend there unreserved = Contains-from_In (labels_held labels rows) _ (labels_more labels rows row ascend (In-from_Contains rows row there) unreserved)

pub prefixes-count : (prefixes : List Prefix) (rows : List IdentityRow) (row : IdentityRow) → KeepsRows rows → Contains rows row → is_reserved row.number ≡ false
    → Contains (prefixes_held prefixes rows) (with_count row (row.holders + times prefixes row.prefix))
prefixes-count prefixes rows row keeps there unreserved =
    Contains-from_In (prefixes_held prefixes rows) _ (prefixes_more prefixes rows row keeps.numbers (prefixes_apart keeps) (In-from_Contains rows row there) unreserved)

pub number-count : (number : ℕ) (rows : List IdentityRow) (row : IdentityRow) → Contains rows row → is_reserved row.number ≡ false → cond (row.number == number) 1 0 < row.holders
    → Contains (released number rows) (with_count row (row.holders - cond (row.number == number) 1 0))
number-count number rows row there unreserved more = Contains-from_In (released number rows) _ (release_stays number rows row (In-from_Contains rows row there) unreserved more)

pub number-goes : (number : ℕ) (rows : List IdentityRow) (row : IdentityRow) → RowsAscend rows → Contains rows row → is_reserved row.number ≡ false → row.holders ≤ cond (row.number == number) 1 0
    → has_row row.number (released number rows) ≡ false
number-goes number rows row ascend there = release_goes number rows row ascend (In-from_Contains rows row there)

pub released-count : (prefixes : List Prefix) (rows : List IdentityRow) (row : IdentityRow) → KeepsRows rows → Contains rows row → is_reserved row.number ≡ false → times prefixes row.prefix < row.holders
    → Contains (prefixes_released prefixes rows) (with_count row (row.holders - times prefixes row.prefix))
released-count prefixes rows row keeps there unreserved more =
    Contains-from_In (prefixes_released prefixes rows) _ (prefixes_stay prefixes rows row keeps.numbers (prefixes_apart keeps) (In-from_Contains rows row there) unreserved more)

pub released-goes : (prefixes : List Prefix) (rows : List IdentityRow) (row : IdentityRow) → KeepsRows rows → Contains rows row → is_reserved row.number ≡ false → row.holders ≤ times prefixes row.prefix
    → has_row row.number (prefixes_released prefixes rows) ≡ false
released-goes prefixes rows row keeps there = prefixes_go prefixes rows row keeps.numbers (prefixes_apart keeps) (held_from keeps) (In-from_Contains rows row there)
