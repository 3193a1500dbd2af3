-- What follows from what rows keep, as `row_laws` hands it out.
use Rattle.std.proofs.Common.{◌≡◌, ℕ, ◌==◌, ◌<◌, ◌≤◌, ◌&&◌, Bool, true, false, not, List, [], ◌∷◌, drop, nat_le, Option, None, Some, ◌⊎◌, inl, inr, ⊎_elim, refl, sym, ap, ◌∙◌, subst, arith, is_none, nat_lt, filter, map, ◌+◌}
use Rattle.std.specs.Prelude.{◌↔◌}
use Rattle.std.specs.List.{AllByRecursion, Contains}
use Rattle.std.proofs.lemmas.Bool.{and_from, and_parts, both_ways, cases_lt, eqb-true, false_from_ne_true, leb-true, lt-ltb, ltb-true, not-true, not_from_false}
use Rattle.std.proofs.lemmas.List.Sums.{length-filter}
use Rattle.pol_addr.specs.declared.network.Prefix.{Prefix}
use Rattle.pol_labels.specs.declared.label.Label.{Label}
use Rattle.pol_labels.specs.Same.{same_labels}
use Rattle.pol_labels.specs.SameLaws.{same_labels-Decides}
use Rattle.pol_data.proofs.Members.{In, Contains-from_In, In-from_Contains}
use Rattle.pol_model.specs.declared.limits.TheConstants.{CLUSTER_FIRST, CLUSTER_LAST, EVERY_IDENTITY, LOCAL_FIRST, LOCAL_IDENTITIES, LOCAL_LAST, RESERVED_LAST}
use Rattle.pol_model.specs.declared.row.IdentityRow.{IdentityRow}
use Rattle.pol_model_laws.specs.Holding.{has_row, is_held, row_of, uncounted, IsPartOf}
use Rattle.pol_model.specs.Fault.{is_exhausted, locals_held}
use Rattle.pol_model.specs.Identities.{free_number, is_local, is_reserved, number_of_labels, number_where, released, reserved_identities}
use Rattle.pol_model_laws.specs.Keeps.{IsClusterRow, IsLocalRow, KeepsRows}
use Rattle.pol_model.specs.Prefixes.{has_prefix, number_of_prefix, prefixes_held}
use Rattle.pol_model.proofs.AscendingStates.{RowsAscend}
use Rattle.pol_model.proofs.Ascents.{filter_ascends}
use Rattle.pol_model_laws.proofs.ComeAndGo.{in_whole}
use Rattle.pol_model_laws.proofs.Holders.{number_where-some, number_where-none}
use Rattle.pol_model_laws.proofs.HoldingLaws.{new_prefix_row, prefixes_all_held, released_alone}
use Rattle.pol_model_laws.proofs.KeepsAll.{keeps}
use Rattle.pol_model_laws.proofs.Keyed.{ascend_few, found_by_number}
use Rattle.pol_model.proofs.LeastFree.{first-le, least_free-taken}
use Rattle.pol_model_laws.proofs.Ledger.{has_prefix-is, taken_unreserved}
use Rattle.pol_model_laws.proofs.Membership.{In-filter, In-left, In-list_any, find-In, list_any-map, none-In}
use Rattle.pol_model_laws.proofs.Parts.{free_row, part-row}
use Rattle.pol_model_laws.proofs.RowLedger.{begins, held_from, kind_of, row_cases}
use Rattle.pol_model_laws.proofs.StartRows.{start_row}
use Rattle.pol_model_laws.proofs.PrefixHolders.{has_prefix-at}

-- the one row that passes is found
where_found : (passes : IdentityRow → Bool) (rows : List IdentityRow) (row : IdentityRow) → In row rows → passes row ≡ true → ((other : IdentityRow) → In other rows → passes other ≡ true → other ≡ row) → number_where passes rows ≡ Some row.number
where_found passes rows row there own alone = found (number_where passes rows) refl
  where
    found : (o : Option ℕ) → number_where passes rows ≡ o → o ≡ Some row.number
    found None is = absurd (both_ways (passes row) (none-In passes row rows (number_where-none passes rows is) there) own)
    found (Some number) is =
        let one = number_where-some passes rows number is in
        let at = find-In passes one.0 rows one.1 in
        ap Some (sym one.2 ∙ ap (λ r. r.number) (alone one.0 at.0 at.1))

pub found_with : (passes : IdentityRow → Bool) (rows : List IdentityRow) (number : ℕ) → number_where passes rows ≡ Some number → (row : IdentityRow) × In row rows × (passes row ≡ true) × (row.number ≡ number)
found_with passes rows number is =
    let one = number_where-some passes rows number is in
    let at = find-In passes one.0 rows one.1 in
    (one.0, at.0, at.1, one.2)

abbrev pub labels_pass : List Label → IdentityRow → Bool
labels_pass labels row = not (is_local row.number) && same_labels row.labels labels

module _ (rows : List IdentityRow) (keeps : KeepsRows rows) where
  pub found-number : (row : IdentityRow) → Contains rows row → row_of row.number rows ≡ Some row
  found-number row there = found_by_number (λ r. r.number) row rows keeps.numbers (In-from_Contains rows row there)

  pub found-labels : (row : IdentityRow) → Contains rows row → is_local row.number ≡ false → number_of_labels row.labels rows ≡ Some row.number
  found-labels row there cluster =
      where_found (λ other. not (is_local other.number) && same_labels other.labels row.labels) rows row (In-from_Contains rows row there)
      (and_from (not (is_local row.number)) _ (not_from_false (is_local row.number) cluster) ((same_labels-Decides row.labels row.labels).1 refl))
      (λ other here passes.
      let tests = and_parts (not (is_local other.number)) (same_labels other.labels row.labels) passes in
      keeps.labels other row (Contains-from_In rows other here) there (not-true (is_local other.number) tests.0) cluster ((same_labels-Decides other.labels row.labels).0 tests.1))

  pub found-prefix : (row : IdentityRow) (prefix : Prefix) → Contains rows row → row.prefix ≡ Some prefix → number_of_prefix prefix rows ≡ Some row.number
  found-prefix row prefix there own =
      where_found (λ other. has_prefix prefix other.prefix) rows row (In-from_Contains rows row there) (has_prefix-at prefix row.prefix own)
      (λ other here passes. keeps.prefixes other row prefix (Contains-from_In rows other here) there (has_prefix-is prefix other.prefix passes) own)

  pub row-kinds : (row : IdentityRow) → Contains rows row → Contains reserved_identities row ⊎ (IsClusterRow row ⊎ IsLocalRow row)
  row-kinds row there =
      ⊎_elim (λ reserved. inl (Contains-from_In reserved_identities row reserved)) (λ behind. inr (kind_of keeps row behind))
      (row_cases keeps row (In-from_Contains rows row there))

  pub reserved-there : (row : IdentityRow) → Contains reserved_identities row → Contains rows row
  reserved-there row there =
      Contains-from_In rows row (subst (In row) (sym (begins keeps)) (In-left row reserved_identities (drop RESERVED_LAST rows) (In-from_Contains reserved_identities row there)))

  -- each number is at least 1
  above_zero : (row : IdentityRow) → Contains rows row → 0 < row.number
  above_zero row there =
      elim (row-kinds row there) [
        | inl reserved ↦ leb-true 1 row.number (and_parts (nat_le 1 row.number) (nat_le row.number RESERVED_LAST) (start_row row (In-from_Contains reserved_identities row reserved)).reserved.is).0
        | inr kind ↦ ⊎_elim (λ cluster. let from = cluster.number.0 in omega (arith, from)) (λ local. let from = local.from in omega (arith, from)) kind
      ]

  pub none-zero : has_row EVERY_IDENTITY rows ≡ false
  none-zero =
      false_from_ne_true (has_row EVERY_IDENTITY rows) (λ has.
      let one = In-list_any (λ row. row.number == EVERY_IDENTITY) rows has in
      let above = above_zero one.0 (Contains-from_In rows one.0 one.1) in
      let is = eqb-true one.0.number EVERY_IDENTITY one.2 in
      omega (arith, above, is))

  -- a reserved row counts one holder, and any other one too
  pub holders-reserved : (row : IdentityRow) → Contains rows row → is_reserved row.number ≡ true → row.holders ≡ 1
  holders-reserved row there reserved =
      elim (row_cases keeps row (In-from_Contains rows row there)) [
        | inl first ↦ (start_row row first).reserved.holders
        | inr behind ↦ absurd (both_ways (is_reserved row.number) (taken_unreserved row (kind_of keeps row behind)) reserved)
      ]

  pub holders-some : (row : IdentityRow) → Contains rows row → 0 < row.holders
  holders-some row there = held_from keeps row (In-from_Contains rows row there)

-- what is held and released, of elements of lists
pub theirs-held : (prefixes : List Prefix) (rows : List IdentityRow) (row : IdentityRow) → RowsAscend rows → Contains (prefixes_held prefixes rows) row
    → (has_row row.number rows ≡ true) ⊎ ((prefix : Prefix) × Contains prefixes prefix × (row.prefix ≡ Some prefix))
theirs-held prefixes rows row ascend there =
    ⊎_elim (λ old. inl old) (λ new. inr (new.0, Contains-from_In prefixes new.0 new.1, new.2)) (new_prefix_row prefixes rows ascend row (In-from_Contains (prefixes_held prefixes rows) row there))

pub each-prefix_held : (prefixes : List Prefix) (rows : List IdentityRow) (prefix : Prefix) → Contains prefixes prefix → is_held prefix (prefixes_held prefixes rows) ≡ true
each-prefix_held prefixes rows prefix there = prefixes_all_held prefixes rows prefix (inr (In-from_Contains prefixes prefix there))

pub alone-released : (number other : ℕ) (rows : List IdentityRow) → ((row : IdentityRow) → Contains rows row → 0 < row.holders) → has_row other rows ≡ true → has_row other (released number rows) ≡ false → other ≡ number
alone-released number other rows held = released_alone number other rows (λ row there. held row (Contains-from_In rows row there))

-- when numbers run out
exhausted-tells : (labels : List Label) (rows : List IdentityRow) → is_exhausted labels rows ≡ true
    → (number_of_labels labels rows ≡ None) × ((number : ℕ) → CLUSTER_FIRST ≤ number → number ≤ CLUSTER_LAST → has_row number rows ≡ true)
exhausted-tells labels rows is =
    let parts = and_parts (is_none (number_of_labels labels rows)) (nat_lt CLUSTER_LAST (free_number CLUSTER_FIRST rows)) is in
    let past = ltb-true CLUSTER_LAST (free_number CLUSTER_FIRST rows) parts.1 in (
      none (number_of_labels labels rows) parts.0,
      λ number from upto.
          sym (list_any-map (λ row. row.number) (λ n. n == number) rows)
          ∙ least_free-taken CLUSTER_FIRST (map (λ row. row.number) rows) number from (omega (arith, past, upto)),
    )
  where
    none : (o : Option ℕ) → is_none o ≡ true → o ≡ None
    none None is = refl
    none (Some number) is = absurd cc

exhausted-from : (labels : List Label) (rows : List IdentityRow) → RowsAscend rows → number_of_labels labels rows ≡ None
    → ((number : ℕ) → CLUSTER_FIRST ≤ number → number ≤ CLUSTER_LAST → has_row number rows ≡ true) → is_exhausted labels rows ≡ true
exhausted-from labels rows ascend none all =
    let free = free_number CLUSTER_FIRST rows in
    elim (cases_lt CLUSTER_LAST free) [
      | inl past ↦ and_from (is_none (number_of_labels labels rows)) (nat_lt CLUSTER_LAST free) (ap is_none none) (lt-ltb CLUSTER_LAST free past)
      | inr left ↦ absurd (both_ways (has_row free rows) (free_row CLUSTER_FIRST rows ascend) (all free (first-le CLUSTER_FIRST (map (λ row. row.number) rows)) left))
    ]

pub exhausted-exactly : (labels : List Label) (rows : List IdentityRow) → RowsAscend rows
    → (is_exhausted labels rows ≡ true) ↔ ((number_of_labels labels rows ≡ None) × ((number : ℕ) → CLUSTER_FIRST ≤ number → number ≤ CLUSTER_LAST → has_row number rows ≡ true))
exhausted-exactly labels rows ascend = (exhausted-tells labels rows, λ all. exhausted-from labels rows ascend all.0 all.1)

-- the numbers of prefixes are no more than there are
local_between : (rows : List IdentityRow) → KeepsRows rows → (row : IdentityRow) → In row (filter (λ row. is_local row.number) rows) → (LOCAL_FIRST ≤ row.number) × (row.number < LOCAL_LAST + 1)
local_between rows keeps row there =
    let at = In-filter (λ row. is_local row.number) row rows there in
    let from = leb-true LOCAL_FIRST row.number at.1 in
    elim (row-kinds rows keeps row (Contains-from_In rows row at.0)) [
      | inl reserved ↦
          let is = (start_row row (In-from_Contains reserved_identities row reserved)).reserved.is in
          let upto = leb-true row.number RESERVED_LAST (and_parts (nat_le 1 row.number) (nat_le row.number RESERVED_LAST) is).1 in
          absurd (omega (arith, from, upto))
      | inr kind ↦ ⊎_elim (λ cluster. absurd (let upto = cluster.number.1 in omega (arith, from, upto))) (λ local. (from, let upto = local.upto in omega (arith, upto))) kind
    ]

all_from : (xs : List IdentityRow) (m : ℕ) → ((row : IdentityRow) → In row xs → m ≤ row.number) → AllByRecursion (λ n. m ≤ n) (map (λ row. row.number) xs)
all_from [] m from = tt
all_from (x ∷ xs) m from = (from x (inl refl), all_from xs m (λ row there. from row (inr there)))

pub locals-few : (rows : List IdentityRow) → KeepsRows rows → locals_held rows ≤ LOCAL_IDENTITIES
locals-few rows keeps =
    let locals = filter (λ row. is_local row.number) rows in
    let few = ascend_few (λ row. row.number) LOCAL_FIRST (LOCAL_LAST + 1) locals (omega arith)
    (all_from locals LOCAL_FIRST (λ row there. (local_between rows keeps row there).0)) (λ row there. (local_between rows keeps row there).1)
    (filter_ascends (λ row. row.number) (λ row. is_local row.number) rows keeps.numbers) in
    omega (arith, few, length-filter (λ row. is_local row.number) rows)

-- rows of parts
counted_same : (row own : IdentityRow) → uncounted own ≡ uncounted row → record row { holders = own.holders } ≡ own
counted_same row own same = λ i. record { number = (sym same i).number; labels = (sym same i).labels; prefix = (sym same i).prefix; holders = own.holders }

pub part-outward : (rows others : List IdentityRow) (row : IdentityRow) → IsPartOf rows others → Contains rows row → (count : ℕ) × Contains others (record row { holders = count })
part-outward rows others row part there =
    let own = in_whole rows others part row (In-from_Contains rows row there) in
    (own.0.holders, subst (Contains others) (sym (counted_same row own.0 own.2)) (Contains-from_In others own.0 own.1))

pub part-inward : (rows others : List IdentityRow) (row : IdentityRow) → IsPartOf rows others → Contains others row → has_row row.number rows ≡ true → (count : ℕ) × Contains rows (record row { holders = count })
part-inward rows others row part there has =
    let own = part-row rows others part row (In-from_Contains others row there) has in
    (own.0.holders, subst (Contains rows) (sym (counted_same row own.0 own.2)) (Contains-from_In rows own.0 own.1))
