-- The numbers that go as prefixes are released.
use Rattle.std.proofs.Common.{◌≡◌, ℕ, ◌==◌, ◌≤◌, ◌&&◌, Bool, true, false, not, cond, List, [], ◌∷◌, Option, None, Some, ◌⊎◌, inl, inr, refl, sym, ap, ◌∙◌, subst, arith, map-id}
use Rattle.std.specs.List.{IsDistinct, filter_map, list_any}
use Rattle.std.specs.Option.{option_and_then, option_map_or}
use Rattle.std.proofs.lemmas.Bool.{and_from, and_parts, and_right, both_ways, cases_Bool, cases_lt, cond-true, eqb-true, eq-eqb, le-leb, leb-true, lt-leb, not-true, not_from_false}
use Rattle.pol_addr.specs.declared.network.Prefix.{Prefix}
use Rattle.pol_addr.specs.Prefix.{same_prefix}
use Rattle.pol_set_changes.specs.Ids.{has}
use Rattle.pol_data.proofs.Members.{In, Contains-from_In, In-from_Contains}
use Rattle.pol_model.specs.declared.limits.TheConstants.{LOCAL_FIRST, RESERVED_LAST}
use Rattle.pol_model.specs.declared.row.IdentityRow.{IdentityRow}
use Rattle.pol_model.specs.Identities.{is_local, is_reserved}
use Rattle.pol_model.specs.Prefixes.{has_prefix, number_of_prefix, prefixes_released}
use Rattle.pol_model_laws.specs.Holding.{has_row, row_of}
use Rattle.pol_model_laws.specs.Keeps.{IsClusterRow, IsLocalRow, KeepsRows}
use Rattle.pol_model_laws.proofs.Distinct.{counted_once}
use Rattle.pol_model_laws.proofs.FoundRows.{found-number, found-prefix, found_with, holders-some, reserved-there, row-kinds}
use Rattle.pol_model_laws.proofs.Ledger.{has_prefix-is, taken_unreserved}
use Rattle.pol_model_laws.proofs.Membership.{In-list_any, list_any-In}
use Rattle.pol_model_laws.proofs.PolicyHolders.{same_prefix-Decides}
use Rattle.pol_model_laws.proofs.PrefixHolders.{same_tests, times, times-cons}
use Rattle.pol_model_laws.proofs.RowCounts.{released-count, released-goes}
use Rattle.pol_model_laws.proofs.RowLaws.{keep_prefixes_released}
use Rattle.pol_prefixes.specs.Going.{going, has_last}
use Rattle.pol_prefixes.proofs.Has.{has-filter_map, is-some_of, is_some_of, some_of-is}
use Rattle.pol_prefixes.proofs.Numbers.{own_row}

-- ---- how often a prefix is named
pub times_own : (prefix : Prefix) (prefixes : List Prefix) (own : Option Prefix) → In prefix prefixes → has_prefix prefix own ≡ true → 1 ≤ times prefixes own
times_own prefix [] own there named = elim there [ ]
times_own prefix (first ∷ others) own (inl same) named =
    let here = ap {B = ℕ} (λ b. cond b 1 0) (ap (λ p. has_prefix p own) same ∙ named) in
    omega (arith, times-cons first others own, here)
times_own prefix (first ∷ others) own (inr later) named =
    omega (arith, times-cons first others own, times_own prefix others own later named)

pub times_some : (prefixes : List Prefix) (own : Option Prefix) → 1 ≤ times prefixes own → (prefix : Prefix) × In prefix prefixes × (has_prefix prefix own ≡ true)
times_some [] own some = absurd (omega (arith, some))
times_some (first ∷ others) own some =
    elim (cases_Bool (has_prefix first own)) [
      | inl named ↦ (first, inl refl, named)
      | inr other ↦
          let here = ap {B = ℕ} (λ b. cond b 1 0) other in
          let rest = times_some others own (omega (arith, some, times-cons first others own, here)) in
          (rest.0, inr rest.1, rest.2)
    ]

one_at_most : (b : Bool) → cond b 1 0 ≤ 1
one_at_most true = omega arith
one_at_most false = omega arith

pub times_one : (prefix : Prefix) (prefixes : List Prefix) → IsDistinct same_prefix prefixes → times prefixes (Some prefix) ≤ 1
times_one prefix prefixes once =
    let counted = counted_once (λ p. p) same_prefix-Decides prefix prefixes (subst (IsDistinct same_prefix) (sym (map-id prefixes)) once) in
    omega (arith, counted, one_at_most (list_any (λ p. same_prefix p prefix) prefixes))

-- ---- the number that goes with a prefix
going_tells : (prefix : Prefix) (rows : List IdentityRow) (number : ℕ) → going prefix rows ≡ Some number → (number_of_prefix prefix rows ≡ Some number) × (has_last number rows ≡ true)
going_tells prefix rows number is = by (number_of_prefix prefix rows) refl is
  where
    last : (own : ℕ) (b : Bool) → has_last own rows ≡ b → cond b (Some own) None ≡ Some number → (own ≡ number) × (b ≡ true)
    last own true at is = (cc, refl)
    last own false at is = absurd cc

    by : (o : Option ℕ) → number_of_prefix prefix rows ≡ o → option_and_then (λ n. cond (has_last n rows) (Some n) None) o ≡ Some number → (number_of_prefix prefix rows ≡ Some number) × (has_last number rows ≡ true)
    by None at is = absurd cc
    by (Some own) at is =
        let told = last own (has_last own rows) refl is in
        (at ∙ ap Some told.0, subst (λ n. has_last n rows ≡ true) told.0 told.1)

going_at : (prefix : Prefix) (rows : List IdentityRow) (number : ℕ) → number_of_prefix prefix rows ≡ Some number → has_last number rows ≡ true → going prefix rows ≡ Some number
going_at prefix rows number at last =
    ap (option_and_then (λ n. cond (has_last n rows) (Some n) None)) at ∙ cond-true (has_last number rows) (Some number) None last

-- ---- and those of all prefixes
module _ (prefixes : List Prefix) (rows : List IdentityRow) (keeps : KeepsRows rows) (once : IsDistinct same_prefix prefixes) (number : ℕ) where
  abbrev left : List IdentityRow
  left = prefixes_released prefixes rows

  abbrev gone : List ℕ
  gone = filter_map (λ prefix. going prefix rows) prefixes

  keeps_left : KeepsRows left
  keeps_left = keep_prefixes_released prefixes rows keeps

  row_at : (row : IdentityRow) → In row rows → row.number ≡ number → row_of number rows ≡ Some row
  row_at row there is = ap (λ n. row_of n rows) (sym is) ∙ found-number rows keeps row (Contains-from_In rows row there)

  last_holders : (row : IdentityRow) → row_of number rows ≡ Some row → option_map_or (λ row. row.holders == 1) (row_of number rows) false ≡ true → row.holders ≡ 1
  last_holders row at last = eqb-true row.holders 1 (sym (ap (λ o. option_map_or (λ row. row.holders == 1) o false) at) ∙ last)

  local_unreserved : is_local number ≡ true → is_reserved number ≡ false
  local_unreserved local = and_right _ _ (lt-leb number RESERVED_LAST (let from = leb-true LOCAL_FIRST number local in omega (arith, from)))

  goes : has number gone ≡ true → (has_row number rows && not (has_row number left)) ≡ true
  goes some =
      let one = In-list_any (λ prefix. is_some_of number (going prefix rows)) prefixes (sym (has-filter_map (λ prefix. going prefix rows) number prefixes) ∙ some) in
      let told = going_tells one.0 rows number (some_of-is number (going one.0 rows) one.2) in
      let row = found_with (λ row. has_prefix one.0 row.prefix) rows number told.0 in
      let last = and_parts (is_local number) (option_map_or (λ row. row.holders == 1) (row_of number rows) false) told.1 in
      let holders = last_holders row.0 (row_at row.0 row.1 row.3) last.1 in
      let named = times_own one.0 prefixes row.0.prefix one.1 row.2 in
      let unreserved : is_reserved row.0.number ≡ false = ap is_reserved row.3 ∙ local_unreserved last.0 in
      and_from (has_row number rows) (not (has_row number left)) (own_row row.0 rows number row.1 row.3)
      (not_from_false (has_row number left) (
      subst (λ n. has_row n left ≡ false) row.3 (released-goes prefixes rows row.0 keeps (Contains-from_In rows row.0 row.1) unreserved (omega (arith, holders, named)))))

  local_row : (row : IdentityRow) (prefix : Prefix) → IsClusterRow row ⊎ IsLocalRow row → row.prefix ≡ Some prefix → is_local row.number ≡ true
  local_row row prefix (inl one) is = absurd (let wrong : None ≡ Some prefix = sym one.no_prefix ∙ is in cc)
  local_row row prefix (inr one) is = le-leb LOCAL_FIRST row.number one.from

  went : (has_row number rows && not (has_row number left)) ≡ true → has number gone ≡ true
  went some =
      let parts = and_parts (has_row number rows) (not (has_row number left)) some in
      let row = In-list_any (λ row. row.number == number) rows parts.0 in
      let is = eqb-true row.0.number number row.2 in
      let there = Contains-from_In rows row.0 row.1 in
      let none = not-true (has_row number left) parts.1 in
      let holders = holders-some rows keeps row.0 there in
      elim (row-kinds rows keeps row.0 there) [
        | inl reserved ↦
            absurd (both_ways (has_row number left) none (own_row row.0 left number (In-from_Contains left row.0 (reserved-there left keeps_left row.0 reserved)) is))
        | inr kind ↦ elim (cases_lt (times prefixes row.0.prefix) row.0.holders) [
          | inl more ↦
              let stays = released-count prefixes rows row.0 keeps there (taken_unreserved row.0 kind) more in
              absurd (both_ways (has_row number left) none (own_row _ left number (In-from_Contains left _ stays) is))
          | inr few ↦
              let named = times_some prefixes row.0.prefix (omega (arith, few, holders)) in
              let own = has_prefix-is named.0 row.0.prefix named.2 in
              let at = found-prefix rows keeps row.0 named.0 there own ∙ ap Some is in
              let most : times prefixes row.0.prefix ≤ 1 = subst (λ o. times prefixes o ≤ 1) (sym own) (times_one named.0 prefixes once) in
              let one : row.0.holders ≡ 1 = omega (arith, few, most, holders) in
              let local : is_local number ≡ true = ap is_local (sym is) ∙ local_row row.0 named.0 kind own in
              let last = and_from (is_local number) (option_map_or (λ row. row.holders == 1) (row_of number rows) false) local
              (ap (λ o. option_map_or (λ row. row.holders == 1) o false) (row_at row.0 row.1 is) ∙ eq-eqb row.0.holders 1 one) in
              has-filter_map (λ prefix. going prefix rows) number prefixes
              ∙ list_any-In (λ prefix. is_some_of number (going prefix rows)) named.0 prefixes named.1 (is-some_of number (going named.0 rows) (going_at named.0 rows number at last))
        ]
      ]

  pub gone_beyond : has number gone ≡ (has_row number rows && not (has_row number left))
  gone_beyond = same_tests (has number gone) (has_row number rows && not (has_row number left)) goes went
