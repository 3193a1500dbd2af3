-- The number of a prefix, as prefixes and label sets are held and released.
use Rattle.std.proofs.Common.{◌≡◌, ℕ, ◌+◌, ◌==◌, true, false, cond, List, count_by, nat_lt, Option, None, Some, option_map, inl, inr, refl, sym, ap, ◌∙◌, subst}
use Rattle.std.proofs.lemmas.Bool.{both_ways, cases_Bool, cond-false, cond-true, eq-eqb, le-leb}
use Rattle.pol_addr.specs.declared.network.Prefix.{Prefix}
use Rattle.pol_addr.specs.Prefix.{same_prefix}
use Rattle.pol_labels.specs.declared.label.Label.{Label}
use Rattle.pol_data.proofs.Members.{In, Contains-from_In, In-from_Contains}
use Rattle.pol_model.specs.declared.limits.TheConstants.{CLUSTER_FIRST, LOCAL_FIRST}
use Rattle.pol_model.specs.declared.row.IdentityRow.{IdentityRow}
use Rattle.pol_model.specs.Identities.{free_number, held_or_new, is_local, labels_held, number_of_labels, or_free, released}
use Rattle.pol_model.specs.Prefixes.{has_prefix, number_of_prefix, prefix_held, prefix_row}
use Rattle.pol_model_laws.specs.Holding.{has_row, IsPartOf}
use Rattle.pol_model_laws.specs.Keeps.{KeepsRows}
use Rattle.pol_model_laws.proofs.ComeAndGo.{in_whole}
use Rattle.pol_model_laws.proofs.FoundRows.{alone-released, found-prefix, found_with, holders-some, reserved-there, row-kinds}
use Rattle.pol_model_laws.proofs.Holders.{labels_row, number_where-none}
use Rattle.pol_model_laws.proofs.Keyed.{one_of_number}
use Rattle.pol_model_laws.proofs.Ledger.{has_prefix-is, same_prefix-is}
use Rattle.pol_model_laws.proofs.Membership.{list_any-In}
use Rattle.pol_model_laws.proofs.Parts.{part-released, part-row}
use Rattle.pol_model_laws.proofs.PrefixHolders.{same_prefix-itself}
use Rattle.pol_model_laws.proofs.RowLaws.{keep_released}
use Rattle.pol_ident.specs.Look.{number_for_prefix}
use Rattle.pol_prefixes.proofs.Finding.{insert-other, insert-own, recounted-where}

pub some_is_none : {n : ℕ} → Some n ≡ None → ⊥
some_is_none e = cc

pub own_row : (row : IdentityRow) (rows : List IdentityRow) (number : ℕ) → In row rows → row.number ≡ number → has_row number rows ≡ true
own_row row rows number there is = list_any-In (λ other. other.number == number) row rows there (eq-eqb row.number number is)

-- the number of a prefix has a row
pub number_has : (prefix : Prefix) (rows : List IdentityRow) (number : ℕ) → number_of_prefix prefix rows ≡ Some number → has_row number rows ≡ true
number_has prefix rows number is =
    let row = found_with (λ row. has_prefix prefix row.prefix) rows number is in
    own_row row.0 rows number row.1 row.3

-- ---- held
-- a prefix that is held has its number, and the others have theirs
pub number_of_held : (prefix own : Prefix) (rows : List IdentityRow) → number_of_prefix own (prefix_held prefix rows) ≡ cond (same_prefix own prefix) (Some (number_for_prefix prefix rows)) (number_of_prefix own rows)
number_of_held prefix own rows =
    elim (cases_Bool (same_prefix own prefix)) [
      | inl same ↦
          let is = same_prefix-is own prefix same in
          subst (λ p. number_of_prefix p (prefix_held prefix rows) ≡ Some (number_for_prefix prefix rows)) (sym is) (its (number_of_prefix prefix rows) refl)
          ∙ sym (cond-true (same_prefix own prefix) _ _ same)
      | inr other ↦ others (number_of_prefix prefix rows) other ∙ sym (cond-false (same_prefix own prefix) _ _ other)
    ]
  where
    new : IdentityRow
    new = prefix_row prefix (free_number LOCAL_FIRST rows)

    its : (o : Option ℕ) → number_of_prefix prefix rows ≡ o → number_of_prefix prefix (held_or_new o new rows) ≡ Some (or_free o (free_number LOCAL_FIRST rows))
    its (Some number) is = recounted-where (λ row. has_prefix prefix row.prefix) (λ row c. refl) number (λ count. count + 1) rows ∙ is
    its None is =
        ap (option_map (λ row. row.number))
        (insert-own (λ row. has_prefix prefix row.prefix) new (count_by (λ row. nat_lt row.number new.number) rows) rows (same_prefix-itself prefix) (number_where-none (λ row. has_prefix prefix row.prefix) rows is))

    others : (o : Option ℕ) → same_prefix own prefix ≡ false → number_of_prefix own (held_or_new o new rows) ≡ number_of_prefix own rows
    others (Some number) other = recounted-where (λ row. has_prefix own row.prefix) (λ row c. refl) number (λ count. count + 1) rows
    others None other =
        ap (option_map (λ row. row.number))
        (insert-other (λ row. has_prefix own row.prefix) new (count_by (λ row. nat_lt row.number new.number) rows) rows other)

-- a label set has no prefix
pub number_of_labelled : (labels : List Label) (own : Prefix) (rows : List IdentityRow) → number_of_prefix own (labels_held labels rows) ≡ number_of_prefix own rows
number_of_labelled labels own rows = by (number_of_labels labels rows)
  where
    new : IdentityRow
    new = labels_row (free_number CLUSTER_FIRST rows) labels

    by : (o : Option ℕ) → number_of_prefix own (held_or_new o new rows) ≡ number_of_prefix own rows
    by (Some number) = recounted-where (λ row. has_prefix own row.prefix) (λ row c. refl) number (λ count. count + 1) rows
    by None =
        ap (option_map (λ row. row.number))
        (insert-other (λ row. has_prefix own row.prefix) new (count_by (λ row. nat_lt row.number new.number) rows) rows refl)

-- ---- a part of the rows
-- the number, where it has a row
abbrev pub if_there : List IdentityRow → Option ℕ → Option ℕ
if_there rows None = None
if_there rows (Some number) = cond (has_row number rows) (Some number) None

module _ (rows others : List IdentityRow) (part : IsPartOf rows others) (keeps : KeepsRows rows) (keeps_others : KeepsRows others) (own : Prefix) where
  -- the row of the prefix in the whole
  whole_of : (number : ℕ) → number_of_prefix own rows ≡ Some number → number_of_prefix own others ≡ Some number
  whole_of number is =
      let its = found_with (λ row. has_prefix own row.prefix) rows number is in
      let whole = in_whole rows others part its.0 its.1 in
      let its_prefix = has_prefix-is own its.0.prefix its.2 in
      found-prefix others keeps_others whole.0 own (Contains-from_In others whole.0 whole.1) (ap (λ r. r.prefix) whole.2 ∙ its_prefix)
      ∙ ap Some (ap (λ r. r.number) whole.2 ∙ its.3)

  pub number_in_part : number_of_prefix own rows ≡ if_there rows (number_of_prefix own others)
  number_in_part = by (number_of_prefix own others) refl
    where
      none : (o : Option ℕ) → number_of_prefix own rows ≡ o → ((number : ℕ) → number_of_prefix own rows ≡ Some number → ⊥) → o ≡ None
      none None is never = refl
      none (Some number) is never = absurd (never number is)

      by : (o : Option ℕ) → number_of_prefix own others ≡ o → number_of_prefix own rows ≡ if_there rows o
      by None is = none (number_of_prefix own rows) refl (λ number at. some_is_none (sym (whole_of number at) ∙ is))
      by (Some number) is =
          let its = found_with (λ row. has_prefix own row.prefix) others number is in
          elim (cases_Bool (has_row number rows)) [
            | inl there ↦
                let kept = part-row rows others part its.0 its.1 (subst (λ n. has_row n rows ≡ true) (sym its.3) there) in
                found-prefix rows keeps kept.0 own (Contains-from_In rows kept.0 kept.1) (ap (λ r. r.prefix) kept.2 ∙ has_prefix-is own its.0.prefix its.2)
                ∙ ap Some (ap (λ r. r.number) kept.2 ∙ its.3)
                ∙ sym (cond-true (has_row number rows) _ _ there)
            | inr gone ↦
                none (number_of_prefix own rows) refl (λ other at.
                let row = found_with (λ row. has_prefix own row.prefix) rows other at in
                let same : Some other ≡ Some number = sym (whole_of other at) ∙ is in
                let same_number : other ≡ number = cc in
                both_ways (has_row number rows) gone (own_row row.0 rows number row.1 (row.3 ∙ same_number)))
                ∙ sym (cond-false (has_row number rows) _ _ gone)
          ]

-- ---- released
module _ (rows : List IdentityRow) (keeps : KeepsRows rows) (number : ℕ) where
  abbrev left : List IdentityRow
  left = released number rows

  keeps_left : KeepsRows left
  keeps_left = keep_released (Some number) rows keeps

  in_left : (own : Prefix) → number_of_prefix own left ≡ if_there left (number_of_prefix own rows)
  in_left own = number_in_part left rows (part-released number rows keeps.numbers) keeps_left keeps own

  -- another number stays
  other_stays : (other : ℕ) → has_row other rows ≡ true → (other ≡ number → has_row other left ≡ true) → has_row other left ≡ true
  other_stays other there own =
      elim (cases_Bool (has_row other left)) [
        | inl stays ↦ stays
        | inr goes ↦ own (alone-released number other rows (holders-some rows keeps) there goes)
      ]

  -- where the number is the prefix's, it alone may go
  pub number_of_released : (prefix : Prefix) → number_of_prefix prefix rows ≡ Some number → (own : Prefix)
      → number_of_prefix own left ≡ cond (same_prefix own prefix) (if_there left (Some number)) (number_of_prefix own rows)
  number_of_released prefix is own =
      in_left own
      ∙ elim (cases_Bool (same_prefix own prefix)) as (λ _. if_there left (number_of_prefix own rows) ≡ cond (same_prefix own prefix) (if_there left (Some number)) (number_of_prefix own rows)) [
        | inl same ↦
            ap (if_there left) (ap (λ p. number_of_prefix p rows) (same_prefix-is own prefix same) ∙ is)
            ∙ sym (cond-true (same_prefix own prefix) _ _ same)
        | inr other ↦ stays (number_of_prefix own rows) refl other ∙ sym (cond-false (same_prefix own prefix) _ _ other)
      ]
    where
      stays : (o : Option ℕ) → number_of_prefix own rows ≡ o → same_prefix own prefix ≡ false → if_there left o ≡ o
      stays None at other = refl
      stays (Some its) at other =
          let row = found_with (λ row. has_prefix own row.prefix) rows its at in
          let one = found_with (λ row. has_prefix prefix row.prefix) rows number is in
          cond-true (has_row its left) _ _ (other_stays its (own_row row.0 rows its row.1 row.3) (λ same.
          let both = one_of_number (λ r. r.number) row.0 one.0 rows keeps.numbers row.1 one.1 (row.3 ∙ same ∙ sym one.3) in
          let prefixes : Some own ≡ Some prefix = sym (has_prefix-is own row.0.prefix row.2) ∙ ap (λ r. r.prefix) both ∙ has_prefix-is prefix one.0.prefix one.2 in
          let own_is : own ≡ prefix = cc in
          absurd (both_ways (same_prefix own prefix) other (subst (λ p. same_prefix own p ≡ true) own_is (same_prefix-itself own)))))

  -- a number that prefixes don't take changes no prefix's
  pub number_of_left : is_local number ≡ false → (own : Prefix) → number_of_prefix own left ≡ number_of_prefix own rows
  number_of_left cluster own = in_left own ∙ stays (number_of_prefix own rows) refl
    where
      stays : (o : Option ℕ) → number_of_prefix own rows ≡ o → if_there left o ≡ o
      stays None at = refl
      stays (Some its) at =
          let row = found_with (λ row. has_prefix own row.prefix) rows its at in
          let its_prefix = has_prefix-is own row.0.prefix row.2 in
          cond-true (has_row its left) _ _ (other_stays its (own_row row.0 rows its row.1 row.3) (λ same.
          elim (row-kinds rows keeps row.0 (Contains-from_In rows row.0 row.1)) [
            | inl reserved ↦ own_row row.0 left its (In-from_Contains left row.0 (reserved-there left keeps_left row.0 reserved)) row.3
            | inr (inl one) ↦ absurd (let wrong : None ≡ Some own = sym one.no_prefix ∙ its_prefix in cc)
            | inr (inr one) ↦ absurd (both_ways (is_local number) cluster (subst (λ n. is_local n ≡ true) (row.3 ∙ same) (le-leb LOCAL_FIRST row.0.number one.from)))
          ]))
