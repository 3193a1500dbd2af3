-- Prefixes that are given up and were held before are none of those whose numbers come.
use Rattle.std.proofs.Common.{◌≡◌, ℕ, ◌+◌, ◌-◌, ◌==◌, true, false, List, [], ◌∷◌, map, nat_lt, Option, None, Some, inl, inr, refl, sym, ap, ◌∙◌, subst}
use Rattle.std.specs.List.{AllByRecursion}
use Rattle.std.proofs.lemmas.Bool.{both_ways, cases_Bool, eq-eqb}
use Rattle.pol_addr.specs.declared.network.Prefix.{Prefix}
use Rattle.pol_data.proofs.Members.{In}
use Rattle.pol_model.specs.declared.limits.TheConstants.{LOCAL_FIRST}
use Rattle.pol_model.specs.declared.row.IdentityRow.{IdentityRow}
use Rattle.pol_model.specs.Identities.{free_number, held_or_new, number_released, recounted, released}
use Rattle.pol_model.specs.Prefixes.{has_prefix, number_of_prefix, prefix_held, prefix_released, prefix_row, prefixes_held, prefixes_released}
use Rattle.pol_model.proofs.AscendingStates.{RowsAscend, held_ascend}
use Rattle.pol_model_laws.specs.Holding.{has_row, is_held}
use Rattle.pol_model_laws.specs.Keeps.{KeepsRows}
use Rattle.pol_model_laws.proofs.FoundRows.{found_with}
use Rattle.pol_model_laws.proofs.Holders.{number_where-none}
use Rattle.pol_model_laws.proofs.HoldingLaws.{released_alone}
use Rattle.pol_model_laws.proofs.Keyed.{In-placed}
use Rattle.pol_model_laws.proofs.Ledger.{AllHeld, has_prefix-is}
use Rattle.pol_model_laws.proofs.Membership.{In-filter, list_any-In}
use Rattle.pol_model_laws.proofs.Parts.{part-prefixes_held, part-row}
use Rattle.pol_model_laws.proofs.PrefixHolders.{held_more}
use Rattle.pol_model_laws.proofs.Releases.{number_released-held, prefixes_held-held}
use Rattle.pol_model_laws.proofs.RowLedger.{held_from}
use Rattle.pol_model_laws.proofs.Rows.{In-recounted}
use Rattle.pol_allocator.specs.Held.{AreApart}

-- a prefix that is held brings no row of a prefix that was held before
one_held : (prefix : Prefix) (rows : List IdentityRow) (row : IdentityRow) → In row (prefix_held prefix rows) → (own : Prefix) → row.prefix ≡ Some own → is_held own rows ≡ true → has_row row.number rows ≡ true
one_held prefix rows row there own its held = by (number_of_prefix prefix rows) refl there
  where
    by : (o : Option ℕ) → number_of_prefix prefix rows ≡ o → In row (held_or_new o (prefix_row prefix (free_number LOCAL_FIRST rows)) rows) → has_row row.number rows ≡ true
    by (Some number) is there =
        let from = In-recounted number (λ count. count + 1) row rows there in
        list_any-In (λ r. r.number == row.number) from.0 rows from.1 (eq-eqb from.0.number row.number (ap (λ r. r.number) from.2))
    by None is there =
        elim (In-placed (λ r. r.number) (prefix_row prefix (free_number LOCAL_FIRST rows)) row rows there) [
          | inl new ↦
              let told : Some prefix ≡ Some own = ap (λ r. r.prefix) new ∙ its in
              let same : prefix ≡ own = cc in
              absurd (both_ways (is_held own rows) (subst (λ p. is_held p rows ≡ false) same (number_where-none (λ r. has_prefix prefix r.prefix) rows is)) held)
          | inr old ↦ list_any-In (λ r. r.number == row.number) row rows old (eq-eqb row.number row.number refl)
        ]

held_before : (prefixes : List Prefix) (rows : List IdentityRow) → RowsAscend rows → (row : IdentityRow) → In row (prefixes_held prefixes rows)
    → (own : Prefix) → row.prefix ≡ Some own → is_held own rows ≡ true → has_row row.number rows ≡ true
held_before [] rows ascend row there own its held = list_any-In (λ r. r.number == row.number) row rows there (eq-eqb row.number row.number refl)
held_before (prefix ∷ others) rows ascend row there own its held =
    let mid = prefix_held prefix rows in
    let mid_ascend = held_ascend (number_of_prefix prefix rows) (prefix_row prefix (free_number LOCAL_FIRST rows)) LOCAL_FIRST rows refl ascend in
    let has = held_before others mid mid_ascend row there own its (held_more prefix own rows held) in
    let was = part-row mid (prefixes_held others mid) (part-prefixes_held others mid mid_ascend) row there has in
    subst (λ n. has_row n rows ≡ true) (ap (λ r. r.number) was.2) (one_held prefix rows was.0 was.1 own (ap (λ r. r.prefix) was.2 ∙ its) held)

-- Each row has a holder, and one of a prefix that was held before had a row before.
record KnowsHeld (before rows : List IdentityRow) : Type 0 where
  held : AllHeld rows
  known : (row : IdentityRow) → In row rows → (own : Prefix) → row.prefix ≡ Some own → is_held own before ≡ true → has_row row.number before ≡ true

knows_released : (o : Option ℕ) (before rows : List IdentityRow) → KnowsHeld before rows → KnowsHeld before (number_released o rows)
knows_released None before rows knows = knows
knows_released (Some number) before rows knows = record {
  held = number_released-held (Some number) rows knows.held;
  known = λ row there own its held.
      let kept = (In-filter (λ r. nat_lt 0 r.holders) row (map (recounted number (λ count. count - 1)) rows) there).0 in
      let from = In-recounted number (λ count. count - 1) row rows kept in
      subst (λ n. has_row n before ≡ true) (ap (λ r. r.number) from.2) (knows.known from.0 from.1 own (ap (λ r. r.prefix) from.2 ∙ its) held);
}

-- a number that had no row before stays
stays : (given_up : List Prefix) (before rows : List IdentityRow) → KnowsHeld before rows → AllByRecursion (λ prefix. is_held prefix before ≡ true) given_up
    → (number : ℕ) → has_row number before ≡ false → has_row number rows ≡ true → has_row number (prefixes_released given_up rows) ≡ true
stays [] before rows knows held number new there = there
stays (prefix ∷ others) before rows knows held number new there =
    stays others before (prefix_released prefix rows) (knows_released (number_of_prefix prefix rows) before rows knows) held.1 number new (one (number_of_prefix prefix rows) refl)
  where
    one : (o : Option ℕ) → number_of_prefix prefix rows ≡ o → has_row number (number_released o rows) ≡ true
    one None is = there
    one (Some gone) is =
        let found = found_with (λ r. has_prefix prefix r.prefix) rows gone is in
        let was = knows.known found.0 found.1 prefix (has_prefix-is prefix found.0.prefix found.2) held.0 in
        elim (cases_Bool (has_row number (released gone rows))) [
          | inl still ↦ still
          | inr went ↦
              let its : number ≡ gone = released_alone gone number rows knows.held there went in
              absurd (both_ways (has_row number before) new (subst (λ n. has_row n before ≡ true) (found.3 ∙ sym its) was))
        ]

-- a number that comes is of a prefix that had no row before
pub apart_where_held : (taken given_up : List Prefix) (rows : List IdentityRow) → KeepsRows rows → AllByRecursion (λ prefix. is_held prefix rows ≡ true) given_up → AreApart taken given_up rows
apart_where_held taken given_up rows keeps held number there =
    elim (cases_Bool (has_row number rows)) [
      | inl old ↦ inl old
      | inr new ↦
          inr (stays given_up rows (prefixes_held taken rows)
          (record { held = prefixes_held-held taken rows (held_from keeps); known = held_before taken rows keeps.numbers }) held number new there)
    ]
