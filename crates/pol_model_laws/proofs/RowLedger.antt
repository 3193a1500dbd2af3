-- Rows that fit together, as they are handed out.
use Rattle.std.proofs.Common.{◌≡◌, ℕ, ◌+◌, ◌<◌, ◌≤◌, false, List, ◌++◌, take, drop, nat_le, Option, Some, ◌⊎◌, inl, inr, ⊎_elim, sym, ap, ◌∙◌, subst, arith}
use Rattle.std.specs.List.{Contains}
use Rattle.std.proofs.lemmas.Bool.{and_parts, leb-true}
use Rattle.std.proofs.lemmas.List.{take-append-drop}
use Rattle.pol_addr.specs.declared.network.Prefix.{Prefix}
use Rattle.pol_data.proofs.Members.{In, Contains-from_In, In-from_Contains, every-in, every-from_in}
use Rattle.pol_model.specs.declared.limits.TheConstants.{RESERVED_LAST}
use Rattle.pol_model.specs.declared.row.IdentityRow.{IdentityRow}
use Rattle.pol_model_laws.specs.Holding.{has_row, is_held}
use Rattle.pol_model.specs.Identities.{reserved_identities}
use Rattle.pol_model_laws.specs.Keeps.{IsClusterNumber, IsClusterRow, IsLocalRow, KeepsRows}
use Rattle.pol_model.proofs.AscendingStates.{RowsAscend}
use Rattle.pol_model_laws.proofs.Keyed.{above-In, one_of_number}
use Rattle.pol_model_laws.proofs.Ledger.{AllHeld, AreApart, IsReservedRow, IsTakenRow, Ledger, SameLabels, SamePrefix}
use Rattle.pol_model_laws.proofs.Membership.{In-append, In-right}
use Rattle.pol_model_laws.proofs.StartRows.{start_row}

-- the rows behind the reserved ones have greater numbers
above_last : (others : List IdentityRow) → RowsAscend (reserved_identities ++ others) → (row : IdentityRow) → In row others → RESERVED_LAST < row.number
above_last others ascend row there = above-In (λ r. r.number) RESERVED_LAST row others ascend.1.1.1.1.1.1.1.1.1.0 there

pub not_above : (row : IdentityRow) → IsReservedRow row → row.number ≤ RESERVED_LAST
not_above row reserved = leb-true row.number RESERVED_LAST (and_parts (nat_le 1 row.number) (nat_le row.number RESERVED_LAST) reserved.is).1

module _ {by_number : ℕ → ℕ} {by_prefix : Option Prefix → ℕ} {rows : List IdentityRow} (ledger : Ledger by_number by_prefix rows) where
  -- these are taken
  pub behind_taken : (row : IdentityRow) → In row (drop RESERVED_LAST rows) → IsTakenRow by_number by_prefix row
  behind_taken row there =
      let begins = ledger.begins in
      let is : In row begins.0 = subst (λ list. In row (drop RESERVED_LAST list)) begins.1 there in
      let above = above_last begins.0 (subst RowsAscend begins.1 ledger.ascend) row is in
      elim (ledger.each row (subst (In row) (sym begins.1) (In-right row reserved_identities begins.0 is))) [
        | inl reserved ↦ absurd (omega (arith, above, not_above row reserved))
        | inr taken ↦ taken
      ]

  -- a row of a number of the cluster is a label set's
  pub cluster_row : (row : IdentityRow) → In row rows → IsClusterNumber row.number → IsClusterRow row
  cluster_row row there number =
      let from = number.0 in
      let upto = number.1 in
      elim (ledger.each row there) [
        | inl reserved ↦ absurd (omega (arith, from, not_above row reserved))
        | inr taken ↦ ⊎_elim (λ cluster. cluster) (λ local. absurd (let first = local.from in omega (arith, upto, first))) taken.kind
      ]

  one_row : (one other : IdentityRow) → Contains rows one → Contains rows other → one.number ≡ other.number → one ≡ other
  one_row one other there here same = one_of_number (λ r. r.number) one other rows ledger.ascend (In-from_Contains rows one there) (In-from_Contains rows other here) same

  pub rows_from : AllHeld rows → KeepsRows rows
  rows_from held = record {
    reserved = ap (take RESERVED_LAST) ledger.begins.1;
    kinds = every-from_in (λ row. IsClusterRow row ⊎ IsLocalRow row) (drop RESERVED_LAST rows) (λ row there. (behind_taken row there).kind);
    held = every-from_in (λ row. 0 < row.holders) rows held;
    numbers = ledger.ascend;
    labels = λ one other there here cluster cluster_too same.
        one_row one other there here (ledger.labels one other (In-from_Contains rows one there) (In-from_Contains rows other here) (cluster, cluster_too, same));
    prefixes = λ one other prefix there here has has_too.
        one_row one other there here (ledger.prefixes one other (In-from_Contains rows one there) (In-from_Contains rows other here) (prefix, has, has_too));
  }

module _ {rows : List IdentityRow} (keeps : KeepsRows rows) where
  pub begins : rows ≡ reserved_identities ++ drop RESERVED_LAST rows
  begins = sym (take-append-drop RESERVED_LAST rows) ∙ ap (λ front. front ++ drop RESERVED_LAST rows) keeps.reserved

  -- a row is reserved, or stands behind
  pub row_cases : (row : IdentityRow) → In row rows → In row reserved_identities ⊎ In row (drop RESERVED_LAST rows)
  row_cases row there = In-append row reserved_identities (drop RESERVED_LAST rows) (subst (In row) begins there)

  pub kind_of : (row : IdentityRow) → In row (drop RESERVED_LAST rows) → IsClusterRow row ⊎ IsLocalRow row
  kind_of row there = every-in (λ row. IsClusterRow row ⊎ IsLocalRow row) (drop RESERVED_LAST rows) keeps.kinds row there

  pub held_from : AllHeld rows
  held_from row there = every-in (λ row. 0 < row.holders) rows keeps.held row there

  pub labels_apart : AreApart SameLabels rows
  labels_apart one other there here same =
      ap (λ r. r.number) (keeps.labels one other (Contains-from_In rows one there) (Contains-from_In rows other here) same.0 same.1 same.2)

  pub prefixes_apart : AreApart SamePrefix rows
  prefixes_apart one other there here same =
      ap (λ r. r.number) (keeps.prefixes one other same.0 (Contains-from_In rows one there) (Contains-from_In rows other here) same.1 same.2)

  pub ledger_from : (by_number : ℕ → ℕ) (by_prefix : Option Prefix → ℕ) → ((row : IdentityRow) → In row (drop RESERVED_LAST rows) → row.holders ≡ by_number row.number + by_prefix row.prefix)
      → ((number : ℕ) → has_row number rows ≡ false → by_number number ≡ 0) → ((prefix : Prefix) → is_held prefix rows ≡ false → by_prefix (Some prefix) ≡ 0)
      → Ledger by_number by_prefix rows
  ledger_from by_number by_prefix counts no_number no_prefix = record {
    ascend = keeps.numbers;
    begins = (drop RESERVED_LAST rows, begins);
    each = λ row there.
        ⊎_elim (λ reserved. inl (start_row row reserved).reserved) (λ behind. inr (record { kind = kind_of row behind; count = counts row behind })) (row_cases row there);
    labels = labels_apart;
    prefixes = prefixes_apart;
    numbers_there = no_number;
    prefixes_there = no_prefix;
  }
