-- The row that a label set has once it is held: its labels, no prefix, and a number of the cluster's or that of
-- `reserved:init`.
use Rattle.std.proofs.Common.{◌≡◌, ℕ, ◌+◌, ◌&&◌, true, false, not, List, [], ◌∷◌, map, codes, Option, None, Some, ◌⊎◌, inl, inr, refl, sym, ap, ◌∙◌, subst}
use Rattle.std.proofs.lemmas.Bool.{and_parts, and_cases, both_ways, le-leb, not-false, not-true}
use Rattle.pol_addr.specs.declared.network.Prefix.{Prefix}
use Rattle.pol_labels.specs.declared.label.Label.{Label}
use Rattle.pol_labels.specs.Same.{same_labels}
use Rattle.pol_labels.specs.SameLaws.{same_labels-Decides}
use Rattle.pol_data.proofs.Members.{In}
use Rattle.pol_model.specs.declared.limits.TheConstants.{CLUSTER_FIRST, INIT_IDENTITY, LOCAL_FIRST}
use Rattle.pol_model.specs.declared.row.IdentityRow.{IdentityRow}
use Rattle.pol_model.specs.Fault.{has_reserved, is_exhausted, is_init}
use Rattle.pol_model.specs.Identities.{free_number, held_or_new, is_local, labels_held, number_for, number_of_labels, or_free}
use Rattle.pol_model_laws.specs.Keeps.{IsClusterNumber}
use Rattle.pol_model.specs.Worlds.{reserved_label}
use Rattle.pol_model_laws.proofs.Holders.{free_other, init_number, labels_row, number_where-some, within_cluster}
use Rattle.pol_model_laws.proofs.Keyed.{In-placed, one_of_number}
use Rattle.pol_model.proofs.LeastFree.{first-le}
use Rattle.pol_model_laws.proofs.Ledger.{Ledger}
use Rattle.pol_model_laws.proofs.Membership.{find-In}
use Rattle.pol_model_laws.proofs.Rows.{BeginsReserved, In-recounted}

-- a row for these labels: theirs, without a prefix
pub record HasLabels (labels : List Label) (row : IdentityRow) : Type 0 where
  pub labels_are : row.labels ≡ labels
  pub no_prefix : row.prefix ≡ None
  pub number : ((is_init labels ≡ true) × (row.number ≡ INIT_IDENTITY)) ⊎ IsClusterNumber row.number

pub init_reserved : (labels : List Label) → is_init labels ≡ true → has_reserved labels ≡ true
init_reserved labels init = rw ((same_labels-Decides labels _).0 init) refl

-- the row of `reserved:init`
init_row : IdentityRow
init_row = record { number = INIT_IDENTITY; labels = reserved_label (codes "init") ∷ []; prefix = None; holders = 1 }

init_there : (rows : List IdentityRow) → BeginsReserved rows → In init_row rows
unfolding init_row
init_there rows begins = subst (In init_row) (sym begins.1) (inr (inr (inr (inr (inl refl)))))

module _ {by_number : ℕ → ℕ} {by_prefix : Option Prefix → ℕ} {rows : List IdentityRow} (ledger : Ledger by_number by_prefix rows) where
  -- the row of an equal label set
  pub found_row : (labels : List Label) (number : ℕ) → (has_reserved labels && not (is_init labels)) ≡ false → number_of_labels labels rows ≡ Some number
      → (row : IdentityRow) × In row rows × (row.number ≡ number) × HasLabels labels row
  unfolding init_row
  found_row labels number allowed is =
      let its = number_where-some (λ row. not (is_local row.number) && same_labels row.labels labels) rows number is in
      let found = find-In (λ row. not (is_local row.number) && same_labels row.labels labels) its.0 rows its.1 in
      let tests = and_parts (not (is_local its.0.number)) (same_labels its.0.labels labels) found.1 in
      let labels_are : its.0.labels ≡ labels = (same_labels-Decides its.0.labels labels).0 tests.1 in
      elim (ledger.each its.0 found.0) [
        | inl reserved ↦
            let has = subst (λ l. has_reserved l ≡ true) labels_are reserved.labels in
            let init = elim (and_cases (has_reserved labels) (not (is_init labels)) allowed) as (λ _. is_init labels ≡ true) [
              | inl none ↦ absurd (both_ways (has_reserved labels) none has)
              | inr init ↦ not-false (is_init labels) init
            ] in
            let five : Some INIT_IDENTITY ≡ Some number = sym (init_number labels rows ledger.begins init) ∙ is in
            (init_row, init_there rows ledger.begins, cc, record { labels_are = sym ((same_labels-Decides labels _).0 init); no_prefix = refl; number = inl (init, refl) })
        | inr taken ↦ elim (taken.kind) [
          | inl cluster ↦ (its.0, found.0, its.2, record { labels_are = labels_are; no_prefix = cluster.no_prefix; number = inr cluster.number })
          | inr local ↦ absurd (both_ways (is_local its.0.number) (not-true (is_local its.0.number) tests.0) (le-leb LOCAL_FIRST its.0.number local.from))
        ]
      ]

  -- so each row of the number that a label set holds
  pub held_row : (labels : List Label) → (has_reserved labels && not (is_init labels)) ≡ false → is_exhausted labels rows ≡ false
      → (row : IdentityRow) → In row (labels_held labels rows) → row.number ≡ number_for labels rows → HasLabels labels row
  held_row labels allowed room row there its = held (number_of_labels labels rows) refl there its
    where
      held : (o : Option ℕ) → number_of_labels labels rows ≡ o → In row (held_or_new o (labels_row (free_number CLUSTER_FIRST rows) labels) rows) → row.number ≡ or_free o (free_number CLUSTER_FIRST rows) → HasLabels labels row
      held (Some number) is there its =
          let one = found_row labels number allowed is in
          let from = In-recounted number (λ count. count + 1) row rows there in
          let same = one_of_number (λ r. r.number) from.0 one.0 rows ledger.ascend from.1 one.1 (ap (λ r. r.number) from.2 ∙ its ∙ sym one.2) in
          subst (HasLabels labels) from.2
          (record {
            labels_are = ap (λ r. r.labels) same ∙ one.3.labels_are;
            no_prefix = ap (λ r. r.prefix) same ∙ one.3.no_prefix;
            number = subst (λ r. ((is_init labels ≡ true) × (r.number ≡ INIT_IDENTITY)) ⊎ IsClusterNumber r.number) (sym same) one.3.number;
          })
      held None is there its =
          let free = free_number CLUSTER_FIRST rows in
          elim (In-placed (λ r. r.number) (labels_row free labels) row rows there) [
            | inl new ↦
                subst (HasLabels labels) new
                (record {
                  labels_are = refl;
                  no_prefix = refl;
                  number = inr (first-le CLUSTER_FIRST (map (λ r. r.number) rows), within_cluster (number_of_labels labels rows) free is room);
                })
            | inr old ↦ absurd (free_other ledger CLUSTER_FIRST row old (sym its))
          ]

  -- and that number
  pub held_number : (labels : List Label) → (has_reserved labels && not (is_init labels)) ≡ false → is_exhausted labels rows ≡ false
      → ((is_init labels ≡ true) × (number_for labels rows ≡ INIT_IDENTITY)) ⊎ IsClusterNumber (number_for labels rows)
  held_number labels allowed room = held (number_of_labels labels rows) refl
    where
      held : (o : Option ℕ) → number_of_labels labels rows ≡ o
          → ((is_init labels ≡ true) × (or_free o (free_number CLUSTER_FIRST rows) ≡ INIT_IDENTITY)) ⊎ IsClusterNumber (or_free o (free_number CLUSTER_FIRST rows))
      held (Some number) is =
          let one = found_row labels number allowed is in
          subst (λ n. ((is_init labels ≡ true) × (n ≡ INIT_IDENTITY)) ⊎ IsClusterNumber n) one.2 one.3.number
      held None is = inr (first-le CLUSTER_FIRST (map (λ r. r.number) rows), within_cluster (number_of_labels labels rows) (free_number CLUSTER_FIRST rows) is room)
