-- A label set and the rows: what its number is, and what the rows are once it is held.
use Rattle.std.proofs.Common.{◌≡◌, ℕ, ◌+◌, ◌<◌, ◌≤◌, ◌&&◌, Bool, true, false, not, List, [], ◌++◌, length, nat_lt, Option, None, Some, inl, inr, is_none, refl, sym, ap, subst, ◌∙◌, arith}
use Rattle.std.specs.Prelude.{codes}
use Rattle.std.proofs.lemmas.Bool.{and_parts, and_right, both_ways, le-leb, le-ltb, lt-leb, lt-ltb, not-true}
use Rattle.pol_addr.specs.declared.network.Prefix.{Prefix}
use Rattle.pol_labels.specs.declared.label.Label.{Label}
use Rattle.pol_labels.specs.Order.{IsLabelSet}
use Rattle.pol_labels.specs.Same.{same_labels}
use Rattle.pol_labels.specs.SameLaws.{same_labels-Decides}
use Rattle.pol_data.proofs.Members.{Contains-from_In}
use Rattle.pol_model.specs.declared.limits.TheConstants.{CLUSTER_FIRST, CLUSTER_IDENTITIES, CLUSTER_LAST, INIT_IDENTITY, LOCAL_FIRST, RESERVED_LAST}
use Rattle.pol_model.specs.declared.row.IdentityRow.{IdentityRow}
use Rattle.pol_model.specs.Fault.{has_reserved, is_exhausted, is_init}
use Rattle.pol_model.specs.Identities.{free_number, held_or_new, is_local, is_reserved, labels_held, number_for, number_of_labels, or_free, released, reserved_identities, reserved_row, with_holder}
use Rattle.pol_model.specs.Numbers.{placed_by}
use Rattle.pol_model_laws.specs.Keeps.{KeepsRows}
use Rattle.pol_model_laws.proofs.FoundRows.{found-labels, found_with, labels_pass, reserved-there}
use Rattle.pol_model_laws.proofs.Keyed.{placed_behind}
use Rattle.pol_model_laws.proofs.Membership.{In-append, In-right}
use Rattle.pol_model_laws.proofs.RowLaws.{keep_labels}
use Rattle.pol_model_laws.proofs.StartRows.{start_row}
use Rattle.pol_ident.specs.Rows.{IsIdentities, cluster_rows, local_rows, row_with, rows_of}
use Rattle.pol_interner.specs.Slots.{HasNone, HasPlace, Slot, changed, filled, free_place, one_less, one_more}
use Rattle.pol_interner.proofs.FreePlaces.{free_place-le, taken_within}
use Rattle.pol_ident.proofs.RowLists.{AllAbove, AreHeld, recounted-reserved}
use Rattle.pol_interner.proofs.SlotLengths.{length-changed, length-filled}
use Rattle.pol_ident.proofs.RowsOf.{In-here, In-slots, held-behind, less-front, more-front, reserved-below}
use Rattle.pol_ident.proofs.SlotRows.{free-here, less-here, more-here, placed-here, rows-above}

abbrev pub plain : List Label → List Label
plain labels = labels

abbrev pub without : List Label → Option Prefix
without labels = None

-- the numbers of prefixes are above those of label sets
pub local-above : (n : ℕ) (local : List (Slot Prefix)) → n < LOCAL_FIRST → AllAbove n (local_rows local)
local-above n local less = rows-above _ Some n LOCAL_FIRST local [] less tt

pub unreserved : (n : ℕ) → RESERVED_LAST < n → is_reserved n ≡ false
unreserved n past = and_right _ _ (lt-leb n RESERVED_LAST past)

not_local : (n : ℕ) → n < LOCAL_FIRST → is_local n ≡ false
not_local n less = lt-leb LOCAL_FIRST n less

module _ (cluster : List (Slot (List Label))) (local : List (Slot Prefix)) where
  abbrev rows : List IdentityRow
  rows = rows_of cluster local

  free-number : length cluster ≤ CLUSTER_IDENTITIES → (few : free_place cluster ≤ CLUSTER_IDENTITIES) → free_number CLUSTER_FIRST rows ≡ CLUSTER_FIRST + free_place cluster
  free-number long few = free-here plain without CLUSTER_FIRST cluster (local_rows local) (local-above (CLUSTER_FIRST + free_place cluster) local (omega (arith, few)))

  -- a place that is held once more, or once less
  pub more-rows : (n place : ℕ) → n ≡ CLUSTER_FIRST + place → place < CLUSTER_IDENTITIES → with_holder n rows ≡ rows_of (changed one_more place cluster) local
  more-rows n place is less =
      more-front n reserved_identities (cluster_rows cluster (local_rows local)) (reserved-below n (omega (arith, is)))
      ∙ ap (λ rest. reserved_identities ++ rest) (more-here plain without n CLUSTER_FIRST place cluster (local_rows local) is (unreserved n (omega (arith, is))) (local-above n local (omega (arith, is, less))))

  pub less-rows : (n place : ℕ) → n ≡ CLUSTER_FIRST + place → place < CLUSTER_IDENTITIES → AreHeld rows → released n rows ≡ rows_of (changed one_less place cluster) local
  less-rows n place is less held =
      less-front n reserved_identities (cluster_rows cluster (local_rows local)) (reserved-below n (omega (arith, is))) held
      ∙ ap (λ rest. reserved_identities ++ rest) (less-here plain without n CLUSTER_FIRST place cluster (local_rows local) is (unreserved n (omega (arith, is))) (local-above n local (omega (arith, is, less))) (held-behind reserved_identities (cluster_rows cluster (local_rows local)) held))

  pub new-rows : (n : ℕ) (labels : List Label) → n ≡ CLUSTER_FIRST + free_place cluster → free_place cluster < CLUSTER_IDENTITIES
      → placed_by (λ row. row.number) (row_with plain without n (labels, 1)) rows ≡ rows_of (filled (labels, 1) cluster) local
  new-rows n labels is less =
      placed_behind (λ row. row.number) (row_with plain without n (labels, 1)) reserved_identities (cluster_rows cluster (local_rows local)) (reserved-below n (omega (arith, is)))
      ∙ ap (λ rest. reserved_identities ++ rest) (placed-here plain without n CLUSTER_FIRST (labels, 1) cluster (local_rows local) is (local-above n local (omega (arith, is, less))))

-- What a call that gave the label set this number owes.
pub record IsHeld (labels : List Label) (reserved rows : List IdentityRow) (n : ℕ) (cluster : List (Slot (List Label))) (local : List (Slot Prefix)) : Type 0 where
  pub number : n ≡ number_for labels rows
  pub is : rows_of cluster local ≡ labels_held labels rows
  pub room : is_exhausted labels rows ≡ false
  pub kept : IsIdentities reserved cluster local

module _ (reserved : List IdentityRow) (cluster : List (Slot (List Label))) (local : List (Slot Prefix)) (known : IsIdentities reserved cluster local) (labels : List Label) where
  abbrev old : List IdentityRow
  old = rows_of cluster local

  number-found : (number : ℕ) → number_of_labels labels old ≡ Some number → (number ≡ number_for labels old) × (with_holder number old ≡ labels_held labels old) × (is_exhausted labels old ≡ false)
  number-found number is = (
    sym (ap (λ o. or_free o (free_number CLUSTER_FIRST old)) is),
    sym (ap (λ o. held_or_new o (record { number = free_number CLUSTER_FIRST old; labels = labels; prefix = None; holders = 1 }) old) is),
    ap (λ o. is_none o && nat_lt CLUSTER_LAST (free_number CLUSTER_FIRST old)) is,
  )

  -- the set has a place
  pub place-found : (place : ℕ) → HasPlace same_labels labels cluster place → (place < length cluster) × (number_of_labels labels old ≡ Some (CLUSTER_FIRST + place))
  place-found place has =
      let within = taken_within cluster place has.0 has.1 in
      let few = known.cluster_few in
      let there = In-right _ reserved_identities _ (In-here plain without (CLUSTER_FIRST + place) CLUSTER_FIRST place cluster (local_rows local) has.0 refl has.1) in
      let found = found-labels old known.keeps (row_with plain without (CLUSTER_FIRST + place) has.0) (Contains-from_In old _ there) (not_local (CLUSTER_FIRST + place) (omega (arith, within, few))) in
      (within, ap (λ l. number_of_labels l old) ((same_labels-Decides labels has.0.0).0 has.2) ∙ found)

  pub hold-found : (place : ℕ) → HasPlace same_labels labels cluster place → IsLabelSet labels → (has_reserved labels && not (is_init labels)) ≡ false → IsHeld labels reserved old (CLUSTER_FIRST + place) (changed one_more place cluster) local
  hold-found place has set allowed =
      let at = place-found place has in
      let few = known.cluster_few in
      let within = at.0 in
      let told = number-found (CLUSTER_FIRST + place) at.1 in
      let is = sym (more-rows cluster local (CLUSTER_FIRST + place) place refl (omega (arith, within, few))) ∙ told.1 in
      record {
        number = told.0;
        is = is;
        room = told.2;
        kept = record {
          start = known.start;
          keeps = subst KeepsRows (sym is) (keep_labels labels old known.keeps set allowed told.2);
          cluster_few = omega (arith, few, length-changed one_more place cluster);
          local_few = known.local_few;
        };
      }

  -- the set has none
  pub none-found : HasNone same_labels labels cluster → has_reserved labels ≡ false → number_of_labels labels old ≡ None
  none-found none free = by (number_of_labels labels old) refl
    where
      by : (o : Option ℕ) → number_of_labels labels old ≡ o → o ≡ None
      by None is = refl
      by (Some number) is =
          let row = found_with (labels_pass labels) old number is in
          let passes = and_parts (not (is_local row.0.number)) (same_labels row.0.labels labels) row.2 in
          let same = (same_labels-Decides row.0.labels labels).0 passes.1 in
          elim (In-append row.0 reserved_identities (cluster_rows cluster (local_rows local)) row.1) [
            | inl first ↦ absurd (both_ways (has_reserved labels) free (ap has_reserved (sym same) ∙ (start_row row.0 first).reserved.labels))
            | inr behind ↦ elim (In-slots plain without row.0 CLUSTER_FIRST cluster (local_rows local) behind) [
              | inl at ↦
                  absurd (both_ways (same_labels labels at.1.0) (none at.0 at.1 at.2) ((same_labels-Decides labels at.1.0).1 (sym same ∙ ap (λ r. r.labels) (sym at.3))))
              | inr last ↦ elim (In-slots _ Some row.0 LOCAL_FIRST local [] last) [
                | inl at ↦
                    let number_is = ap (λ r. r.number) (sym at.3) in
                    absurd (both_ways (is_local row.0.number) (not-true (is_local row.0.number) passes.0) (le-leb LOCAL_FIRST row.0.number (omega (arith, number_is))))
                | inr nowhere ↦ elim nowhere [ ]
              ]
            ]
          ]

  pub hold-new : HasNone same_labels labels cluster → has_reserved labels ≡ false → IsLabelSet labels → (has_reserved labels && not (is_init labels)) ≡ false → (place : ℕ) → place ≡ free_place cluster → place < CLUSTER_IDENTITIES
      → IsHeld labels reserved old (CLUSTER_FIRST + place) (filled (labels, 1) cluster) local
  hold-new none free set allowed place least below =
      let absent = none-found none free in
      let few = known.cluster_few in
      let room : free_place cluster < CLUSTER_IDENTITIES = omega (arith, least, below) in
      let number = free-number cluster local few (omega (arith, room)) in
      let exhausted = ap (λ o. is_none o && nat_lt CLUSTER_LAST (free_number CLUSTER_FIRST old)) absent ∙ le-ltb CLUSTER_LAST (free_number CLUSTER_FIRST old) (omega (arith, number, room)) in
      let is = sym (new-rows cluster local (free_number CLUSTER_FIRST old) labels number room)
      ∙ sym (ap (λ o. held_or_new o (record { number = free_number CLUSTER_FIRST old; labels = labels; prefix = None; holders = 1 }) old) absent) in
      record {
        number = sym (ap (λ o. or_free o (free_number CLUSTER_FIRST old)) absent ∙ number ∙ ap (λ p. CLUSTER_FIRST + p) (sym least));
        is = is;
        room = exhausted;
        kept = record {
          start = known.start;
          keeps = subst KeepsRows (sym is) (keep_labels labels old known.keeps set allowed exhausted);
          cluster_few = length-filled CLUSTER_IDENTITIES (labels, 1) cluster room few;
          local_few = known.local_few;
        };
      }

  pub hold-full : HasNone same_labels labels cluster → has_reserved labels ≡ false → (place : ℕ) → place ≡ free_place cluster → CLUSTER_IDENTITIES ≤ place → is_exhausted labels old ≡ true
  hold-full none free place least full =
      let few = known.cluster_few in
      let number = free-number cluster local few (omega (arith, few, free_place-le cluster)) in
      ap (λ o. is_none o && nat_lt CLUSTER_LAST (free_number CLUSTER_FIRST old)) (none-found none free)
      ∙ lt-ltb CLUSTER_LAST (free_number CLUSTER_FIRST old) (omega (arith, number, full, least))

  -- the reserved set of what has no labels yet
  pub init-found : is_init labels ≡ true → number_of_labels labels old ≡ Some INIT_IDENTITY
  init-found init =
      ap (λ l. number_of_labels l old) ((same_labels-Decides labels _).0 init)
      ∙ found-labels old known.keeps (reserved_row INIT_IDENTITY (codes "init")) (reserved-there old known.keeps _ (4, omega arith, refl)) refl

  pub hold-init : is_init labels ≡ true → IsHeld labels reserved old INIT_IDENTITY cluster local
  hold-init init =
      let told = number-found INIT_IDENTITY (init-found init) in
      record {
        number = told.0;
        is = sym (recounted-reserved INIT_IDENTITY (λ count. count + 1) old refl) ∙ told.1;
        room = told.2;
        kept = known;
      }

pub not_reserved : (labels : List Label) → is_init labels ≡ false → (has_reserved labels && not (is_init labels)) ≡ false → has_reserved labels ≡ false
not_reserved labels init allowed = by (has_reserved labels) (ap (λ b. has_reserved labels && not b) (sym init) ∙ allowed)
  where
    by : (b : Bool) → (b && true) ≡ false → b ≡ false
    by true e = cc
    by false e = refl
