-- A number that is given back, and the rows.
use Rattle.std.proofs.Common.{◌≡◌, ℕ, ◌-◌, true, cond, List, [], ◌∷◌, filter, nat_lt, nat_le, Option, None, Some, is_some, option_map, refl, sym, ap, subst, ◌∙◌, arith}
use Rattle.std.proofs.lemmas.Bool.{and_from, both_ways, le-leb, lt-ltb}
use Rattle.pol_addr.specs.declared.network.Prefix.{Prefix}
use Rattle.pol_labels.specs.declared.label.Label.{Label}
use Rattle.pol_model.specs.declared.limits.TheConstants.{RESERVED_LAST}
use Rattle.pol_model.specs.declared.row.IdentityRow.{IdentityRow}
use Rattle.pol_model.specs.Identities.{is_reserved, released}
use Rattle.pol_model_laws.specs.Holding.{has_row, row_of}
use Rattle.pol_model_laws.specs.Keeps.{KeepsRows}
use Rattle.pol_model_laws.proofs.RowLaws.{keep_released}
use Rattle.pol_ident.specs.declared.place.NumberPlace.TheVariants.{Reserved, Cluster, Local, Nowhere}
use Rattle.pol_ident.specs.Place.{IsPlaceOf}
use Rattle.pol_ident.specs.Rows.{IsIdentities, rows_of}
use Rattle.pol_interner.specs.Slots.{Slot, changed, one_less, slot_at}
use Rattle.pol_ident.proofs.HeldLabels as labels
use Rattle.pol_ident.proofs.HeldPrefixes as prefixes
use Rattle.pol_ident.proofs.Looks.{cluster-row, has_row-found, local-row, nowhere-row}
use Rattle.pol_ident.proofs.RowLists.{AreHeld, recounted-reserved}
use Rattle.pol_interner.proofs.SlotLengths.{length-changed}

-- What a call that gave the number back owes.
pub record IsReleased (number : ℕ) (reserved rows : List IdentityRow) (cluster : List (Slot (List Label))) (local : List (Slot Prefix)) : Type 0 where
  pub is : rows_of cluster local ≡ released number rows
  pub kept : IsIdentities reserved cluster local

mapped_some : {A B : Type 0} (f : A → B) (o : Option A) → is_some (option_map f o) ≡ true → is_some o ≡ true
mapped_some f None some = some
mapped_some f (Some x) some = refl

all_kept : (rows : List IdentityRow) → AreHeld rows → filter (λ row. nat_lt 0 row.holders) rows ≡ rows
all_kept [] held = refl
all_kept (row ∷ rows) held =
    let rest = all_kept rows held.1 in
    ap (λ b. cond b (row ∷ filter (λ row. nat_lt 0 row.holders) rows) (filter (λ row. nat_lt 0 row.holders) rows)) (lt-ltb 0 row.holders held.0)
    ∙ ap (λ others. row ∷ others) rest

module _ (reserved : List IdentityRow) (cluster : List (Slot (List Label))) (local : List (Slot Prefix)) (known : IsIdentities reserved cluster local) (number : ℕ) where
  abbrev old : List IdentityRow
  old = rows_of cluster local

  module _ (has : has_row number old ≡ true) where
    found : (o : Option IdentityRow) → row_of number old ≡ o → is_some o ≡ true
    found o is = sym (ap is_some is) ∙ sym (has_row-found number old) ∙ has

    pub cluster-held : (place : ℕ) → IsPlaceOf number (Cluster place) → is_some (slot_at cluster place) ≡ true
    cluster-held place is = mapped_some _ (slot_at cluster place) (found _ (cluster-row cluster local number place is))

    pub local-held : (place : ℕ) → IsPlaceOf number (Local place) → is_some (slot_at local place) ≡ true
    local-held place is = mapped_some _ (slot_at local place) (found _ (local-row cluster local number place is known.cluster_few))

    pub not-nowhere : IsPlaceOf number Nowhere → ⊥
    not-nowhere is = both_ways (is_some {T = IdentityRow} None) refl (found None (nowhere-row cluster local number is known.keeps))

  pub cluster-released : (place : ℕ) → IsPlaceOf number (Cluster place) → IsReleased number reserved old (changed one_less place cluster) local
  cluster-released place at =
      let is = sym (labels.less-rows cluster local number place at.0 at.1 known.keeps.held) in
      let few = known.cluster_few in
      record {
        is = is;
        kept = record {
          start = known.start;
          keeps = subst KeepsRows (sym is) (keep_released (Some number) old known.keeps);
          cluster_few = omega (arith, few, length-changed one_less place cluster);
          local_few = known.local_few;
        };
      }

  pub local-released : (place : ℕ) → IsPlaceOf number (Local place) → IsReleased number reserved old cluster (changed one_less place local)
  local-released place at =
      let is = sym (prefixes.less-rows cluster local known.cluster_few number place at.0 known.keeps.held) in
      let few = known.local_few in
      record {
        is = is;
        kept = record {
          start = known.start;
          keeps = subst KeepsRows (sym is) (keep_released (Some number) old known.keeps);
          cluster_few = known.cluster_few;
          local_few = omega (arith, few, length-changed one_less place local);
        };
      }

  pub reserved-released : (place : ℕ) → IsPlaceOf number (Reserved place) → old ≡ released number old
  reserved-released place at =
      let is : is_reserved number ≡ true = and_from (nat_le 1 number) (nat_le number RESERVED_LAST) (le-leb 1 number (omega (arith, at.0))) (le-leb number RESERVED_LAST (omega (arith, at.0, at.1))) in
      sym (ap (filter (λ row. nat_lt 0 row.holders)) (recounted-reserved number (λ count. count - 1) old is) ∙ all_kept old known.keeps.held)
