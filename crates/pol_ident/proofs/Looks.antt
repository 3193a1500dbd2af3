-- The row of a number, by its kind and place.
use Rattle.std.proofs.Common.{zero, suc, ◌≡◌, ℕ, ◌+◌, ◌<◌, ◌≤◌, ◌||◌, ◌==◌, Bool, true, false, cond, List, [], ◌∷◌, length, get_or, nat_le, Option, None, Some, option_map, is_some, refl, sym, ap, ◌∙◌, inl, inr, arith}
use Rattle.std.specs.Option.{option_and_then}
use Rattle.std.proofs.lemmas.Bool.{and_parts, eqb-true, leb-true}
use Rattle.pol_addr.specs.declared.network.Prefix.{Prefix}
use Rattle.pol_labels.specs.declared.label.Label.{Label}
use Rattle.pol_data.proofs.Members.{Contains-from_In, In-from_Contains}
use Rattle.pol_model.specs.declared.limits.TheConstants.{CLUSTER_FIRST, CLUSTER_IDENTITIES, LOCAL_FIRST, RESERVED_LAST}
use Rattle.pol_model.specs.declared.row.IdentityRow.{IdentityRow}
use Rattle.pol_model.specs.Identities.{reserved_identities}
use Rattle.pol_model_laws.specs.Holding.{has_row, row_of}
use Rattle.pol_model_laws.specs.Keeps.{KeepsRows}
use Rattle.pol_model_laws.proofs.FoundRows.{row-kinds}
use Rattle.pol_model_laws.proofs.Membership.{find-In}
use Rattle.pol_model_laws.proofs.StartRows.{start_row}
use Rattle.pol_ident.specs.declared.place.NumberPlace.TheVariants.{Reserved, Cluster, Local, Nowhere}
use Rattle.pol_ident.specs.Place.{IsPlaceOf}
use Rattle.pol_ident.specs.Rows.{cluster_rows, local_rows, row_with, rows_of}
use Rattle.pol_interner.specs.Slots.{Slot, slot_at}
use Rattle.pol_ident.proofs.HeldLabels.{local-above, plain, without}
use Rattle.pol_ident.proofs.HeldPrefixes.{worlds}
use Rattle.pol_ident.proofs.RowsOf.{reserved-below, row-front}
use Rattle.pol_ident.proofs.SlotRows.{row-here, row-past}

module _ (cluster : List (Slot (List Label))) (local : List (Slot Prefix)) where
  abbrev all : List IdentityRow
  all = rows_of cluster local

  reserved-at : (place : ℕ) (row : IdentityRow) → place < RESERVED_LAST → row_of (1 + place) all ≡ Some (get_or reserved_identities place row)
  reserved-at zero row less = refl
  reserved-at (suc zero) row less = refl
  reserved-at (suc (suc zero)) row less = refl
  reserved-at (suc (suc (suc zero))) row less = refl
  reserved-at (suc (suc (suc (suc zero)))) row less = refl
  reserved-at (suc (suc (suc (suc (suc zero))))) row less = refl
  reserved-at (suc (suc (suc (suc (suc (suc zero)))))) row less = refl
  reserved-at (suc (suc (suc (suc (suc (suc (suc zero))))))) row less = refl
  reserved-at (suc (suc (suc (suc (suc (suc (suc (suc zero)))))))) row less = refl
  reserved-at (suc (suc (suc (suc (suc (suc (suc (suc (suc zero))))))))) row less = refl
  reserved-at (suc (suc (suc (suc (suc (suc (suc (suc (suc (suc place)))))))))) row less = absurd (omega (arith, less))

  pub reserved-row : (number place : ℕ) (row : IdentityRow) → IsPlaceOf number (Reserved place) → row_of number all ≡ Some (get_or reserved_identities place row)
  reserved-row number place row is = ap (λ n. row_of n all) is.0 ∙ reserved-at place row is.1

  pub cluster-row : (number place : ℕ) → IsPlaceOf number (Cluster place) → row_of number all ≡ option_map (row_with plain without number) (slot_at cluster place)
  cluster-row number place is =
      row-front number reserved_identities (cluster_rows cluster (local_rows local)) (reserved-below number (omega (arith, is.0)))
      ∙ row-here plain without number CLUSTER_FIRST place cluster (local_rows local) is.0 (local-above number local (omega (arith, is.0, is.1)))

  pub local-row : (number place : ℕ) → IsPlaceOf number (Local place) → length cluster ≤ CLUSTER_IDENTITIES → row_of number all ≡ option_map (row_with worlds Some number) (slot_at local place)
  local-row number place is few =
      row-front number reserved_identities (cluster_rows cluster (local_rows local)) (reserved-below number (omega (arith, is.0)))
      ∙ row-past plain without number CLUSTER_FIRST cluster (local_rows local) (omega (arith, is.0, few))
      ∙ row-here worlds Some number LOCAL_FIRST place local [] is.0 tt

  pub nowhere-row : (number : ℕ) → IsPlaceOf number Nowhere → KeepsRows all → row_of number all ≡ None
  nowhere-row number is keeps = by (row_of number all) refl
    where
      by : (o : Option IdentityRow) → row_of number all ≡ o → o ≡ None
      by None at = refl
      by (Some row) at =
          let there = find-In (λ r. r.number == number) row all at in
          let same = eqb-true row.number number there.1 in
          elim (row-kinds all keeps row (Contains-from_In all row there.0)) [
            | inl first ↦
                let reserved = and_parts (nat_le 1 row.number) (nat_le row.number RESERVED_LAST) (start_row row (In-from_Contains reserved_identities row first)).reserved.is in
                absurd (is.0 (omega (arith, same, leb-true 1 row.number reserved.0)) (omega (arith, same, leb-true row.number RESERVED_LAST reserved.1)))
            | inr (inl one) ↦ let range = one.number in absurd (is.1 (omega (arith, same, range.0)) (omega (arith, same, range.1)))
            | inr (inr one) ↦ let from = one.from in let upto = one.upto in absurd (is.2 (omega (arith, same, from)) (omega (arith, same, upto)))
          ]

-- what is told of a key is told of its row
told : {K A : Type 0} (row : K × ℕ → IdentityRow) (f : K → A) (g : IdentityRow → A) → ((own : K × ℕ) → f own.0 ≡ g (row own)) → (slot : Slot K) → option_map f (option_map (λ own. own.0) slot) ≡ option_map g (option_map row slot)
told row f g same None = refl
told row f g same (Some own) = ap Some (same own)

pub cluster-tells : (cluster : List (Slot (List Label))) (local : List (Slot Prefix)) (number place : ℕ) → IsPlaceOf number (Cluster place) → {A : Type 0} (f : List Label → A) (g : IdentityRow → A) → ((own : List Label × ℕ) → f own.0 ≡ g (row_with plain without number own))
    → (key : Option (List Label)) → key ≡ option_map (λ own. own.0) (slot_at cluster place) → option_map f key ≡ option_map g (row_of number (rows_of cluster local))
cluster-tells cluster local number place is f g same key at =
    ap (option_map f) at ∙ told (row_with plain without number) f g same (slot_at cluster place) ∙ sym (ap (option_map g) (cluster-row cluster local number place is))

pub local-tells : (cluster : List (Slot (List Label))) (local : List (Slot Prefix)) (number place : ℕ) → IsPlaceOf number (Local place) → length cluster ≤ CLUSTER_IDENTITIES → {A : Type 0} (f : Prefix → A) (g : IdentityRow → A) → ((own : Prefix × ℕ) → f own.0 ≡ g (row_with worlds Some number own))
    → (key : Option Prefix) → key ≡ option_map (λ own. own.0) (slot_at local place) → option_map f key ≡ option_map g (row_of number (rows_of cluster local))
local-tells cluster local number place is few f g same key at =
    ap (option_map f) at ∙ told (row_with worlds Some number) f g same (slot_at local place) ∙ sym (ap (option_map g) (local-row cluster local number place is few))

-- how many hold what stands there
held_by : {K : Type 0} (row : K × ℕ → IdentityRow) → ((own : K × ℕ) → own.1 ≡ (row own).holders) → (slot : Slot K) → option_map (λ own. own.1) slot ≡ option_map (λ row. row.holders) (option_map row slot)
held_by row same None = refl
held_by row same (Some own) = ap Some (same own)

pub cluster-holders : (cluster : List (Slot (List Label))) (local : List (Slot Prefix)) (number place : ℕ) → IsPlaceOf number (Cluster place)
    → option_map (λ own. own.1) (slot_at cluster place) ≡ option_map (λ row. row.holders) (row_of number (rows_of cluster local))
cluster-holders cluster local number place is =
    held_by (row_with plain without number) (λ own. refl) (slot_at cluster place)
    ∙ sym (ap (option_map (λ row. row.holders)) (cluster-row cluster local number place is))

pub local-holders : (cluster : List (Slot (List Label))) (local : List (Slot Prefix)) (number place : ℕ) → IsPlaceOf number (Local place) → length cluster ≤ CLUSTER_IDENTITIES
    → option_map (λ own. own.1) (slot_at local place) ≡ option_map (λ row. row.holders) (row_of number (rows_of cluster local))
local-holders cluster local number place is few =
    held_by (row_with worlds Some number) (λ own. refl) (slot_at local place)
    ∙ sym (ap (option_map (λ row. row.holders)) (local-row cluster local number place is few))

-- a number has a row where one is found
pub has_row-found : (number : ℕ) (rows : List IdentityRow) → has_row number rows ≡ is_some (row_of number rows)
has_row-found number [] = refl
has_row-found number (row ∷ rows) = by (row.number == number) (has_row-found number rows)
  where
    by : (b : Bool) → has_row number rows ≡ is_some (row_of number rows) → (b || has_row number rows) ≡ is_some (cond b (Some row) (row_of number rows))
    by true rest = refl
    by false rest = rest

pub mapped-some : {A B : Type 0} (f : A → B) (o : Option A) → is_some (option_map f o) ≡ is_some o
mapped-some f None = refl
mapped-some f (Some x) = refl

pub has_row-mapped : {A : Type 0} (f : IdentityRow → A) (number : ℕ) (rows : List IdentityRow) → is_some (option_map f (row_of number rows)) ≡ has_row number rows
has_row-mapped f number rows = mapped-some f (row_of number rows) ∙ sym (has_row-found number rows)

-- the prefix of what is found
pub prefix-found : (found : Option (Option Prefix)) (o : Option IdentityRow) → found ≡ option_map (λ row. row.prefix) o → option_and_then (λ prefix. prefix) found ≡ option_and_then (λ row. row.prefix) o
prefix-found found None is = ap (option_and_then (λ prefix. prefix)) is
prefix-found found (Some row) is = ap (option_and_then (λ prefix. prefix)) is
