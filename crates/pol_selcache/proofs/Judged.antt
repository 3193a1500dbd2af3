-- A held number is judged by its labels.
use Rattle.std.proofs.Common.{◌≡◌, ℕ, ◌*◌, ◌≤◌, Bool, true, false, cond, List, [], ◌∷◌, filter, length, Option, Some, None, option_map, refl, ap, arith}
use Rattle.std.specs.Option.{option_map_or}
use Rattle.std.proofs.lemmas.Option.{same_Some}
use Rattle.pol_labels.specs.declared.label.Label.{Label}
use Rattle.pol_labels.specs.declared.requirement.Requirement.{Requirement}
use Rattle.pol_labels.specs.Match.{matches}
use Rattle.std.proofs.Math.Nat.{mul-le-mul_left}
use Rattle.pol_headings.specs.Stands.{stands_under}
use Rattle.pol_model_laws.specs.Holding.{row_of}
use Rattle.pol_model.specs.declared.row.IdentityRow.{IdentityRow}
use Rattle.pol_model.specs.Selects.{selects_row}
use Rattle.pol_rule.specs.declared.policy.Peer.{Peer}
use Rattle.pol_rule.specs.declared.policy.Peer.TheVariants.{Labels}
use Rattle.pol_ident.specs.Look.{labels_at, selects_held}
use Rattle.pol_selcache.specs.Held.{judged_under, rows_judged, steps_at, steps_of}

module _ (rows : List IdentityRow) (n : ℕ) where
  module _ (selector : List Requirement) where
    pub none_judged : None ≡ labels_at n rows → (false ≡ selects_held rows (Labels selector) n) × (steps_at rows (Labels selector) n ≡ 0)
    none_judged none = by (row_of n rows) none
      where
        by : (o : Option IdentityRow) → None ≡ option_map (λ (row : IdentityRow). row.labels) o
            → (false ≡ option_map_or (selects_row (Labels selector)) o false) × (option_map_or (λ (row : IdentityRow). steps_of (Labels selector)) o 0 ≡ 0)
        by None is = (refl, refl)
        by (Some row) is = absurd cc

    pub judged : (labels : List Label) → Some labels ≡ labels_at n rows → (matches selector labels ≡ selects_held rows (Labels selector) n) × (steps_at rows (Labels selector) n ≡ 1)
    judged labels its = by (row_of n rows) its
      where
        by : (o : Option IdentityRow) → Some labels ≡ option_map (λ (row : IdentityRow). row.labels) o
            → (matches selector labels ≡ option_map_or (selects_row (Labels selector)) o false) × (option_map_or (λ (row : IdentityRow). steps_of (Labels selector)) o 0 ≡ 1)
        by None is = absurd cc
        by (Some row) is = (ap (matches selector) (same_Some labels row.labels is), refl)

  pub steps_at_most : (p : Peer) → steps_at rows p n ≤ steps_of p
  steps_at_most p = by (row_of n rows)
    where
      by : (o : Option IdentityRow) → option_map_or (λ (row : IdentityRow). steps_of p) o 0 ≤ steps_of p
      by None = omega arith
      by (Some row) = omega arith

-- no more are judged than there are
fewer : (test : IdentityRow → Bool) (rows : List IdentityRow) → length (filter test rows) ≤ length rows
fewer test [] = omega arith
fewer test (row ∷ rows) = by (test row) (fewer test rows)
  where
    by : (b : Bool) → length (filter test rows) ≤ length rows → length (cond b (row ∷ filter test rows) (filter test rows)) ≤ length (row ∷ rows)
    by true rest = omega arith
    by false rest = omega arith

pub judged_at_most : (rows : List IdentityRow) (p : Peer) → steps_of p * length (rows_judged rows p) ≤ steps_of p * length rows
judged_at_most rows p = mul-le-mul_left (steps_of p) (fewer (stands_under (judged_under p)) rows)
