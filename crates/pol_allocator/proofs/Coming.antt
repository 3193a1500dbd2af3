-- A label set is held once more: which number comes, and what a plan asks then.
use Rattle.std.proofs.Common.{◌≡◌, ℕ, ◌<◌, ◌==◌, ◌&&◌, Bool, true, false, not, if◌then◌else◌, List, [], ◌∷◌, Option, None, Some, is_none, is_some, nat_lt, refl, sym, ap, ◌∙◌, inl, inr, arith}
use Rattle.std.proofs.lemmas.Bool.{and_parts, eq-eqb, lt-leb, ltb-false, not-true}
use Rattle.pol_labels.specs.declared.label.Label.{Label}
use Rattle.pol_model.specs.declared.limits.TheConstants.{CLUSTER_FIRST, CLUSTER_LAST, LOCAL_FIRST}
use Rattle.pol_model.specs.declared.row.IdentityRow.{IdentityRow}
use Rattle.pol_labels.specs.Same.{same_labels}
use Rattle.pol_model.specs.Fault.{is_exhausted}
use Rattle.pol_model.specs.Identities.{free_number, is_local, labels_held, number_for, number_of_labels, or_free}
use Rattle.pol_model.proofs.AscendingStates.{RowsAscend, labels_ascend}
use Rattle.pol_model_laws.specs.Holding.{has_row}
use Rattle.pol_model_laws.proofs.FoundRows.{found_with, labels_pass}
use Rattle.pol_model_laws.proofs.HoldingLaws.{held_adds}
use Rattle.pol_model_laws.proofs.Membership.{list_any-In}
use Rattle.pol_model_laws.proofs.Parts.{free_row, part-labels_held}
use Rattle.pol_set_changes.specs.Ids.{has}
use Rattle.pol_set_changes.specs.Log.{newest}
use Rattle.pol_selcache.specs.Cache.{Cache, MayPlan}
use Rattle.pol_selcache.specs.Live.{AreExact}
use Rattle.pol_selcache.proofs.Coming.{one_comes}
use Rattle.pol_selcache.proofs.Staying.{exact_as_come}

module _ (labels : List Label) (rows : List IdentityRow) (ascend : RowsAscend rows) where
  -- a number that the set has, has a row
  known_row : (number : ℕ) → number_of_labels labels rows ≡ Some number → has_row number rows ≡ true
  known_row number known =
      let found = found_with (labels_pass labels) rows number known in
      list_any-In (λ row. row.number == number) found.0 rows found.1 (eq-eqb found.0.number number found.3)

  -- none comes where the set has one
  none_comes : (number : ℕ) → number_of_labels labels rows ≡ Some number
      → (n : ℕ) → has_row n (labels_held labels rows) ≡ true → has n [] ≡ not (has_row n rows)
  none_comes number known n there =
      sym (ap not (elim (held_adds (number_of_labels labels rows) _ rows n there) [
        | inl before ↦ before
        | inr is ↦ ap (λ m. has_row m rows) (is ∙ ap (λ o. or_free o (free_number CLUSTER_FIRST rows)) known) ∙ known_row number known
      ]))

  -- the least free number has no row
  new_row : number_of_labels labels rows ≡ None → has_row (number_for labels rows) rows ≡ false
  new_row none = ap (λ o. has_row (or_free o (free_number CLUSTER_FIRST rows)) rows) none ∙ free_row CLUSTER_FIRST rows ascend

  -- what a plan asks, where the number is new and where it isn't
  pub labels_may_come : (number revision : ℕ) (cache : Cache) (is_new : Bool) → number ≡ number_for labels rows → is_some (number_of_labels labels rows) ≡ not is_new
      → newest cache.log < revision → AreExact rows cache.live → MayPlan revision (if is_new then number ∷ [] else []) [] (labels_held labels rows) cache
  labels_may_come number revision cache is_new its new newer exact = by is_new (number_of_labels labels rows) refl new
    where
      by : (b : Bool) (o : Option ℕ) → number_of_labels labels rows ≡ o → is_some o ≡ not b → MayPlan revision (if b then number ∷ [] else []) [] (labels_held labels rows) cache
      by true None is same = one_comes labels rows number ascend its (ap (λ n. has_row n rows) its ∙ new_row is) revision cache newer exact
      by false None is same = absurd cc
      by true (Some known) is same = absurd cc
      by false (Some known) is same = record {
        newer = newer;
        come_held = tt;
        gone_held = tt;
        apart = tt;
        exact = exact_as_come rows (labels_held labels rows) [] cache.live (labels_ascend labels rows ascend) (part-labels_held labels rows ascend) (none_comes known is) exact;
      }

-- the number isn't a prefix's
pub number_not_local : (labels : List Label) (rows : List IdentityRow) → is_exhausted labels rows ≡ false → is_local (number_for labels rows) ≡ false
number_not_local labels rows room = by (number_of_labels labels rows) refl
  where
    by : (o : Option ℕ) → number_of_labels labels rows ≡ o → is_local (number_for labels rows) ≡ false
    by None is =
        let within = ltb-false CLUSTER_LAST (free_number CLUSTER_FIRST rows) (sym (ap (λ o. is_none o && nat_lt CLUSTER_LAST (free_number CLUSTER_FIRST rows)) is) ∙ room) in
        ap (λ o. is_local (or_free o (free_number CLUSTER_FIRST rows))) is ∙ lt-leb LOCAL_FIRST (free_number CLUSTER_FIRST rows) (omega (arith, within))
    by (Some number) is =
        let found = found_with (labels_pass labels) rows number is in
        let passes = and_parts (not (is_local found.0.number)) (same_labels found.0.labels labels) found.2 in
        ap (λ o. is_local (or_free o (free_number CLUSTER_FIRST rows))) is ∙ ap is_local (sym found.3) ∙ not-true (is_local found.0.number) passes.0
