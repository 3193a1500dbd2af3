-- One identity comes or goes: what a plan asks then, and what it leaves.
use Rattle.std.proofs.Common.{◌≡◌, ℕ, ◌==◌, ◌<◌, ◌≤◌, ◌||◌, Bool, true, false, not, List, [], ◌∷◌, fold, None, Result, Ok, Err, OnOk, OnErr, refl, sym, ap, subst, ◌∙◌, inl, inr, arith}
use Rattle.std.proofs.lemmas.Bool.{both_ways, eq-eqb, ne_eqb}
use Rattle.pol_labels.specs.declared.label.Label.{Label}
use Rattle.pol_model_laws.specs.Holding.{has_row}
use Rattle.pol_model_laws.specs.Keeps.{KeepsRows}
use Rattle.pol_model_laws.proofs.FoundRows.{alone-released, holders-some}
use Rattle.pol_model_laws.proofs.HoldingLaws.{held_adds, held_has}
use Rattle.pol_model_laws.proofs.Parts.{free_row, part-labels_held, part-released}
use Rattle.pol_model.specs.declared.limits.TheConstants.{CLUSTER_FIRST}
use Rattle.pol_model.specs.declared.row.IdentityRow.{IdentityRow}
use Rattle.pol_model.specs.Identities.{free_number, labels_held, number_for, number_of_labels, or_free, released}
use Rattle.pol_model.proofs.AscendingStates.{RowsAscend, labels_ascend}
use Rattle.pol_set_changes.specs.Ids.{has}
use Rattle.pol_set_changes.specs.Log.{Log, newest, recorded}
use Rattle.pol_selcache.specs.Cache.{Cache, MayPlan, carried, change_at, with_room}
use Rattle.pol_selcache.specs.Live.{Live, AreExact, is_live, rows_without}
use Rattle.pol_selcache.specs.Plan.{Plan, Planned, changed, plan_for}
use Rattle.pol_selcache.proofs.Staying.{exact_as_come, exact_as_gone}

module _ (labels : List Label) (rows : List IdentityRow) (number : ℕ) (ascend : RowsAscend rows) (its : number ≡ number_for labels rows) (new : has_row number rows ≡ false) where
  comes : (n : ℕ) → has_row n (labels_held labels rows) ≡ true → has n (number ∷ []) ≡ not (has_row n rows)
  comes n there =
      elim (held_adds (number_of_labels labels rows) _ rows n there) [
        | inl before ↦
            let other : (number == n) ≡ false = ne_eqb number n (λ same. both_ways (has_row n rows) (ap (λ m. has_row m rows) (sym same) ∙ new) before) in
            ap (λ b. b || false) other ∙ sym (ap not before)
        | inr is ↦
            let same : number ≡ n = its ∙ sym is in
            ap (λ b. b || false) (eq-eqb number n same) ∙ sym (ap not (ap (λ m. has_row m rows) (sym same) ∙ new))
      ]

  pub one_comes : (revision : ℕ) (cache : Cache) → newest cache.log < revision → AreExact rows cache.live → MayPlan revision (number ∷ []) [] (labels_held labels rows) cache
  one_comes revision cache newer exact = record {
    newer = newer;
    come_held = (ap (λ m. has_row m (labels_held labels rows)) its ∙ held_has _ _ rows, tt);
    gone_held = tt;
    apart = (refl, tt);
    exact = exact_as_come rows (labels_held labels rows) (number ∷ []) cache.live (labels_ascend labels rows ascend) (part-labels_held labels rows ascend) comes exact;
  }

-- ---- and it leaves the selectors alive
changed_lives : (changes : List Planned) (live : List Live) (n : ℕ) → is_live n (changed changes live) ≡ is_live n live
changed_lives changes [] n = refl
changed_lives changes (s ∷ live) n = ap (λ b. (s.number == n) || b) (changed_lives changes live n)

pub change_lives : {T E : Type 0} (r : Result T E) (plan : Plan) (old new : Cache) → OnOk r ((spare : ℕ) × (new ≡ carried plan (with_room spare old))) → OnErr r (new ≡ old)
    → (n : ℕ) → is_live n new.live ≡ is_live n old.live
change_lives (Ok x) plan old new ok err n = ap (λ (cache : Cache). is_live n cache.live) ok.1 ∙ changed_lives plan.changes old.live n
change_lives (Err e) plan old new ok err n = ap (λ (cache : Cache). is_live n cache.live) err

-- ---- no change is later than the plan
newest_each : (revision : ℕ) (changes : List Planned) (log : Log) → newest log ≤ revision → newest (fold (λ log change. recorded log (change_at revision change)) log changes) ≤ revision
newest_each revision [] log before = before
newest_each revision (change ∷ changes) log before = newest_each revision changes (recorded log (change_at revision change)) (omega arith)

pub newest_carried : (plan : Plan) (cache : Cache) → newest cache.log ≤ plan.revision → newest (carried plan cache).log ≤ plan.revision
newest_carried plan cache before = newest_each plan.revision plan.changes cache.log before

pub newest_changed : (revision : ℕ) (rows : List IdentityRow) (old new : Cache) → (spare : ℕ) × (new ≡ carried (plan_for revision rows old.live) (with_room spare old))
    → newest old.log < revision → newest new.log ≤ revision
newest_changed revision rows old new is before =
    subst (λ (cache : Cache). newest cache.log ≤ revision) (sym is.1) (newest_carried (plan_for revision rows old.live) (with_room is.0 old) (omega arith))

-- ---- a label set without a number comes
pub new_may_come : (labels : List Label) (rows : List IdentityRow) (number : ℕ) → RowsAscend rows → number ≡ number_for labels rows → number_of_labels labels rows ≡ None
    → (revision : ℕ) (cache : Cache) → newest cache.log < revision → AreExact rows cache.live → MayPlan revision (number ∷ []) [] (labels_held labels rows) cache
new_may_come labels rows number ascend its none =
    one_comes labels rows number ascend its
    (ap (λ n. has_row n rows) its ∙ ap (λ o. has_row (or_free o (free_number CLUSTER_FIRST rows)) rows) none ∙ free_row CLUSTER_FIRST rows ascend)

pub it_is_held : (labels : List Label) (rows : List IdentityRow) (number : ℕ) → number ≡ number_for labels rows → has_row number (labels_held labels rows) ≡ true
it_is_held labels rows number its = ap (λ m. has_row m (labels_held labels rows)) its ∙ held_has _ _ rows

-- ---- all rows stay where no number comes
pub rows_without_none : (rows : List IdentityRow) → rows_without [] rows ≡ rows
rows_without_none [] = refl
rows_without_none (row ∷ rows) = ap (λ rest. row ∷ rest) (rows_without_none rows)

pub exact_over_all : (rows : List IdentityRow) (live : List Live) → AreExact (rows_without [] rows) live → AreExact rows live
exact_over_all rows live = subst (λ r. AreExact r live) (rows_without_none rows)

-- ---- a number goes with its one holder
module _ (number : ℕ) (rows : List IdentityRow) (there : has_row number rows ≡ true) where
  pub one_may_go : (revision : ℕ) (cache : Cache) → newest cache.log < revision → AreExact rows cache.live → MayPlan revision [] (number ∷ []) rows cache
  one_may_go revision cache newer exact = record {
    newer = newer;
    come_held = tt;
    gone_held = (there, tt);
    apart = tt;
    exact = subst (λ r. AreExact r cache.live) (sym (rows_without_none rows)) exact;
  }

  module _ (keeps : KeepsRows rows) (gone : has_row number (released number rows) ≡ false) where
    goes : (n : ℕ) → has_row n rows ≡ true → has n (number ∷ []) ≡ not (has_row n (released number rows))
    goes n held = by (has_row n (released number rows)) refl
      where
        by : (b : Bool) → has_row n (released number rows) ≡ b → has n (number ∷ []) ≡ not b
        by true stays =
            ap (λ b. b || false) (ne_eqb number n (λ same. both_ways (has_row n (released number rows)) (ap (λ m. has_row m (released number rows)) (sym same) ∙ gone) stays))
        by false went = ap (λ b. b || false) (eq-eqb number n (sym (alone-released number n rows (holders-some rows keeps) held went)))

    pub exact_without : (live : List Live) → AreExact (rows_without (number ∷ []) rows) live → AreExact (released number rows) live
    exact_without live = exact_as_gone rows (released number rows) (number ∷ []) live keeps.numbers (part-released number rows keeps.numbers) goes
