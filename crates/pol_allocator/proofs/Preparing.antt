-- What a plan of the selectors prepares.
use Rattle.std.proofs.Common.{◌≡◌, ℕ, Bool, not, if◌then◌else◌, List, [], ◌∷◌, Result, Ok, Err, IfOk, ap, subst, sym}
use Rattle.pol_model.specs.declared.row.IdentityRow.{IdentityRow}
use Rattle.pol_selcache.specs.Cache.{Cache, IsPlanFor, with_room}
use Rattle.pol_model.specs.Identities.{released}
use Rattle.pol_model_laws.specs.Holding.{has_row}
use Rattle.pol_model_laws.specs.Keeps.{KeepsRows}
use Rattle.pol_selcache.specs.Live.{AreExact, rows_without}
use Rattle.pol_selcache.specs.Plan.{Plan, changed, plan_for}
use Rattle.pol_allocator.specs.Held.{Prepares}
use Rattle.pol_selcache.proofs.Coming.{rows_without_none}
use Rattle.pol_allocator.proofs.Going.{exact_as_released}

pub prepared : (revision : ℕ) (rows : List IdentityRow) (old new : Cache) (plan : Plan) → plan ≡ plan_for revision rows old.live → IsPlanFor plan new
    → AreExact rows (changed plan.changes old.live) → new ≡ with_room new.log.spare old → Prepares revision rows new plan
prepared revision rows old new plan is fits exact same = record {
  revision_is = ap (λ (p : Plan). p.revision) is;
  fits = fits;
  exact = subst (λ (cache : Cache). AreExact rows (changed plan.changes cache.live)) (sym same) exact;
}

-- what is prepared, where a plan is there
each_prepared : {E : Type 0} (P Q : Plan → Type 0) → ((plan : Plan) → P plan → Q plan) → (result : Result Plan E) → IfOk result P → IfOk result Q
each_prepared P Q f (Ok plan) is = f plan is
each_prepared P Q f (Err e) is = tt

-- where no number goes, it is prepared for all rows
pub prepared_all : {E : Type 0} (rows : List IdentityRow) (revision : ℕ) (cache : Cache) (result : Result Plan E)
    → IfOk result (λ plan. Prepares revision (rows_without [] rows) cache plan) → IfOk result (λ plan. Prepares revision rows cache plan)
prepared_all rows revision cache result is =
    each_prepared (λ plan. Prepares revision (rows_without [] rows) cache plan) (λ plan. Prepares revision rows cache plan)
    (λ plan prepares. subst (λ r. Prepares revision r cache plan) (rows_without_none rows) prepares) result is

-- where a number loses a holder, it is prepared for the rows that are left
pub prepared_released : {E : Type 0} (number : ℕ) (rows : List IdentityRow) → KeepsRows rows → (last : Bool) → last ≡ not (has_row number (released number rows))
    → (revision : ℕ) (cache : Cache) (result : Result Plan E)
    → IfOk result (λ plan. Prepares revision (rows_without (if last then number ∷ [] else []) rows) cache plan)
    → IfOk result (λ plan. Prepares revision (released number rows) cache plan)
prepared_released number rows keeps last goes revision cache result is =
    each_prepared (λ plan. Prepares revision (rows_without (if last then number ∷ [] else []) rows) cache plan) (λ plan. Prepares revision (released number rows) cache plan)
    (λ plan prepares. record {
      revision_is = prepares.revision_is;
      fits = prepares.fits;
      exact = exact_as_released number rows keeps last goes (changed plan.changes cache.live) prepares.exact;
    }) result is
