-- Rows of filters that are kept.
use Rattle.std.proofs.Common.{◌≡◌, zero, suc, Bool, true, false, cond, ◌&&◌, List, [], ◌∷◌, filter, refl, sym, ap, subst, ◌∙◌, arith}
use Rattle.std.specs.List.{AllByRecursion, IsAmong}
use Rattle.std.specs.Map.{values_of}
use Rattle.std.specs.Arc.{arc_value}
use Rattle.std.specs.Bool.{beq}
use Rattle.std.specs.Cmp.{booleans_Decides}
use Rattle.indexmap.specs.IndexMap.{insert_entry}
use Rattle.std.proofs.lemmas.Bool.{and_parts}
use Rattle.pol_labels.specs.declared.label.Label.{Label}
use Rattle.pol_labels.specs.Same.{same_labels}
use Rattle.pol_labels.specs.SameLaws.{same_labels-Decides}
use Rattle.pol_model.specs.declared.options.Mode.{Mode}
use Rattle.pol_model.specs.declared.row.Stamped.{Stamped}
use Rattle.pol_filters.specs.Resolved.{filters_for}
use Rattle.pol_kept_filters.specs.declared.kept.Kept.{Kept}
use Rattle.pol_kept_filters.specs.Kept.{AreKeptOf, IsFor, IsKeptOf}

-- what holds of each holds of one of them
pub every-among : {X : Type 0} (P : X → Type 0) (xs : List X) (x : X) → AllByRecursion P xs → IsAmong xs x → P x
every-among P [] x all (k, there) = absurd (let below = there.0 in omega arith)
every-among P (y ∷ ys) x all (zero, there) = subst P (sym there.1) all.0
every-among P (y ∷ ys) x all (suc k, there) = every-among P ys x all.1 (k, ((let below = there.0 in omega arith), there.1))

-- and of each value where another is put under a key
pub every-put : {K X : Type 0} (P : X → Type 0) (eq : K → K → Bool) (es : List (K × X)) (k : K) (x : X) → AllByRecursion P (values_of es) → P x → AllByRecursion P (values_of (insert_entry eq es k x))
every-put P eq [] k x all own = (own, tt)
every-put P eq (e ∷ es) k x all own = by (eq k e.0) (every-put P eq es k x all.1 own)
  where
    by : (b : Bool) → AllByRecursion P (values_of (insert_entry eq es k x)) → AllByRecursion P (values_of (cond b ((e.0, x) ∷ es) (e ∷ insert_entry eq es k x)))
    by true rest = (own, all.1)
    by false rest = (all.0, rest)

-- the values of the entries whose values pass are the values that pass
pub values-filter : {K X : Type 0} (p : X → Bool) (es : List (K × X)) → values_of (filter (λ e. p e.1) es) ≡ filter p (values_of es)
values-filter p [] = refl
values-filter p (e ∷ es) = by (p e.1) (values-filter p es)
  where
    by : (b : Bool) → values_of (filter (λ e. p e.1) es) ≡ filter p (values_of es) → values_of (cond b (e ∷ filter (λ e. p e.1) es) (filter (λ e. p e.1) es)) ≡ cond b (e.1 ∷ filter p (values_of es)) (filter p (values_of es))
    by true rest = ap (λ vs. e.1 ∷ vs) rest
    by false rest = rest

-- what is kept for these labels and this leave
pub serves : (kept : Kept) (labels : List Label) (localhost : Bool) → (beq kept.localhost localhost && same_labels kept.labels labels) ≡ true → IsFor labels localhost kept
serves kept labels localhost same =
    let parts = and_parts (beq kept.localhost localhost) (same_labels kept.labels labels) same in
    record {
      labels_are = (same_labels-Decides kept.labels labels).0 parts.1;
      localhost_is = (booleans_Decides kept.localhost localhost).0 parts.0;
    }

-- its filters are those of the labels
pub served : (policies : List Stamped) (mode : Mode) (rows : List Kept) (kept : Kept) (labels : List Label) (localhost : Bool) → AreKeptOf policies mode rows → IsAmong rows kept
    → IsFor labels localhost kept → arc_value kept.filters ≡ filters_for policies labels mode localhost
served policies mode rows kept labels localhost are there is =
    every-among (λ (one : Kept). IsKeptOf policies mode one) rows kept are there
    ∙ (λ i. filters_for policies (is.labels_are i) mode (is.localhost_is i))
