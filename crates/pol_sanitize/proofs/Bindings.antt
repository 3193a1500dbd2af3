-- What a selector that is bound to a namespace matches.
use Rattle.std.proofs.Common.{◌≡◌, ℕ, Bool, true, false, cond, not, ◌&&◌, ◌||◌, List, [], ◌∷◌, ◌++◌, filter, filter_map, None, refl, ap, ◌∙◌}
use Rattle.std.proofs.lemmas.Bool.{cond-false, or_parts}
use Rattle.std.proofs.lemmas.Cmp.{nat_list_eq_equiv}
use Rattle.std.proofs.lemmas.List.Folds.{list_all-append}
use Rattle.std.specs.List.{cons_option, list_any}
use Rattle.pol_labels.specs.Match.{candidate_with_value, carries, matches, meets}
use Rattle.pol_labels.specs.Same.{same_label}
use Rattle.pol_labels.specs.declared.label.Label.{Label}
use Rattle.pol_labels.specs.declared.requirement.Requirement.{Requirement}
use Rattle.pol_rule.specs.declared.policy.PolicyKey.{PolicyKey}
use Rattle.pol_rule.specs.declared.raw.RawPair.{RawPair}
use Rattle.pol_rule.specs.declared.raw.RawSelector.{RawSelector}
use Rattle.pol_sanitize.specs.Keys.{is_on_init, is_on_namespace, says_namespace}
use Rattle.pol_sanitize.specs.Selectors.{bound_subject, expression_requirement, has_key, is_in_namespace, label_requirement, namespace_label, other_requirement, peer_selector, requirements_of, some_namespace, subject_selector, without_namespace}

-- ---- the requirement of a namespace
reordered : (key source value value' : Bool) → value ≡ value' → ((key && source) && (value || false)) ≡ (source && (key && value'))
reordered true true true value' same = same
reordered true true false value' same = same
reordered true false value value' same = refl
reordered false true value value' same = refl
reordered false false value value' same = refl

carries_one : (namespace : List ℕ) (label : Label) → candidate_with_value (is_in_namespace namespace) label ≡ same_label (namespace_label namespace) label
carries_one namespace label = reordered _ _ _ _ (nat_list_eq_equiv.symm label.value namespace)

meets_namespace : (namespace : List ℕ) (labels : List Label) → meets (is_in_namespace namespace) labels ≡ carries labels (namespace_label namespace)
meets_namespace namespace labels = λ i. list_any (λ label. carries_one namespace label i) labels

and_true : (b : Bool) → (b && true) ≡ b
and_true true = refl
and_true false = refl

bound : (requirements : List Requirement) (namespace : List ℕ) (labels : List Label) → matches (requirements ++ is_in_namespace namespace ∷ []) labels ≡ (matches requirements labels && carries labels (namespace_label namespace))
bound requirements namespace labels =
    list_all-append (λ requirement. meets requirement labels) requirements (is_in_namespace namespace ∷ [])
    ∙ ap (λ b. matches requirements labels && b) (and_true (meets (is_in_namespace namespace) labels) ∙ meets_namespace namespace labels)

-- ---- subjects
kept : (pairs : List RawPair) → filter_map other_requirement pairs ≡ filter_map label_requirement (filter (λ (pair : RawPair). not (is_on_namespace pair.key)) pairs)
kept [] = refl
kept (pair ∷ pairs) =
    elim (is_on_namespace pair.key) as (λ b. cons_option (cond b None (label_requirement pair)) (filter_map other_requirement pairs)
    ≡ filter_map label_requirement (cond (not b) (pair ∷ filter (λ (pair : RawPair). not (is_on_namespace pair.key)) pairs) (filter (λ (pair : RawPair). not (is_on_namespace pair.key)) pairs))) [
      | true ↦ kept pairs
      | false ↦ ap (cons_option (label_requirement pair)) (kept pairs)
    ]

either : {X : Type 0} (a b : Bool) (x y z : X) → (a || b) ≡ false → cond a x (cond b y z) ≡ z
either a b x y z none = cond-false a x (cond b y z) (or_parts a b none).0 ∙ cond-false b y z (or_parts a b none).1

bound_subject_is : (namespace : List ℕ) (selector : RawSelector) → bound_subject namespace selector ≡ requirements_of (without_namespace selector) ++ is_in_namespace namespace ∷ []
bound_subject_is namespace selector =
    ap (λ labels. (labels ++ filter_map expression_requirement selector.expressions) ++ is_in_namespace namespace ∷ []) (kept selector.labels)

pub subject_matches : (key : PolicyKey) (selector : RawSelector) (labels : List Label) → (key.cluster_wide || has_key is_on_init selector) ≡ false
    → matches (subject_selector key selector) labels ≡ (matches (requirements_of (without_namespace selector)) labels && carries labels (namespace_label key.namespace))
subject_matches key selector labels none =
    let is = either key.cluster_wide (has_key is_on_init selector) (requirements_of selector) (requirements_of selector) (bound_subject key.namespace selector) none in
    ap (λ requirements. matches requirements labels) (is ∙ bound_subject_is key.namespace selector)
    ∙ bound (requirements_of (without_namespace selector)) key.namespace labels

-- ---- peers
pub peer_matches : (key : PolicyKey) (selector : RawSelector) (labels : List Label) → (key.cluster_wide || has_key says_namespace selector) ≡ false
    → matches (peer_selector key selector) labels ≡ (matches (requirements_of selector) labels && carries labels (namespace_label key.namespace))
peer_matches key selector labels none =
    let asked = requirements_of selector in
    let is = either key.cluster_wide (has_key says_namespace selector) (some_namespace asked) asked (asked ++ is_in_namespace key.namespace ∷ []) none in
    ap (λ requirements. matches requirements labels) is ∙ bound asked key.namespace labels
