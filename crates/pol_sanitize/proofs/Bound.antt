-- A selector's namespace leaves it well formed or not, as it was.
use Rattle.std.proofs.Common.{◌≡◌, ℕ, Bool, true, false, cond, ◌&&◌, List, [], ◌∷◌, ◌++◌, length, filter_map, Option, Some, None, ltb, refl, sym, ap, ◌∙◌, inl, inr}
use Rattle.std.proofs.lemmas.Bool.{cases_Bool}
use Rattle.std.proofs.lemmas.List.Folds.{list_all-append}
use Rattle.std.proofs.lemmas.Slice.Eq.{bytes_eq-Decides}
use Rattle.std.specs.Cmp.{second_so}
use Rattle.std.specs.List.{cons_option, list_all}
use Rattle.pol_labels.specs.LabelText.{key_part}
use Rattle.pol_labels.specs.WellFormed.{all_well_formed, is_well_formed}
use Rattle.pol_labels.specs.declared.requirement.Operator.TheVariants.{OneOf}
use Rattle.pol_labels.specs.declared.requirement.Requirement.{Requirement}
use Rattle.pol_rule.specs.declared.policy.PolicyKey.{PolicyKey}
use Rattle.pol_rule.specs.declared.raw.RawPair.{RawPair}
use Rattle.pol_rule.specs.declared.raw.RawSelector.{RawSelector}
use Rattle.pol_sanitize.specs.Keys.{is_k8s_source, is_on_init, is_on_namespace, lacks_source, namespace_key, requirement_on, says_namespace, source_of}
use Rattle.pol_sanitize.specs.Selectors.{bound_subject, expression_requirement, has_key, is_in_namespace, label_requirement, namespaced_peer, namespaced_subject, other_requirement, peer_selector, requirements_of, some_namespace, subject_selector}

all_cons : {X : Type 0} (p : X → Bool) (o : Option X) (xs ys : List X) → list_all p xs ≡ list_all p ys → list_all p (cons_option o xs) ≡ list_all p (cons_option o ys)
all_cons p None xs ys same = same
all_cons p (Some x) xs ys same = ap (λ b. p x && b) same

-- a member on the namespace is well formed
namespace_label_well_formed : (pair : RawPair) → is_on_namespace pair.key ≡ true → is_well_formed (requirement_on pair.key OneOf (pair.value ∷ [])) ≡ true
namespace_label_well_formed pair on =
    let same = (bytes_eq-Decides (key_part pair.key) namespace_key).0 (second_so (is_k8s_source (source_of pair.key)) _ on) in
    ap (λ (key : List ℕ). ltb 0 (length key) && true) same

all_without : (pair : RawPair) (xs : List Requirement) → is_on_namespace pair.key ≡ true → list_all is_well_formed (cons_option (label_requirement pair) xs) ≡ list_all is_well_formed xs
all_without pair xs on =
    elim (lacks_source pair.key) as (λ b. list_all is_well_formed (cons_option (cond b None (Some (requirement_on pair.key OneOf (pair.value ∷ [])))) xs) ≡ list_all is_well_formed xs) [
      | true ↦ refl
      | false ↦ ap (λ b. b && list_all is_well_formed xs) (namespace_label_well_formed pair on)
    ]

bound_labels : (pairs : List RawPair) → all_well_formed (filter_map other_requirement pairs) ≡ all_well_formed (filter_map label_requirement pairs)
bound_labels [] = refl
bound_labels (pair ∷ pairs) =
    let rest = bound_labels pairs in
    elim (cases_Bool (is_on_namespace pair.key)) [
      | inl on ↦ ap (λ b. all_well_formed (cons_option (cond b None (label_requirement pair)) (filter_map other_requirement pairs))) on ∙ rest ∙ sym (all_without pair (filter_map label_requirement pairs) on)
      | inr off ↦ ap (λ b. all_well_formed (cons_option (cond b None (label_requirement pair)) (filter_map other_requirement pairs))) off ∙ all_cons is_well_formed (label_requirement pair) _ _ rest
    ]

and_true : (b : Bool) → (b && true) ≡ b
and_true true = refl
and_true false = refl

all_with : (xs : List Requirement) (x : Requirement) → is_well_formed x ≡ true → all_well_formed (xs ++ x ∷ []) ≡ all_well_formed xs
all_with xs x formed = list_all-append is_well_formed xs (x ∷ []) ∙ ap (λ b. all_well_formed xs && (b && true)) formed ∙ and_true (all_well_formed xs)

bound_subject_formed : (namespace : List ℕ) (selector : RawSelector) → all_well_formed (bound_subject namespace selector) ≡ all_well_formed (requirements_of selector)
bound_subject_formed namespace selector =
    let labels = filter_map label_requirement selector.labels in
    let others = filter_map other_requirement selector.labels in
    let expressions = filter_map expression_requirement selector.expressions in
    all_with (others ++ expressions) (is_in_namespace namespace) refl
    ∙ list_all-append is_well_formed others expressions
    ∙ ap (λ b. b && all_well_formed expressions) (bound_labels selector.labels)
    ∙ sym (list_all-append is_well_formed labels expressions)

-- ---- the two kinds of selectors
pub subject_formed : (key : PolicyKey) (selector : RawSelector) → all_well_formed (subject_selector key selector) ≡ all_well_formed (requirements_of selector)
subject_formed key selector =
    elim key.cluster_wide as (λ b. all_well_formed (cond b (requirements_of selector) (namespaced_subject key.namespace selector)) ≡ all_well_formed (requirements_of selector)) [
      | true ↦ refl
      | false ↦ elim (has_key is_on_init selector) as (λ b. all_well_formed (cond b (requirements_of selector) (bound_subject key.namespace selector)) ≡ all_well_formed (requirements_of selector)) [
        | true ↦ refl
        | false ↦ bound_subject_formed key.namespace selector
      ]
    ]

some_namespace_formed : (requirements : List Requirement) → all_well_formed (some_namespace requirements) ≡ all_well_formed requirements
some_namespace_formed [] = refl
some_namespace_formed (requirement ∷ others) = refl

pub peer_formed : (key : PolicyKey) (selector : RawSelector) → all_well_formed (peer_selector key selector) ≡ all_well_formed (requirements_of selector)
peer_formed key selector =
    elim key.cluster_wide as (λ b. all_well_formed (cond b (some_namespace (requirements_of selector)) (namespaced_peer key.namespace selector)) ≡ all_well_formed (requirements_of selector)) [
      | true ↦ some_namespace_formed (requirements_of selector)
      | false ↦ elim (has_key says_namespace selector) as (λ b. all_well_formed (cond b (requirements_of selector) (requirements_of selector ++ is_in_namespace key.namespace ∷ [])) ≡ all_well_formed (requirements_of selector)) [
        | true ↦ refl
        | false ↦ all_with (requirements_of selector) (is_in_namespace key.namespace) refl
      ]
    ]
