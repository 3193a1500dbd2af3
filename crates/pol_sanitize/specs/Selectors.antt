-- What a selector asks (Kubernetes, "Labels and Selectors"), and how the namespace of its policy binds it
-- (Cilium, Network Policy, "CiliumNetworkPolicy").
use Rattle.std.specs.Prelude.{ℕ, Bool, false, not, ◌||◌, if◌then◌else◌, List, [], ◌∷◌, ◌++◌, codes, filter, filter_map, Option, None, Some, is_none, option_map}
use Rattle.std.specs.List.{list_any}
use Rattle.std.specs.Str.{bytes_eq}
use Rattle.pol_labels.specs.declared.label.Label.{Label}
use Rattle.pol_labels.specs.WellFormed.{all_well_formed}
use Rattle.pol_labels.specs.declared.requirement.Operator.{Operator}
use Rattle.pol_labels.specs.declared.requirement.Operator.TheVariants.{OneOf, NoneOf, Present, Absent}
use Rattle.pol_labels.specs.declared.requirement.Requirement.{Requirement}
use Rattle.pol_rule.specs.declared.policy.PolicyKey.{PolicyKey}
use Rattle.pol_rule.specs.declared.raw.RawExpression.{RawExpression}
use Rattle.pol_rule.specs.declared.raw.RawPair.{RawPair}
use Rattle.pol_rule.specs.declared.raw.RawSelector.{RawSelector}
use Rattle.pol_sanitize.specs.Keys.{is_on_init, is_on_namespace, lacks_source, namespace_key, requirement_on, says_namespace}

-- ---- requirements

abbrev pub operator_of : List ℕ → Option Operator
operator_of text =
    if bytes_eq text (codes "In") then Some OneOf
    else if bytes_eq text (codes "NotIn") then Some NoneOf
    else if bytes_eq text (codes "Exists") then Some Present
    else if bytes_eq text (codes "DoesNotExist") then Some Absent
    else None

-- a member `key: value` of `matchLabels` is `In` with the one value
abbrev pub label_requirement : RawPair → Option Requirement
label_requirement pair =
    if lacks_source pair.key then None else Some (requirement_on pair.key OneOf (pair.value ∷ []))

-- an item of `matchExpressions`
abbrev pub expression_requirement : RawExpression → Option Requirement
expression_requirement expression =
    if lacks_source expression.key then None
    else option_map (λ op. requirement_on expression.key op expression.values) (operator_of expression.operator)

abbrev pub is_bad_label : RawPair → Bool
is_bad_label pair = is_none (label_requirement pair)

abbrev pub is_bad_expression : RawExpression → Bool
is_bad_expression expression = is_none (expression_requirement expression)

-- what the selector asks, member by member
abbrev pub requirements_of : RawSelector → List Requirement
requirements_of selector =
    filter_map label_requirement selector.labels ++ filter_map expression_requirement selector.expressions

-- an empty source before a `:`, or an operator that isn't known
abbrev pub has_bad_member : RawSelector → Bool
has_bad_member selector = list_any is_bad_label selector.labels || list_any is_bad_expression selector.expressions

-- A selector is bad by a member, an empty key, or values that don't fit their operator.
abbrev pub is_bad_selector : RawSelector → Bool
is_bad_selector selector = has_bad_member selector || not (all_well_formed (requirements_of selector))

-- ---- namespaces

-- the selector has a requirement on such a key
abbrev pub has_key : (List ℕ → Bool) → RawSelector → Bool
has_key test selector =
    list_any (λ pair. test pair.key) selector.labels || list_any (λ expression. test expression.key) selector.expressions

-- the pod is of this namespace, and of some namespace
abbrev pub is_in_namespace : List ℕ → Requirement
is_in_namespace namespace =
    record { any_source = false; source = codes "k8s"; key = namespace_key; op = OneOf; values = namespace ∷ [] }

abbrev pub has_namespace : Requirement
has_namespace = record { any_source = false; source = codes "k8s"; key = namespace_key; op = Present; values = [] }

-- a member of `matchLabels` on another key than that of the namespace
abbrev pub other_requirement : RawPair → Option Requirement
other_requirement pair = if is_on_namespace pair.key then None else label_requirement pair

-- A policy selects endpoints of its own namespace, whatever `matchLabels` says of it.
abbrev pub bound_subject : List ℕ → RawSelector → List Requirement
bound_subject namespace selector =
    filter_map other_requirement selector.labels ++ filter_map expression_requirement selector.expressions
    ++ is_in_namespace namespace ∷ []

-- Endpoints that have no labels yet are in no namespace: a selector for them is left as it is.
abbrev pub namespaced_subject : List ℕ → RawSelector → List Requirement
namespaced_subject namespace selector =
    if has_key is_on_init selector then requirements_of selector else bound_subject namespace selector

-- A peer is of the policy's namespace, unless its selector speaks of namespaces itself.
abbrev pub namespaced_peer : List ℕ → RawSelector → List Requirement
namespaced_peer namespace selector =
    if has_key says_namespace selector then requirements_of selector
    else requirements_of selector ++ is_in_namespace namespace ∷ []

-- A cluster-wide policy binds no selector. A peer selector that asks nothing means every endpoint that has a
-- namespace ('profile').
abbrev pub some_namespace : List Requirement → List Requirement
some_namespace [] = has_namespace ∷ []
some_namespace (requirement ∷ others) = requirement ∷ others

abbrev pub subject_selector : PolicyKey → RawSelector → List Requirement
subject_selector key selector =
    if key.cluster_wide then requirements_of selector else namespaced_subject key.namespace selector

abbrev pub peer_selector : PolicyKey → RawSelector → List Requirement
peer_selector key selector =
    if key.cluster_wide then some_namespace (requirements_of selector) else namespaced_peer key.namespace selector

-- ---- words of the laws

-- the label of the pods of this namespace
abbrev pub namespace_label : List ℕ → Label
namespace_label namespace = record { source = codes "k8s"; key = namespace_key; value = namespace }

-- the selector without the members of `matchLabels` on the key of the namespace
abbrev pub without_namespace : RawSelector → RawSelector
without_namespace selector = record selector { labels = filter (λ pair. not (is_on_namespace pair.key)) selector.labels }
