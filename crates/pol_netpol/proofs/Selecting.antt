-- A selector's requirements ask what the selector asks.
use Rattle.std.proofs.Common.{◌≡◌, ℕ, Bool, true, false, cond, not, ◌&&◌, ◌||◌, List, [], ◌∷◌, ◌++◌, map, filter_map, length, Option, Some, None, is_none, option_map, codes, refl, sym, ap, ◌∙◌}
use Rattle.std.proofs.lemmas.Bool.{not-false, or_parts, true≢false}
use Rattle.std.proofs.lemmas.List.Folds.{list_all-append}
use Rattle.std.specs.Option.{option_map_or}
use Rattle.std.specs.List.{cons_option, list_all, list_any}
use Rattle.std.specs.Str.{bytes_eq}
use Rattle.pol_labels.specs.Match.{candidate, candidate_with_value, matches}
use Rattle.pol_labels.specs.Match as match_
use Rattle.pol_labels.specs.declared.label.Label.{Label}
use Rattle.pol_labels.specs.declared.requirement.Operator.{Operator}
use Rattle.pol_labels.specs.declared.requirement.Operator.TheVariants.{OneOf, NoneOf, Present, Absent}
use Rattle.pol_labels.specs.declared.requirement.Requirement.{Requirement}
use Rattle.pol_rule.specs.declared.raw.RawExpression.{RawExpression}
use Rattle.pol_rule.specs.declared.raw.RawPair.{RawPair}
use Rattle.pol_rule.specs.declared.raw.RawSelector.{RawSelector}
use Rattle.pol_sanitize.specs.Keys.{namespace_labels}
use Rattle.pol_sanitize.specs.Selectors.{is_in_namespace, operator_of}
use Rattle.pol_labels.specs.WellFormed.{takes_values}
use Rattle.pol_netpol.specs.Faults.{fits_values, has_bad_selector, is_bad_expression, is_bad_key, is_bad_label, is_bad_selector}
use Rattle.pol_netpol.specs.Meaning.{Labelled, is_listed, is_of, is_pod_of, meets, meets_expression, meets_label, meets_namespaces, meets_pods, of_pod}
use Rattle.pol_netpol.specs.Translated.{asks, expression_requirement, label_requirement, of_namespaces, of_pods, requirements_of}

pub and_true : (b : Bool) → (b && true) ≡ b
and_true true = refl
and_true false = refl

or_false : (b : Bool) → (b || false) ≡ b
or_false true = refl
or_false false = refl

-- the labels whose keys have this in front
abbrev pub under : List ℕ → List Label → Labelled
under front labels key passes = of_pod labels (front ++ key) passes

one_value : (key value : List ℕ) (labels : List Label) → list_any (candidate_with_value (asks key OneOf (value ∷ []))) labels ≡ of_pod labels key (λ v. bytes_eq v value)
one_value key value labels = λ i. list_any (λ label. is_of key label && or_false (bytes_eq label.value value) i) labels

some_value : (key : List ℕ) (op : Operator) (values : List (List ℕ)) (labels : List Label) → list_any (candidate (asks key op values)) labels ≡ of_pod labels key (λ v. true)
some_value key op values labels = λ i. list_any (λ label. sym (and_true (is_of key label)) i) labels

labels_met : (front : List ℕ) (labels : List Label) (pairs : List RawPair) → matches (map (label_requirement front) pairs) labels ≡ list_all (meets_label (under front labels)) pairs
labels_met front labels [] = refl
labels_met front labels (pair ∷ pairs) = λ i. one_value (front ++ pair.key) pair.value labels i && labels_met front labels pairs i

module _ (front : List ℕ) (labels : List Label) (expression : RawExpression) (rest : List Requirement) (rest' : Bool) (same : matches rest labels ≡ rest') where
  abbrev said : Option Operator → Bool
  said op = matches (cons_option (option_map (λ (op : Operator). asks (front ++ expression.key) op expression.values) op) rest) labels

  abbrev key : List ℕ
  key = front ++ expression.key

  expression_met : is_none (operator_of expression.operator) ≡ false → said (operator_of expression.operator) ≡ (meets_expression (under front labels) expression && rest')
  expression_met known =
      let listed = of_pod labels key (is_listed expression.values) in
      let some = of_pod labels key (λ v. true) in
      let some_is = λ (op : Operator). some_value key op expression.values labels in
      let is_in = bytes_eq expression.operator (codes "In") in
      let not_in = bytes_eq expression.operator (codes "NotIn") in
      let exists = bytes_eq expression.operator (codes "Exists") in
      let lacks = bytes_eq expression.operator (codes "DoesNotExist") in
      elim is_in as (λ b. is_none (cond b (Some OneOf) (cond not_in (Some NoneOf) (cond exists (Some Present) (cond lacks (Some Absent) None)))) ≡ false
      → said (cond b (Some OneOf) (cond not_in (Some NoneOf) (cond exists (Some Present) (cond lacks (Some Absent) None))))
      ≡ (cond b listed (cond not_in (not listed) (cond exists some (cond lacks (not some) false))) && rest')) [
        | true ↦ λ _. ap (λ b. listed && b) same
        | false ↦ elim not_in as (λ b. is_none (cond b (Some NoneOf) (cond exists (Some Present) (cond lacks (Some Absent) None))) ≡ false
            → said (cond b (Some NoneOf) (cond exists (Some Present) (cond lacks (Some Absent) None)))
            ≡ (cond b (not listed) (cond exists some (cond lacks (not some) false)) && rest')) [
              | true ↦ λ _. ap (λ b. not listed && b) same
              | false ↦ elim exists as (λ b. is_none (cond b (Some Present) (cond lacks (Some Absent) None)) ≡ false
                  → said (cond b (Some Present) (cond lacks (Some Absent) None)) ≡ (cond b some (cond lacks (not some) false) && rest')) [
                    | true ↦ λ _. (λ i. some_is Present i && same i)
                    | false ↦ elim lacks as (λ b. is_none (cond b (Some Absent) None) ≡ false
                        → said (cond b (Some Absent) None) ≡ (cond b (not some) false && rest')) [
                          | true ↦ λ _. (λ i. not (some_is Absent i) && same i)
                          | false ↦ λ none. absurd (true≢false none)
                        ]
                  ]
            ]
      ] known

-- an expression that isn't bad has an operator
fitting : (test : Operator → Bool) (op : Option Operator) → option_map_or test op false ≡ true → is_none op ≡ false
fitting test None fits = absurd (true≢false (sym fits))
fitting test (Some op) fits = refl

operator_there : (expression : RawExpression) → is_bad_expression expression ≡ false → is_none (operator_of expression.operator) ≡ false
operator_there expression fine =
    fitting (λ op. takes_values op (length expression.values)) (operator_of expression.operator)
    (not-false (fits_values expression.values expression.operator) (or_parts (is_bad_key expression.key) (not (fits_values expression.values expression.operator)) fine).1)

expressions_met : (front : List ℕ) (labels : List Label) (expressions : List RawExpression) → list_any is_bad_expression expressions ≡ false
    → matches (filter_map (expression_requirement front) expressions) labels ≡ list_all (meets_expression (under front labels)) expressions
expressions_met front labels [] fine = refl
expressions_met front labels (expression ∷ expressions) fine =
    let (here, rest) = or_parts (is_bad_expression expression) (list_any is_bad_expression expressions) fine in
    expression_met front labels expression (filter_map (expression_requirement front) expressions) (list_all (meets_expression (under front labels)) expressions)
    (expressions_met front labels expressions rest) (operator_there expression here)

pub both : (a b : List Requirement) (labels : List Label) → matches (a ++ b) labels ≡ (matches a labels && matches b labels)
both a b labels = list_all-append (λ requirement. match_.meets requirement labels) a b

pub selector_met : (front : List ℕ) (labels : List Label) (selector : RawSelector) → is_bad_selector selector ≡ false
    → matches (requirements_of front selector) labels ≡ meets (under front labels) selector
selector_met front labels selector fine =
    let (pairs, expressions) = or_parts (list_any is_bad_label selector.labels) (list_any is_bad_expression selector.expressions) fine in
    both (map (label_requirement front) selector.labels) (filter_map (expression_requirement front) selector.expressions) labels
    ∙ (λ i. labels_met front labels selector.labels i && expressions_met front labels selector.expressions expressions i)

pub own_namespace : (own : List ℕ) (labels : List Label) → matches (is_in_namespace own ∷ []) labels ≡ is_pod_of own labels
own_namespace own labels = and_true _ ∙ one_value (codes "io.kubernetes.pod.namespace") own labels

pods_met : (pods : Option RawSelector) (labels : List Label) → has_bad_selector pods ≡ false → matches (of_pods pods) labels ≡ meets_pods pods labels
pods_met None labels fine = refl
pods_met (Some selector) labels fine = selector_met [] labels selector fine

namespaces_met : (own : List ℕ) (namespaces : Option RawSelector) (labels : List Label) → has_bad_selector namespaces ≡ false
    → matches (of_namespaces own namespaces) labels ≡ meets_namespaces own namespaces labels
namespaces_met own None labels fine = own_namespace own labels
namespaces_met own (Some selector) labels fine =
    λ i. some_value (codes "io.kubernetes.pod.namespace") Present [] labels i && selector_met namespace_labels labels selector fine i

pub pods_peer_met : (own : List ℕ) (pods namespaces : Option RawSelector) (labels : List Label) → has_bad_selector pods ≡ false → has_bad_selector namespaces ≡ false
    → matches (of_pods pods ++ of_namespaces own namespaces) labels ≡ (meets_pods pods labels && meets_namespaces own namespaces labels)
pods_peer_met own pods namespaces labels fine fine' =
    both (of_pods pods) (of_namespaces own namespaces) labels ∙ (λ i. pods_met pods labels fine i && namespaces_met own namespaces labels fine' i)
