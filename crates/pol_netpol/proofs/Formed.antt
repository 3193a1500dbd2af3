-- A selector that isn't bad has well-formed requirements.
use Rattle.std.proofs.Common.{◌≡◌, ℕ, true, false, not, ◌&&◌, ◌==◌, ltb, List, [], ◌∷◌, ◌++◌, length, map, filter_map, Option, Some, None, option_map, refl, ◌∙◌, arith}
use Rattle.std.proofs.lemmas.Bool.{lt-ltb, not-false, or_parts, true≢false, false≢true}
use Rattle.std.proofs.lemmas.List.Folds.{list_all-append}
use Rattle.std.specs.List.{cons_option, list_any}
use Rattle.std.specs.Option.{option_map_or}
use Rattle.pol_labels.specs.LabelText.{is_colon}
use Rattle.pol_labels.specs.WellFormed.{all_well_formed, is_well_formed, takes_values}
use Rattle.pol_labels.specs.declared.requirement.Operator.{Operator}
use Rattle.pol_labels.specs.declared.requirement.Requirement.{Requirement}
use Rattle.pol_rule.specs.declared.raw.RawExpression.{RawExpression}
use Rattle.pol_rule.specs.declared.raw.RawPair.{RawPair}
use Rattle.pol_rule.specs.declared.raw.RawSelector.{RawSelector}
use Rattle.pol_sanitize.specs.Keys.{namespace_labels}
use Rattle.pol_sanitize.specs.Selectors.{operator_of}
use Rattle.pol_netpol.specs.Faults.{fits_values, has_bad_selector, is_bad_expression, is_bad_key, is_bad_label, is_bad_selector}
use Rattle.pol_netpol.specs.Translated.{asks, expression_requirement, label_requirement, of_namespaces, of_pods, requirements_of}

some_key : (front key : List ℕ) → (length key == 0) ≡ false → ltb 0 (length (front ++ key)) ≡ true
some_key [] [] some = absurd (true≢false some)
some_key [] (byte ∷ key) some = lt-ltb 0 _ (omega arith)
some_key (byte ∷ front) key some = lt-ltb 0 _ (omega arith)

key_there : (front key : List ℕ) → is_bad_key key ≡ false → ltb 0 (length (front ++ key)) ≡ true
key_there front key fine = some_key front key (or_parts (length key == 0) (list_any is_colon key) fine).0

labels_formed : (front : List ℕ) (pairs : List RawPair) → list_any is_bad_label pairs ≡ false → all_well_formed (map (label_requirement front) pairs) ≡ true
labels_formed front [] fine = refl
labels_formed front (pair ∷ pairs) fine =
    let (here, rest) = or_parts (is_bad_label pair) (list_any is_bad_label pairs) fine in
    λ i. (key_there front pair.key here i && true) && labels_formed front pairs rest i

expression_formed : (key : List ℕ) (values : List (List ℕ)) (op : Option Operator) (rest : List Requirement)
    → ltb 0 (length key) ≡ true → option_map_or (λ op. takes_values op (length values)) op false ≡ true → all_well_formed rest ≡ true
    → all_well_formed (cons_option (option_map (λ (op : Operator). asks key op values) op) rest) ≡ true
expression_formed key values None rest some fits formed = absurd (false≢true fits)
expression_formed key values (Some op) rest some fits formed = λ i. (some i && fits i) && formed i

expressions_formed : (front : List ℕ) (expressions : List RawExpression) → list_any is_bad_expression expressions ≡ false → all_well_formed (filter_map (expression_requirement front) expressions) ≡ true
expressions_formed front [] fine = refl
expressions_formed front (expression ∷ expressions) fine =
    let (here, rest) = or_parts (is_bad_expression expression) (list_any is_bad_expression expressions) fine in
    let (key, values) = or_parts (is_bad_key expression.key) (not (fits_values expression.values expression.operator)) here in
    expression_formed (front ++ expression.key) expression.values (operator_of expression.operator) _ (key_there front expression.key key) (not-false _ values) (expressions_formed front expressions rest)

pub both_formed : (a b : List Requirement) → all_well_formed a ≡ true → all_well_formed b ≡ true → all_well_formed (a ++ b) ≡ true
both_formed a b fine fine' = list_all-append is_well_formed a b ∙ (λ i. fine i && fine' i)

pub selector_formed : (front : List ℕ) (selector : RawSelector) → is_bad_selector selector ≡ false → all_well_formed (requirements_of front selector) ≡ true
selector_formed front selector fine =
    let (labels, expressions) = or_parts (list_any is_bad_label selector.labels) (list_any is_bad_expression selector.expressions) fine in
    both_formed (map (label_requirement front) selector.labels) (filter_map (expression_requirement front) selector.expressions) (labels_formed front selector.labels labels) (expressions_formed front selector.expressions expressions)

pods_formed : (pods : Option RawSelector) → has_bad_selector pods ≡ false → all_well_formed (of_pods pods) ≡ true
pods_formed None fine = refl
pods_formed (Some selector) fine = selector_formed [] selector fine

namespaces_formed : (own : List ℕ) (namespaces : Option RawSelector) → has_bad_selector namespaces ≡ false → all_well_formed (of_namespaces own namespaces) ≡ true
namespaces_formed own None fine = refl
namespaces_formed own (Some selector) fine = selector_formed namespace_labels selector fine

pub pods_peer_formed : (own : List ℕ) (pods namespaces : Option RawSelector) → has_bad_selector pods ≡ false → has_bad_selector namespaces ≡ false
    → all_well_formed (of_pods pods ++ of_namespaces own namespaces) ≡ true
pods_peer_formed own pods namespaces fine fine' = both_formed (of_pods pods) (of_namespaces own namespaces) (pods_formed pods fine) (namespaces_formed own namespaces fine')
