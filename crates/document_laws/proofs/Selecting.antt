-- Selectors are read again, and nothing is wrong in one.
use Rattle.std.proofs.Common.{◌≡◌, ℕ, List, [], ◌∷◌, codes, Option, None, option_and_then, option_map, unwrap_or, IfSome, refl, ap, ◌∙◌}
use Rattle.std.specs.Option.{option_or}
use Rattle.serde_json.specs.Data.{Data, string, object}
use Rattle.serde_json.specs.Find.{as_object}
use Rattle.document_laws.proofs.Again.{items_come_again}
use Rattle.document_laws.proofs.Named.{has, shown}
use Rattle.document_laws.proofs.Nothing.{IsSound, all_sound, sound_at, sound_member, sound_object, sound_unless_empty}
use Rattle.document_laws.proofs.Shapes.{expression_is, expression_shape, labels_are, labels_shape, member_shape, selector_is, selector_shape, text_shape}
use Rattle.document_laws.specs.Fields.{unless_empty}
use Rattle.document_laws.specs.Written.{expression_document, expression_fields, label_members, labels_document, selector_document, selector_fields}
use Rattle.pol_json.specs.Build.{expression_of, labels_of, pairs_of, selector_of, text_of}
use Rattle.pol_json.specs.Members.{present}
use Rattle.pol_json.specs.Places.{below, first_found}
use Rattle.pol_rule.specs.declared.raw.RawExpression.{RawExpression}
use Rattle.pol_rule.specs.declared.raw.RawPair.{RawPair}
use Rattle.pol_rule.specs.declared.raw.RawSelector.{RawSelector}

-- ---- they are read again

pairs_again : (pairs : List RawPair) → pairs_of (label_members pairs) ≡ pairs
pairs_again [] = refl
pairs_again (pair ∷ others) = ap (λ more. pair ∷ more) (pairs_again others)

abbrev labelled : Option Data → List RawPair
labelled found = unwrap_or (option_map pairs_of (option_and_then as_object found)) []

labelled_again : (pairs : List RawPair) → labelled (shown (option_or (unless_empty labels_document pairs) None)) ≡ pairs
labelled_again [] = refl
labelled_again (pair ∷ others) = pairs_again (pair ∷ others)

labels_again : (d : Data) (pairs : List RawPair) → present (codes "matchLabels") d ≡ shown (option_or (unless_empty labels_document pairs) None)
    → labels_of d ≡ pairs
labels_again d pairs is = ap labelled is ∙ labelled_again pairs

pub text_is_again : (text : List ℕ) → text_of (string text) ≡ text
text_is_again text = refl

expression_again : (e : RawExpression) → expression_of (expression_document e) ≡ e
expression_again e =
    let values = items_come_again text_of string text_is_again (codes "values") (expression_document e) e.values (has (codes "values") (expression_fields e)) in
    λ i. record { key = e.key; operator = e.operator; values = values i }

pub selector_again : (s : RawSelector) → selector_of (selector_document s) ≡ s
selector_again s =
    let labels = labels_again (selector_document s) s.labels (has (codes "matchLabels") (selector_fields s)) in
    let expressions =
    items_come_again expression_of expression_document expression_again (codes "matchExpressions") (selector_document s) s.expressions
    (has (codes "matchExpressions") (selector_fields s)) in
    λ i. record { labels = labels i; expressions = expressions i }

-- ---- nothing is wrong

pub any_text_sound : (text : List ℕ) → IsSound text_shape (string text)
any_text_sound text = sound_at text_shape (string text) refl refl

label_members_sound : (pairs : List RawPair) → first_found (below labels_shape (object (label_members pairs))) ≡ None
label_members_sound [] = refl
label_members_sound (pair ∷ others) =
    sound_member labels_shape labels_are pair.key (string pair.value) (label_members others) (any_text_sound pair.value) (label_members_sound others)

labels_sound : (pairs : List RawPair) → IfSome (unless_empty labels_document pairs) (IsSound labels_shape)
labels_sound [] = tt
labels_sound (pair ∷ others) = sound_at labels_shape (labels_document (pair ∷ others)) refl (label_members_sound (pair ∷ others))

expression_sound : (e : RawExpression) → IsSound expression_shape (expression_document e)
expression_sound e =
    let values = sound_unless_empty string (member_shape expression_shape (codes "values")) e.values tt (all_sound _ any_text_sound e.values) in
    sound_object expression_shape expression_is (expression_fields e) refl (any_text_sound e.key, (any_text_sound e.operator, (values, tt)))

pub selector_sound : (s : RawSelector) → IsSound selector_shape (selector_document s)
selector_sound s =
    let expressions =
    sound_unless_empty expression_document (member_shape selector_shape (codes "matchExpressions")) s.expressions tt (all_sound _ expression_sound s.expressions) in
    sound_object selector_shape selector_is (selector_fields s) refl (expressions, (labels_sound s.labels, tt))
