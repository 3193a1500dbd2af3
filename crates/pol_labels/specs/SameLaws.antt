-- The equality tests decide equality, and so are equivalences. The `PartialEq` and `Hash` of label sets and selectors stand on these.
use Rattle.std.specs.Prelude.{◌≡◌, true, ◌&&◌, List}
use Rattle.std.specs.Bool.{Decides, beq}
use Rattle.std.specs.Cmp.{IsEquivalence, first_so, second_so, decided, booleans_Decides}
use Rattle.std.specs.Cmp.Lexicographic.{pointwise_decides, bytes_decides}
use Rattle.std.specs.Str.{bytes_eq}
use Rattle.std.proofs.Common.{subst, refl}
use Rattle.std.proofs.lemmas.Bool.{and_from}
use Rattle.pol_labels.specs.declared.label.Label.{Label}
use Rattle.pol_labels.specs.declared.requirement.Requirement.{Requirement}
use Rattle.pol_labels.specs.declared.requirement.Operator.{Operator}
use Rattle.pol_labels.specs.declared.requirement.Operator.TheVariants.{OneOf, NoneOf, Present, Absent}
use Rattle.pol_labels.specs.Same.{same_label, same_labels, same_operator, same_requirement, same_requirements}

-- each test decides equality
same_label-itself : (a : Label) → same_label a a ≡ true
same_label-itself a =
    and_from _ _ ((bytes_decides a.source a.source).1 refl)
    (and_from _ _ ((bytes_decides a.key a.key).1 refl) ((bytes_decides a.value a.value).1 refl))

pub same_label-Decides : (a b : Label) → Decides (same_label a b) (a ≡ b)
same_label-Decides a b = (to, λ same. subst (λ c. same_label a c ≡ true) same (same_label-itself a))
  where
    to : same_label a b ≡ true → a ≡ b
    to same =
        let source : a.source ≡ b.source = (bytes_decides a.source b.source).0 (first_so _ _ same) in
        let rest : (bytes_eq a.key b.key && bytes_eq a.value b.value) ≡ true = second_so (bytes_eq a.source b.source) _ same in
        let key : a.key ≡ b.key = (bytes_decides a.key b.key).0 (first_so _ _ rest) in
        let value : a.value ≡ b.value = (bytes_decides a.value b.value).0 (second_so (bytes_eq a.key b.key) _ rest) in
        λ i. record { source = source i; key = key i; value = value i }

pub same_labels-Decides : (a b : List Label) → Decides (same_labels a b) (a ≡ b)
same_labels-Decides = pointwise_decides same_label-Decides

pub same_operator-Decides : (a b : Operator) → Decides (same_operator a b) (a ≡ b)
same_operator-Decides OneOf OneOf = (λ _. refl, λ _. refl)
same_operator-Decides NoneOf NoneOf = (λ _. refl, λ _. refl)
same_operator-Decides Present Present = (λ _. refl, λ _. refl)
same_operator-Decides Absent Absent = (λ _. refl, λ _. refl)
same_operator-Decides OneOf NoneOf = (λ e. cc, λ e. cc)
same_operator-Decides OneOf Present = (λ e. cc, λ e. cc)
same_operator-Decides OneOf Absent = (λ e. cc, λ e. cc)
same_operator-Decides NoneOf OneOf = (λ e. cc, λ e. cc)
same_operator-Decides NoneOf Present = (λ e. cc, λ e. cc)
same_operator-Decides NoneOf Absent = (λ e. cc, λ e. cc)
same_operator-Decides Present OneOf = (λ e. cc, λ e. cc)
same_operator-Decides Present NoneOf = (λ e. cc, λ e. cc)
same_operator-Decides Present Absent = (λ e. cc, λ e. cc)
same_operator-Decides Absent OneOf = (λ e. cc, λ e. cc)
same_operator-Decides Absent NoneOf = (λ e. cc, λ e. cc)
same_operator-Decides Absent Present = (λ e. cc, λ e. cc)

same_requirement-itself : (a : Requirement) → same_requirement a a ≡ true
same_requirement-itself a =
    and_from _ _ ((booleans_Decides a.any_source a.any_source).1 refl)
    (and_from _ _ ((bytes_decides a.source a.source).1 refl)
    (and_from _ _ ((bytes_decides a.key a.key).1 refl)
    (and_from _ _ ((same_operator-Decides a.op a.op).1 refl) ((pointwise_decides bytes_decides a.values a.values).1 refl))))

pub same_requirement-Decides : (a b : Requirement) → Decides (same_requirement a b) (a ≡ b)
same_requirement-Decides a b = (to, λ same. subst (λ c. same_requirement a c ≡ true) same (same_requirement-itself a))
  where
    to : same_requirement a b ≡ true → a ≡ b
    to same =
        let any_source : a.any_source ≡ b.any_source = (booleans_Decides a.any_source b.any_source).0 (first_so _ _ same) in
        let from_source = second_so (beq a.any_source b.any_source) _ same in
        let source : a.source ≡ b.source = (bytes_decides a.source b.source).0 (first_so _ _ from_source) in
        let from_key = second_so (bytes_eq a.source b.source) _ from_source in
        let key : a.key ≡ b.key = (bytes_decides a.key b.key).0 (first_so _ _ from_key) in
        let from_op = second_so (bytes_eq a.key b.key) _ from_key in
        let op : a.op ≡ b.op = (same_operator-Decides a.op b.op).0 (first_so _ _ from_op) in
        let values : a.values ≡ b.values = (pointwise_decides bytes_decides a.values b.values).0 (second_so (same_operator a.op b.op) _ from_op) in
        λ i. record { any_source = any_source i; source = source i; key = key i; op = op i; values = values i }

pub same_requirements-Decides : (a b : List Requirement) → Decides (same_requirements a b) (a ≡ b)
same_requirements-Decides = pointwise_decides same_requirement-Decides

-- and so is an equivalence
pub same_requirements-equivalence : IsEquivalence same_requirements
same_requirements-equivalence = decided same_requirements same_requirements-Decides

pub same_labels-equivalence : IsEquivalence same_labels
same_labels-equivalence = decided same_labels same_labels-Decides
