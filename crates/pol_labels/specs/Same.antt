-- Equality as a test: of labels, of requirements, and of lists of them. Each test is true exactly where the two are `≡`
-- (`laws::equality_tests`).
use Rattle.std.specs.Prelude.{Bool, true, false, ◌&&◌, List}
use Rattle.std.specs.Bool.{beq}
use Rattle.std.specs.Cmp.Lexicographic.{pointwise}
use Rattle.std.specs.Str.{bytes_eq}
use Rattle.pol_labels.specs.declared.label.Label.{Label}
use Rattle.pol_labels.specs.declared.requirement.Requirement.{Requirement}
use Rattle.pol_labels.specs.declared.requirement.Operator.{Operator}
use Rattle.pol_labels.specs.declared.requirement.Operator.TheVariants.{OneOf, NoneOf, Present, Absent}

-- labels
abbrev pub same_label : Label → Label → Bool
same_label a b = bytes_eq a.source b.source && (bytes_eq a.key b.key && bytes_eq a.value b.value)

-- lists of labels, and so label sets
abbrev pub same_labels : List Label → List Label → Bool
same_labels = pointwise same_label

-- operators
abbrev pub same_operator : Operator → Operator → Bool
same_operator OneOf OneOf = true
same_operator NoneOf NoneOf = true
same_operator Present Present = true
same_operator Absent Absent = true
same_operator a b = false

-- requirements
abbrev pub same_requirement : Requirement → Requirement → Bool
same_requirement a b =
    beq a.any_source b.any_source
    && (bytes_eq a.source b.source
    && (bytes_eq a.key b.key
    && (same_operator a.op b.op
    && pointwise bytes_eq a.values b.values)))

-- lists of requirements, and so selectors
abbrev pub same_requirements : List Requirement → List Requirement → Bool
same_requirements = pointwise same_requirement
