-- What a label set must have to meet a requirement, and to match a selector.
-- Kubernetes, "Labels and Selectors", set-based requirements; Cilium, "Network Policy", endpoint selectors,
-- where a key without a source means every source.
use Rattle.std.specs.Prelude.{ℕ, Bool, not, ◌&&◌, ◌||◌, List}
use Rattle.std.specs.List.{list_any, list_all}
use Rattle.std.specs.Str.{bytes_eq}
use Rattle.pol_labels.specs.declared.label.Label.{Label}
use Rattle.pol_labels.specs.declared.requirement.Requirement.{Requirement}
use Rattle.pol_labels.specs.declared.requirement.Operator.{Operator}
use Rattle.pol_labels.specs.declared.requirement.Operator.TheVariants.{OneOf, NoneOf, Present, Absent}
use Rattle.pol_labels.specs.Same.{same_label}

-- the label has the key
abbrev pub has_key : List ℕ → Label → Bool
has_key key label = bytes_eq key label.key

-- the label is a candidate of the requirement: it has the key and, unless any source is meant, the source
abbrev pub candidate : Requirement → Label → Bool
candidate requirement label =
    has_key requirement.key label && (requirement.any_source || bytes_eq requirement.source label.source)

-- the label is a candidate whose value the requirement lists
abbrev pub candidate_with_value : Requirement → Label → Bool
candidate_with_value requirement label =
    candidate requirement label && list_any (bytes_eq label.value) requirement.values

-- what the operator asks: that some candidate has a listed value, that none has, that there is a candidate, that there is none
abbrev pub asked : Operator → Requirement → List Label → Bool
asked OneOf requirement labels = list_any (candidate_with_value requirement) labels
asked NoneOf requirement labels = not (list_any (candidate_with_value requirement) labels)
asked Present requirement labels = list_any (candidate requirement) labels
asked Absent requirement labels = not (list_any (candidate requirement) labels)

-- the labels meet the requirement
abbrev pub meets : Requirement → List Label → Bool
meets requirement labels = asked requirement.op requirement labels

-- the labels match the selector: they meet each of its requirements
abbrev pub matches : List Requirement → List Label → Bool
matches selector labels = list_all (λ requirement. meets requirement labels) selector

-- the label is one of these
abbrev pub carries : List Label → Label → Bool
carries labels label = list_any (same_label label) labels
