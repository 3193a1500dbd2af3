-- What a requirement asks depends on nothing but the labels of its key.
use Rattle.std.proofs.Common.{◌≡◌, List, [], sym, ◌∙◌, ap, false, not}
use Rattle.std.specs.Prelude.{filter}
use Rattle.std.specs.List.{list_any}
use Rattle.std.specs.Cmp.{first_so}
use Rattle.pol_data.proofs.Filters.{list_any-filter, filter-none}
use Rattle.pol_labels.specs.declared.label.Label.{Label}
use Rattle.pol_labels.specs.declared.requirement.Requirement.{Requirement}
use Rattle.pol_labels.specs.declared.requirement.Operator.{Operator}
use Rattle.pol_labels.specs.declared.requirement.Operator.TheVariants.{OneOf, NoneOf, Present, Absent}
use Rattle.pol_labels.specs.Match.{has_key, candidate, candidate_with_value, asked, meets}

candidates-filter : (requirement : Requirement) (labels : List Label) → list_any (candidate requirement) labels ≡ list_any (candidate requirement) (filter (has_key requirement.key) labels)
candidates-filter requirement =
    list_any-filter (candidate requirement) (has_key requirement.key) (λ label is. first_so (has_key requirement.key label) _ is)

values-filter : (requirement : Requirement) (labels : List Label) → list_any (candidate_with_value requirement) labels ≡ list_any (candidate_with_value requirement) (filter (has_key requirement.key) labels)
values-filter requirement =
    list_any-filter (candidate_with_value requirement) (has_key requirement.key)
    (λ label is. first_so (has_key requirement.key label) _ (first_so (candidate requirement label) _ is))

asked-filter : (op : Operator) (requirement : Requirement) (labels : List Label) → asked op requirement labels ≡ asked op requirement (filter (has_key requirement.key) labels)
asked-filter OneOf requirement labels = values-filter requirement labels
asked-filter NoneOf requirement labels = ap not (values-filter requirement labels)
asked-filter Present requirement labels = candidates-filter requirement labels
asked-filter Absent requirement labels = ap not (candidates-filter requirement labels)

-- two sets with the same labels of the key meet the requirement alike
pub meets-same_key : (requirement : Requirement) (a b : List Label) → filter (has_key requirement.key) a ≡ filter (has_key requirement.key) b → meets requirement a ≡ meets requirement b
meets-same_key requirement a b same =
    asked-filter requirement.op requirement a
    ∙ (ap (asked requirement.op requirement) same ∙ sym (asked-filter requirement.op requirement b))

-- where no label has the key, there is no candidate, and so none with a listed value
pub asked-no_key : (op : Operator) (requirement : Requirement) (labels : List Label) → list_any (has_key requirement.key) labels ≡ false → asked op requirement labels ≡ asked op requirement []
asked-no_key op requirement labels none = asked-filter op requirement labels ∙ ap (asked op requirement) (filter-none (has_key requirement.key) labels none)
