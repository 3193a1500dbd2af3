-- Which lists of requirements a selector may have.
-- Kubernetes, "LabelSelectorRequirement": `In` and `NotIn` need values, `Exists` and `DoesNotExist` must have none.
use Rattle.std.specs.Prelude.{ℕ, Bool, ◌&&◌, ◌==◌, nat_lt, List, length}
use Rattle.std.specs.List.{list_all}
use Rattle.pol_labels.specs.declared.requirement.Requirement.{Requirement}
use Rattle.pol_labels.specs.declared.requirement.Operator.{Operator}
use Rattle.pol_labels.specs.declared.requirement.Operator.TheVariants.{OneOf, NoneOf, Present, Absent}

-- the operator takes so many values
abbrev pub takes_values : Operator → ℕ → Bool
takes_values OneOf count = nat_lt 0 count
takes_values NoneOf count = nat_lt 0 count
takes_values Present count = count == 0
takes_values Absent count = count == 0

-- the requirement has a key, and values that fit its operator
abbrev pub is_well_formed : Requirement → Bool
is_well_formed requirement =
    nat_lt 0 (length requirement.key) && takes_values requirement.op (length requirement.values)

-- each requirement is well formed
abbrev pub all_well_formed : List Requirement → Bool
all_well_formed requirements = list_all is_well_formed requirements
