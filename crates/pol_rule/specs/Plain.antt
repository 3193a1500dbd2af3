-- A rule that says nothing but whom it selects. Rules of examples are this one, with the parts that they are about.
use Rattle.std.specs.Prelude.{List, [], Option}
use Rattle.pol_labels.specs.declared.requirement.Requirement.{Requirement}
use Rattle.pol_rule.specs.declared.policy.Rule.{Rule}
use Rattle.pol_rule.specs.declared.raw.RawRule.{RawRule}
use Rattle.pol_rule.specs.declared.raw.RawSelector.{RawSelector}
use Rattle.pol_rule.specs.DefaultDeny.{nothing_said}

abbrev pub rule_of : List Requirement → Rule
rule_of subject = record {
  subject = subject;
  ingress = [];
  ingress_deny = [];
  egress = [];
  egress_deny = [];
  default_deny = nothing_said;
}

-- the same of a rule as it was read
abbrev pub raw_rule_of : Option RawSelector → RawRule
raw_rule_of subject = record {
  subject = subject;
  ingress = [];
  ingress_deny = [];
  egress = [];
  egress_deny = [];
  default_deny = nothing_said;
}
