use Rattle.std.proofs.Common.{◌≡◌, ◌++◌, drop, filter_map}
use Rattle.pol_sanitize.specs.Faults.{first_from, first_of, rule_fault}
use Rattle.pol_sanitize.specs.Sanitized.{rule_of}
use Rattle.pol_sanitize.proofs.policy.rules_of.Given as goal

abbrev pub invariant-loop-index : goal.invariant-loop-index
invariant-loop-index l = record {
  said : l.said.items ++ filter_map (rule_of l.key) (drop l.index l.rules) ≡ filter_map (rule_of l.key) l.rules;
  first : first_from rule_fault l.index (drop l.index l.rules) ≡ first_of rule_fault l.rules;
}
