-- The peers of a rule, section by section.
use Rattle.std.proofs.Common.{◌≡◌, ◌++◌}
use Rattle.std.proofs.lemmas.Grind.{flat_map-append}
use Rattle.pol_rule.specs.declared.policy.Rule.{Rule}
use Rattle.pol_rule.specs.Listed.{rule_peers, section_peers}

pub rule_by_section : (rule : Rule) → rule_peers rule ≡ section_peers rule.ingress ++ section_peers rule.ingress_deny ++ section_peers rule.egress ++ section_peers rule.egress_deny
rule_by_section rule = simp flat_map-append
