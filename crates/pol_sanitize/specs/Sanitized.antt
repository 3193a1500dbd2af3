-- What a policy says (Cilium, Network Policy, "Rule Basics" and "Deny Policies"), from the policy as it was written.
--
-- A part that can't be read gives nothing here. A policy with such a part has a fault, so that nothing of a policy
-- that is accepted is left out.
use Rattle.std.specs.Prelude.{List, map, filter_map, Option, None, Some, option_map, Result, Ok, Err}
use Rattle.pol_labels.specs.declared.requirement.Requirement.{Requirement}
use Rattle.pol_rule.specs.declared.fault.RuleFault.{RuleFault}
use Rattle.pol_rule.specs.declared.policy.Entry.{Entry}
use Rattle.pol_rule.specs.declared.policy.Policy.{Policy}
use Rattle.pol_rule.specs.declared.policy.PolicyKey.{PolicyKey}
use Rattle.pol_rule.specs.declared.policy.Rule.{Rule}
use Rattle.pol_rule.specs.declared.raw.RawEntry.{RawEntry}
use Rattle.pol_rule.specs.declared.raw.RawPolicy.{RawPolicy}
use Rattle.pol_rule.specs.declared.raw.RawRule.{RawRule}
use Rattle.pol_sanitize.specs.Faults.{first_fault}
use Rattle.pol_sanitize.specs.Peers.{peers_of}
use Rattle.pol_sanitize.specs.Ports.{ports_of}
use Rattle.pol_sanitize.specs.Selectors.{subject_selector}

-- an entry without ports is for every protocol and port
abbrev pub entry_of : PolicyKey → RawEntry → Entry
entry_of key entry = record { peers = peers_of key entry; ports = ports_of entry.ports }

abbrev pub section_of : PolicyKey → List RawEntry → List Entry
section_of key entries = map (entry_of key) entries

abbrev pub rule_with : PolicyKey → RawRule → List Requirement → Rule
rule_with key rule subject = record {
  subject = subject;
  ingress = section_of key rule.ingress;
  ingress_deny = section_of key rule.ingress_deny;
  egress = section_of key rule.egress;
  egress_deny = section_of key rule.egress_deny;
  default_deny = rule.default_deny;
}

-- a rule without a subject says nothing of any endpoint
abbrev pub rule_of : PolicyKey → RawRule → Option Rule
rule_of key rule = option_map (λ selector. rule_with key rule (subject_selector key selector)) rule.subject

abbrev pub policy_of : RawPolicy → Policy
policy_of raw = record { key = raw.key; rules = filter_map (rule_of raw.key) raw.rules }

-- what the policy says, or its first fault
abbrev pub judged : Option RuleFault → Policy → Result Policy RuleFault
judged None policy = Ok policy
judged (Some fault) policy = Err fault

abbrev pub sanitized_of : RawPolicy → Result Policy RuleFault
sanitized_of raw = judged (first_fault raw) (policy_of raw)
