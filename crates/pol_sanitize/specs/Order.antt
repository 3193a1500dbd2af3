-- Every fault of a policy, and which of two comes before the other: by rule, then the subject before the sections in
-- the order ingress, ingressDeny, egress, egressDeny, then the entry, then the number ('profile').
use Rattle.std.specs.Prelude.{ℕ, Bool, false, ◌&&◌, ◌||◌, ◌==◌, nat_lt, List, [], Option, None, Some}
use Rattle.std.specs.List.{list_any, slice_get}
use Rattle.std.specs.Option.{option_map_or}
use Rattle.pol_rule.specs.Causes.{number_of}
use Rattle.pol_rule.specs.declared.fault.RuleFault.{RuleFault}
use Rattle.pol_rule.specs.declared.policy.Section.{Section}
use Rattle.pol_rule.specs.declared.policy.Section.TheVariants as section
use Rattle.pol_rule.specs.declared.raw.RawEntry.{RawEntry}
use Rattle.pol_rule.specs.declared.raw.RawPolicy.{RawPolicy}
use Rattle.pol_rule.specs.declared.raw.RawRule.{RawRule}
use Rattle.pol_sanitize.specs.Faults.{Cause, entry_causes, subject_causes}

-- ---- the faults that there are

abbrev pub raw_section : Section → RawRule → List RawEntry
raw_section section.Ingress rule = rule.ingress
raw_section section.IngressDeny rule = rule.ingress_deny
raw_section section.Egress rule = rule.egress
raw_section section.EgressDeny rule = rule.egress_deny

-- a cause of this number holds
abbrev pub has_cause : ℕ → List Cause → Bool
has_cause number causes = list_any (λ (c : Cause). number_of c.what == number && c.holds) causes

-- what may be wrong with the subject of a rule, or with an entry that it has
abbrev pub causes_in : RawRule → Option (Section × ℕ) → List Cause
causes_in rule None = subject_causes rule.subject
causes_in rule (Some (section, entry)) = option_map_or entry_causes (slice_get (raw_section section rule) entry) []

-- the location leads to a part of the policy at which the cause of this number holds
abbrev pub is_fault_of : RawPolicy → RuleFault → Bool
is_fault_of raw fault =
    option_map_or (λ rule. has_cause fault.number (causes_in rule fault.at)) (slice_get raw.rules fault.rule) false

-- ---- their order

abbrev pub section_rank : Section → ℕ
section_rank section.Ingress = 1
section_rank section.IngressDeny = 2
section_rank section.Egress = 3
section_rank section.EgressDeny = 4

abbrev pub place_rank : Option (Section × ℕ) → ℕ
place_rank None = 0
place_rank (Some (section, entry)) = section_rank section

abbrev pub entry_rank : Option (Section × ℕ) → ℕ
entry_rank None = 0
entry_rank (Some (section, entry)) = entry

-- the first two numbers that differ decide
abbrev pub is_before : ℕ → ℕ → Bool → Bool
is_before m n later = nat_lt m n || (m == n && later)

abbrev pub comes_before : RuleFault → RuleFault → Bool
comes_before a b =
    is_before a.rule b.rule
    (is_before (place_rank a.at) (place_rank b.at)
    (is_before (entry_rank a.at) (entry_rank b.at)
    (nat_lt a.number b.number)))
