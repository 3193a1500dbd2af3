-- The filters of an endpoint: the entries that cover something, of the rules that select it, in order.
use Rattle.std.specs.Prelude.{ℕ, ◌+◌, ◌&&◌, ◌||◌, Bool, true, false, if◌then◌else◌, List, [], ◌∷◌, ◌++◌}
use Rattle.std.specs.List.{flat_map, list_any}
use Rattle.pol_labels.specs.declared.label.Label.{Label}
use Rattle.pol_labels.specs.Match.{matches}
use Rattle.pol_ports.specs.declared.Direction.{Direction}
use Rattle.pol_ports.specs.declared.Direction.TheVariants.{Ingress, Egress}
use Rattle.pol_rule.specs.Covers.{has_effect, section_of}
use Rattle.pol_rule.specs.declared.policy.Entry.{Entry}
use Rattle.pol_rule.specs.declared.policy.Rule.{Rule}
use Rattle.pol_rule.specs.declared.policy.Section.{Section}
use Rattle.pol_rule.specs.declared.policy.Section.TheVariants as section
use Rattle.pol_model.specs.declared.options.Mode.{Mode}
use Rattle.pol_model.specs.declared.options.Mode.TheVariants.{Default, Always, Never}
use Rattle.pol_model.specs.declared.row.Stamped.{Stamped}
use Rattle.pol_model.specs.Enforced.{allow_section, deny_section, rule_says}
use Rattle.pol_model.specs.Fault.{is_init}
use Rattle.pol_model.specs.Verdict.{is_never}
use Rattle.pol_filters.specs.declared.filter.Filter.{Filter}
use Rattle.pol_filters.specs.declared.filter.Filters.{Filters}

-- the entries of the section deny
abbrev pub denies : Section → Bool
denies section.Ingress = false
denies section.IngressDeny = true
denies section.Egress = false
denies section.EgressDeny = true

-- the filter of entry n of a section of a rule
abbrev pub filter_at : Stamped → ℕ → Section → ℕ → Entry → Filter
filter_at stamped rule part n entry = record {
  place = record { key = stamped.policy.key; rule = rule; section = part; entry = n };
  stamp = stamped.stamp;
  deny = denies part;
  peers = entry.peers;
  ports = entry.ports;
}

-- the filters of the entries that cover something, where the first entry is entry n
abbrev pub entry_filters : (ℕ → Entry → Filter) → ℕ → List Entry → List Filter
entry_filters made n [] = []
entry_filters made n (entry ∷ others) =
    if has_effect entry then made n entry ∷ entry_filters made (n + 1) others else entry_filters made (n + 1) others

-- those of a direction of rule n: those that allow, and then those that deny
abbrev pub rule_filters : Stamped → Direction → ℕ → Rule → List Filter
rule_filters stamped dir n rule =
    entry_filters (filter_at stamped n (allow_section dir)) 0 (section_of (allow_section dir) rule)
    ++ entry_filters (filter_at stamped n (deny_section dir)) 0 (section_of (deny_section dir) rule)

-- those of the rules that select the labels, where the first rule is rule n
abbrev pub policy_filters : Stamped → List Label → Direction → ℕ → List Rule → List Filter
policy_filters stamped labels dir n [] = []
policy_filters stamped labels dir n (rule ∷ others) =
    if matches rule.subject labels
    then rule_filters stamped dir n rule ++ policy_filters stamped labels dir (n + 1) others
    else policy_filters stamped labels dir (n + 1) others

-- those of all policies, in policy, rule and entry order
abbrev pub filters_in : List Stamped → List Label → Direction → List Filter
filters_in policies labels dir = flat_map (λ stamped. policy_filters stamped labels dir 0 stamped.policy.rules) policies

-- some rule of the policy selects the labels and puts the direction under default deny
unfoldable pub policy_says : List Label → Direction → Stamped → Bool
policy_says labels dir stamped = list_any (λ rule. matches rule.subject labels && rule_says dir rule) stamped.policy.rules

-- the direction is enforced for an endpoint with these labels (Cilium, Policy Enforcement Modes); one that has
-- no labels yet is enforced by default
abbrev pub labels_enforced : Mode → List Stamped → List Label → Direction → Bool
labels_enforced Always policies labels dir = true
labels_enforced Never policies labels dir = false
labels_enforced Default policies labels dir = is_init labels || list_any (policy_says labels dir) policies

-- what the policies say of an endpoint with these labels
abbrev pub filters_for : List Stamped → List Label → Mode → Bool → Filters
filters_for policies labels mode localhost = record {
  never = is_never mode;
  ingress_enforced = labels_enforced mode policies labels Ingress;
  egress_enforced = labels_enforced mode policies labels Egress;
  localhost = localhost;
  ingress = filters_in policies labels Ingress;
  egress = filters_in policies labels Egress;
}
