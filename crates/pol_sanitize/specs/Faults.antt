-- The faults of a policy, and which of them is the first ('profile'): by rule, then the subject before the
-- sections, then the entry, then the number.
use Rattle.std.specs.Prelude.{ℕ, ◌+◌, Bool, true, if◌then◌else◌, List, [], ◌∷◌, ◌++◌, Option, None, Some, option_map}
use Rattle.std.specs.List.{list_any}
use Rattle.std.specs.Option.{option_or}
use Rattle.pol_rule.specs.Causes.{number_of}
use Rattle.pol_rule.specs.declared.cause.RuleCause.{RuleCause}
use Rattle.pol_rule.specs.declared.cause.RuleCause.TheVariants as rule
use Rattle.pol_rule.specs.declared.fault.RuleFault.{RuleFault}
use Rattle.pol_rule.specs.declared.policy.Section.{Section}
use Rattle.pol_rule.specs.declared.policy.Section.TheVariants as section
use Rattle.pol_rule.specs.declared.raw.RawCidrSet.{RawCidrSet}
use Rattle.pol_rule.specs.declared.raw.RawEntry.{RawEntry}
use Rattle.pol_rule.specs.declared.raw.RawPolicy.{RawPolicy}
use Rattle.pol_rule.specs.declared.raw.RawPortItem.{RawPortItem}
use Rattle.pol_rule.specs.declared.raw.RawRule.{RawRule}
use Rattle.pol_rule.specs.declared.raw.RawSelector.{RawSelector}
use Rattle.pol_sanitize.specs.Peers.{combines_kinds, has_outside_exception, is_bad_cidr, is_bad_set, is_unknown_entity, listed}
use Rattle.pol_sanitize.specs.Ports.{all_items, has_no_ports, has_too_many_ports, is_bad_port, is_bad_protocol}
use Rattle.pol_sanitize.specs.Selectors.{is_bad_selector}
use Rattle.pol_sanitize.specs.declared.fault.Location.{Location}

-- ---- what is wrong in one place

-- a cause of a fault, and whether it holds
pub record Cause : Type 0 where
  pub what : RuleCause
  pub holds : Bool

abbrev pub cause : RuleCause → Bool → Cause
cause what holds = record { what = what; holds = holds }

-- the first that holds
abbrev pub first_cause : List Cause → Option RuleCause
first_cause [] = None
first_cause (c ∷ causes) = if c.holds then Some c.what else first_cause causes

abbrev pub subject_causes : Option RawSelector → List Cause
subject_causes None = cause rule.NoSelector true ∷ []
subject_causes (Some selector) = cause rule.BadSelector (is_bad_selector selector) ∷ []

abbrev pub set_causes : List RawCidrSet → List Cause
set_causes sets =
    cause rule.BadCidr (list_any is_bad_set sets) ∷ cause rule.ExceptOutside (list_any has_outside_exception sets) ∷ []

abbrev pub peer_causes : RawEntry → List Cause
peer_causes entry =
    cause rule.BadSelector (list_any is_bad_selector (listed entry.endpoints))
    ∷ cause rule.BadCidr (list_any is_bad_cidr (listed entry.cidrs))
    ∷ (set_causes (listed entry.cidr_sets) ++ cause rule.UnknownEntity (list_any is_unknown_entity (listed entry.entities)) ∷ [])

abbrev pub port_causes : List RawPortItem → List Cause
port_causes items =
    cause rule.BadPort (list_any is_bad_port (all_items items))
    ∷ cause rule.BadProtocol (list_any is_bad_protocol (all_items items))
    ∷ cause rule.TooManyPorts (list_any has_too_many_ports items)
    ∷ cause rule.EmptyPorts (list_any has_no_ports items)
    ∷ []

abbrev pub entry_causes : RawEntry → List Cause
entry_causes entry = cause rule.Combining (combines_kinds entry) ∷ (peer_causes entry ++ port_causes entry.ports)

-- ---- where it is wrong

-- the fault of a cause: users are told its number
abbrev pub fault_at : Location → RuleCause → RuleFault
fault_at location cause = record { number = number_of cause; rule = location.rule; at = location.at }

-- the fault at this location, if there is one
abbrev pub located : Location → Option RuleCause → Option RuleFault
located location cause = option_map (fault_at location) cause

abbrev pub of_subject : ℕ → Location
of_subject rule = record { rule = rule; at = None }

abbrev pub of_entry : ℕ → Section → ℕ → Location
of_entry rule section entry = record { rule = rule; at = Some (section, entry) }

-- a cause, where it holds
abbrev pub found : RuleCause → Bool → Option RuleCause
found cause holds = if holds then Some cause else None

-- ---- the first fault

-- the first fault of a list's items, each told its place, which are counted from this one
abbrev pub first_from : {X : Type 0} → (ℕ → X → Option RuleFault) → ℕ → List X → Option RuleFault
first_from fault place [] = None
first_from fault place (x ∷ xs) = option_or (fault place x) (first_from fault (place + 1) xs)

abbrev pub first_of : {X : Type 0} → (ℕ → X → Option RuleFault) → List X → Option RuleFault
first_of fault items = first_from fault 0 items

abbrev pub subject_fault : ℕ → RawRule → Option RuleFault
subject_fault rule raw = located (of_subject rule) (first_cause (subject_causes raw.subject))

abbrev pub entry_fault : ℕ → Section → ℕ → RawEntry → Option RuleFault
entry_fault rule section entry raw = located (of_entry rule section entry) (first_cause (entry_causes raw))

abbrev pub section_fault : ℕ → Section → List RawEntry → Option RuleFault
section_fault rule section entries = first_of (entry_fault rule section) entries

abbrev pub rule_fault : ℕ → RawRule → Option RuleFault
rule_fault rule raw =
    option_or (subject_fault rule raw)
    (option_or (section_fault rule section.Ingress raw.ingress)
    (option_or (section_fault rule section.IngressDeny raw.ingress_deny)
    (option_or (section_fault rule section.Egress raw.egress)
    (section_fault rule section.EgressDeny raw.egress_deny))))

-- the first fault of a policy, none where it is accepted
abbrev pub first_fault : RawPolicy → Option RuleFault
first_fault raw = first_of rule_fault raw.rules
