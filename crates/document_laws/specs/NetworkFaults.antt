-- Every fault of a NetworkPolicy; which of two comes first is told as of Cilium's policies ('profile').
use Rattle.std.specs.Prelude.{ℕ, Bool, ◌&&◌, ◌==◌, List, [], Option, None, Some}
use Rattle.std.specs.List.{slice_get}
use Rattle.std.specs.Option.{option_map_or}
use Rattle.pol_rule.specs.declared.fault.RuleFault.{RuleFault}
use Rattle.pol_rule.specs.declared.policy.Section.{Section}
use Rattle.pol_rule.specs.declared.policy.Section.TheVariants as section
use Rattle.pol_sanitize.specs.Faults.{Cause}
use Rattle.pol_sanitize.specs.Order.{has_cause}
use Rattle.pol_netpol.specs.Faults.{entry_causes, subject_causes}
use Rattle.pol_netpol.specs.declared.raw.RawNetEntry.{RawNetEntry}
use Rattle.pol_netpol.specs.declared.raw.RawNetworkPolicy.{RawNetworkPolicy}

-- a NetworkPolicy denies nothing
abbrev pub network_section : Section → RawNetworkPolicy → List RawNetEntry
network_section section.Ingress raw = raw.ingress
network_section section.IngressDeny raw = []
network_section section.Egress raw = raw.egress
network_section section.EgressDeny raw = []

-- what may be wrong with its subject and its types, or with an entry that it has
abbrev pub network_causes_in : RawNetworkPolicy → Option (Section × ℕ) → List Cause
network_causes_in raw None = subject_causes raw
network_causes_in raw (Some (section, entry)) = option_map_or entry_causes (slice_get (network_section section raw) entry) []

-- the location leads to a part of the object, which is one rule, at which the cause of this number holds
abbrev pub is_network_fault_of : RawNetworkPolicy → RuleFault → Bool
is_network_fault_of raw fault = (fault.rule == 0) && has_cause fault.number (network_causes_in raw fault.at)
