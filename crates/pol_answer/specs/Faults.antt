-- The numbers and names of faults, as answers print them ('profile').
use Rattle.std.specs.Prelude.{ℕ, List, codes}
use Rattle.std.specs.Option.{option_map_or}
use Rattle.pol_json.specs.declared.fault.DocFault.{DocFault}
use Rattle.pol_json.specs.declared.fault.DocFault.TheVariants as doc
use Rattle.pol_model.specs.declared.answer.Fault.{Fault}
use Rattle.pol_model.specs.declared.answer.Fault.TheVariants as fault
use Rattle.pol_rule.specs.Causes.{cause_of}
use Rattle.pol_rule.specs.declared.cause.RuleCause.{RuleCause}
use Rattle.pol_rule.specs.declared.cause.RuleCause.TheVariants as rule
use Rattle.pol_script.specs.declared.line_fault.LineFault.{LineFault}
use Rattle.pol_script.specs.declared.line_fault.LineFault.TheVariants as line

-- a request's fault: its number and name
abbrev pub fault_name : Fault → List ℕ
fault_name fault.DuplicateEndpoint = codes "30 duplicate-endpoint"
fault_name fault.UnknownEndpoint = codes "31 unknown-endpoint"
fault_name fault.EndpointsFull = codes "32 endpoints-full"
fault_name fault.DuplicateIdentityName = codes "33 duplicate-identity-name"
fault_name fault.UnknownIdentityName = codes "34 unknown-identity-name"
fault_name fault.AddressTaken = codes "35 address-taken"
fault_name fault.UnknownPolicy = codes "36 unknown-policy"
fault_name fault.IdentitiesExhausted = codes "37 identities-exhausted"
fault_name fault.LocalExhausted = codes "38 local-exhausted"
fault_name fault.ReservedLabel = codes "41 reserved-label"

-- a document's fault
abbrev pub doc_fault_name : DocFault → List ℕ
doc_fault_name doc.NotPolicy = codes "10 not-policy"
doc_fault_name doc.NoName = codes "11 no-name"
doc_fault_name doc.NoSpec = codes "12 no-spec"
doc_fault_name (doc.UnknownMember path) = codes "13 unknown-member"
doc_fault_name (doc.Unsupported name) = codes "14 unsupported"
doc_fault_name (doc.WrongShape path) = codes "25 wrong-shape"

-- a rule's fault, by its cause
abbrev pub cause_name : RuleCause → List ℕ
cause_name rule.NoSelector = codes "15 no-selector"
cause_name rule.Combining = codes "16 combining"
cause_name rule.BadSelector = codes "17 bad-selector"
cause_name rule.BadCidr = codes "18 bad-cidr"
cause_name rule.ExceptOutside = codes "19 except-outside"
cause_name rule.UnknownEntity = codes "20 unknown-entity"
cause_name rule.BadPort = codes "21 bad-port"
cause_name rule.BadProtocol = codes "22 bad-protocol"
cause_name rule.TooManyPorts = codes "23 too-many-ports"
cause_name rule.EmptyPorts = codes "24 empty-ports"
cause_name rule.BadPolicyType = codes "26 bad-policy-type"
cause_name rule.BadPeer = codes "27 bad-peer"
cause_name rule.BadEndPort = codes "28 bad-end-port"

-- and by its number, which reading gives no other than those of the causes
abbrev pub rule_fault_name : ℕ → List ℕ
rule_fault_name number = option_map_or cause_name (cause_of number) (codes "0 no-such-fault")

-- a line's fault
abbrev pub line_fault_name : LineFault → List ℕ
line_fault_name line.Json = codes "1 json"
line_fault_name line.NoOp = codes "2 no-op"
line_fault_name (line.BadField member) = codes "3 bad-field"
line_fault_name (line.UnknownField member) = codes "4 unknown-field"
line_fault_name (line.Doc fault) = doc_fault_name fault
line_fault_name (line.Rule fault) = rule_fault_name fault.number
line_fault_name line.BadLabel = codes "39 bad-label"
line_fault_name line.DuplicateLabelKey = codes "40 duplicate-label-key"
line_fault_name line.BadAddress = codes "42 bad-address"
