-- The faults of a NetworkPolicy, and which of them is the first ('profile'): the subject with the policy types before
-- the entries of ingress, those before the entries of egress, then the entry, then the number.
use Rattle.std.specs.Prelude.{ℕ, Bool, true, false, not, ◌||◌, ◌==◌, nat_lt, List, [], ◌∷◌, length, codes, Option, None, Some, is_none, is_some, option_map}
use Rattle.std.specs.Bool.{beq}
use Rattle.std.specs.List.{list_any}
use Rattle.std.specs.Option.{option_map_or, option_or}
use Rattle.std.specs.Str.{bytes_eq}
use Rattle.pol_labels.specs.LabelText.{is_colon}
use Rattle.pol_labels.specs.WellFormed.{takes_values}
use Rattle.pol_rule.specs.Causes.{number_of}
use Rattle.pol_rule.specs.declared.cause.RuleCause.{RuleCause}
use Rattle.pol_rule.specs.declared.cause.RuleCause.TheVariants as rule
use Rattle.pol_rule.specs.declared.fault.RuleFault.{RuleFault}
use Rattle.pol_rule.specs.declared.policy.Section.{Section}
use Rattle.pol_rule.specs.declared.policy.Section.TheVariants as section
use Rattle.pol_rule.specs.declared.raw.RawExpression.{RawExpression}
use Rattle.pol_rule.specs.declared.raw.RawPair.{RawPair}
use Rattle.pol_rule.specs.declared.raw.RawSelector.{RawSelector}
use Rattle.pol_sanitize.specs.Faults.{Cause, cause, first_cause, first_of}
use Rattle.pol_sanitize.specs.Peers.{has_outside_exception, is_bad_set}
use Rattle.pol_sanitize.specs.Ports.{port_max}
use Rattle.pol_sanitize.specs.Selectors.{operator_of}
use Rattle.pol_netpol.specs.Meaning.{protocol_text}
use Rattle.pol_netpol.specs.Protocols.{proto_of}
use Rattle.pol_netpol.specs.declared.raw.RawNetEntry.{RawNetEntry}
use Rattle.pol_netpol.specs.declared.raw.RawNetPeer.{RawNetPeer}
use Rattle.pol_netpol.specs.declared.raw.RawNetPort.{RawNetPort}
use Rattle.pol_netpol.specs.declared.raw.RawNetworkPolicy.{RawNetworkPolicy}

-- ---- selectors

-- a key is empty, or has a `:`
abbrev pub is_bad_key : List ℕ → Bool
is_bad_key key = (length key == 0) || list_any is_colon key

abbrev pub is_bad_label : RawPair → Bool
is_bad_label pair = is_bad_key pair.key

-- the operator is known, and its values fit it
abbrev pub fits_values : List (List ℕ) → List ℕ → Bool
fits_values values operator = option_map_or (λ op. takes_values op (length values)) (operator_of operator) false

abbrev pub is_bad_expression : RawExpression → Bool
is_bad_expression expression = is_bad_key expression.key || not (fits_values expression.values expression.operator)

abbrev pub is_bad_selector : RawSelector → Bool
is_bad_selector selector = list_any is_bad_label selector.labels || list_any is_bad_expression selector.expressions

-- a selector that is there is bad
abbrev pub has_bad_selector : Option RawSelector → Bool
has_bad_selector selector = option_map_or is_bad_selector selector false

-- ---- peers

abbrev pub asks_badly : RawNetPeer → Bool
asks_badly peer = has_bad_selector peer.pods || has_bad_selector peer.namespaces

abbrev pub has_bad_cidr : RawNetPeer → Bool
has_bad_cidr peer = option_map_or is_bad_set peer.block false

abbrev pub excepts_outside : RawNetPeer → Bool
excepts_outside peer = option_map_or has_outside_exception peer.block false

-- a selector of either kind
abbrev pub has_selector : RawNetPeer → Bool
has_selector peer = is_some peer.pods || is_some peer.namespaces

-- none of the three members, or `ipBlock` beside another
abbrev pub is_bad_peer : RawNetPeer → Bool
is_bad_peer peer = beq (has_selector peer) (is_some peer.block)

-- ---- ports

abbrev pub is_outside : ℕ → Bool
is_outside port = nat_lt port 1 || nat_lt port_max port

-- a port that isn't 1 to 65535, or an `endPort` above 65535
abbrev pub is_bad_port : RawNetPort → Bool
is_bad_port port = option_map_or is_outside port.port false || option_map_or (nat_lt port_max) port.end_port false

-- a protocol that isn't the text TCP, UDP or SCTP
abbrev pub is_bad_protocol : RawNetPort → Bool
is_bad_protocol port = is_none (proto_of (protocol_text port.protocol))

-- an `endPort` without a port, or below it
abbrev pub ends_early : Option ℕ → ℕ → Bool
ends_early port end = option_map_or (nat_lt end) port true

abbrev pub is_bad_end : RawNetPort → Bool
is_bad_end port = option_map_or (ends_early port.port) port.end_port false

-- ---- what is wrong in one place

abbrev pub is_bad_type : List ℕ → Bool
is_bad_type text = not (bytes_eq text (codes "Ingress") || bytes_eq text (codes "Egress"))

abbrev pub subject_causes : RawNetworkPolicy → List Cause
subject_causes raw =
    cause rule.NoSelector (is_none raw.subject)
    ∷ cause rule.BadSelector (has_bad_selector raw.subject)
    ∷ cause rule.BadPolicyType (list_any is_bad_type raw.types)
    ∷ []

abbrev pub entry_causes : RawNetEntry → List Cause
entry_causes entry =
    cause rule.BadSelector (list_any asks_badly entry.peers)
    ∷ cause rule.BadCidr (list_any has_bad_cidr entry.peers)
    ∷ cause rule.ExceptOutside (list_any excepts_outside entry.peers)
    ∷ cause rule.BadPort (list_any is_bad_port entry.ports)
    ∷ cause rule.BadProtocol (list_any is_bad_protocol entry.ports)
    ∷ cause rule.BadPeer (list_any is_bad_peer entry.peers)
    ∷ cause rule.BadEndPort (list_any is_bad_end entry.ports)
    ∷ []

-- ---- the first fault

-- a NetworkPolicy is one rule
abbrev pub fault_at : Option (Section × ℕ) → RuleCause → RuleFault
fault_at at cause = record { number = number_of cause; rule = 0; at = at }

abbrev pub subject_fault : RawNetworkPolicy → Option RuleFault
subject_fault raw = option_map (fault_at None) (first_cause (subject_causes raw))

abbrev pub entry_fault : Section → ℕ → RawNetEntry → Option RuleFault
entry_fault section place entry = option_map (fault_at (Some (section, place))) (first_cause (entry_causes entry))

abbrev pub section_fault : Section → List RawNetEntry → Option RuleFault
section_fault section entries = first_of (entry_fault section) entries

-- none where the object is accepted
abbrev pub first_fault : RawNetworkPolicy → Option RuleFault
first_fault raw =
    option_or (subject_fault raw)
    (option_or (section_fault section.Ingress raw.ingress) (section_fault section.Egress raw.egress))
