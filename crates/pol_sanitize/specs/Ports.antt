-- The ports of an entry (Cilium, Network Policy, "Layer 4 Examples").
use Rattle.std.specs.Prelude.{ℕ, Bool, ◌&&◌, ◌||◌, ◌==◌, nat_le, nat_lt, if◌then◌else◌, List, length, codes, flat_map, filter_map, Option, None, Some, is_none, unwrap_or, option_map, option_and_then}
use Rattle.std.specs.Char.{is_ascii_digit}
use Rattle.std.specs.List.{list_all}
use Rattle.std.specs.Str.{str_eq_ignore_ascii_case}
use Rattle.std.specs.Str.Parse.{digits_value}
use Rattle.pol_ports.specs.PortRange.{range_from}
use Rattle.pol_ports.specs.declared.PortRange.{PortRange}
use Rattle.pol_ports.specs.declared.Proto.{Proto}
use Rattle.pol_ports.specs.declared.Proto.TheVariants.{Tcp, Udp, Sctp}
use Rattle.pol_rule.specs.declared.policy.PortSpec.{PortSpec}
use Rattle.pol_rule.specs.declared.raw.RawPort.{RawPort}
use Rattle.pol_rule.specs.declared.raw.RawPortItem.{RawPortItem}
use Rattle.pol_sanitize.specs.declared.ports.TheConstants.{PORT_DIGITS_MAX, PORT_ITEM_MAX}

-- ---- numbers

abbrev pub port_max : ℕ
port_max = 65535

-- 1 to 5 decimal digits
abbrev pub is_number_text : List ℕ → Bool
is_number_text text = nat_lt 0 (length text) && nat_le (length text) PORT_DIGITS_MAX && list_all is_ascii_digit text

abbrev pub number_to : ℕ → ℕ → Option ℕ
number_to greatest number = if nat_le number greatest then Some number else None

-- the port of a text; leading zeros count among its digits alone
abbrev pub port_of : List ℕ → Option ℕ
port_of text = if is_number_text text then number_to port_max (digits_value 10 text) else None

-- the `endPort`, 0 where it is absent
abbrev pub end_of : Option ℕ → Option ℕ
end_of end = number_to port_max (unwrap_or end 0)

-- Port 0 is every port, whatever `endPort` says; an `endPort` that isn't above the port says nothing ('profile').
abbrev pub range_to : ℕ → ℕ → PortRange
range_to end first = if first == 0 then range_from 0 port_max else range_from first end

abbrev pub range_of : RawPort → Option PortRange
range_of port = option_and_then (λ end. option_map (range_to end) (port_of port.port)) (end_of port.end_port)

-- ---- protocols

abbrev pub proto_of : List ℕ → Option Proto
proto_of text =
    if str_eq_ignore_ascii_case text (codes "TCP") then Some Tcp
    else if str_eq_ignore_ascii_case text (codes "UDP") then Some Udp
    else if str_eq_ignore_ascii_case text (codes "SCTP") then Some Sctp
    else None

-- an absent protocol is ANY
abbrev pub is_any_protocol : List ℕ → Bool
is_any_protocol text = length text == 0 || str_eq_ignore_ascii_case text (codes "ANY")

-- the protocol, or the none that stands for ANY; ASCII case doesn't count
abbrev pub protocol_of : List ℕ → Option (Option Proto)
protocol_of text = if is_any_protocol text then Some None else option_map Some (proto_of text)

-- ---- ports

abbrev pub spec_of : RawPort → Option PortSpec
spec_of port =
    option_and_then (λ range. option_map (λ proto. record { proto = proto; range = range }) (protocol_of port.protocol))
    (range_of port)

-- the ports of all port items
abbrev pub all_items : List RawPortItem → List RawPort
all_items items = flat_map (λ item. item.ports) items

abbrev pub ports_of : List RawPortItem → List PortSpec
ports_of items = filter_map spec_of (all_items items)

abbrev pub is_bad_port : RawPort → Bool
is_bad_port port = is_none (range_of port)

abbrev pub is_bad_protocol : RawPort → Bool
is_bad_protocol port = is_none (protocol_of port.protocol)

abbrev pub has_too_many_ports : RawPortItem → Bool
has_too_many_ports item = nat_lt PORT_ITEM_MAX (length item.ports)

abbrev pub has_no_ports : RawPortItem → Bool
has_no_ports item = length item.ports == 0
