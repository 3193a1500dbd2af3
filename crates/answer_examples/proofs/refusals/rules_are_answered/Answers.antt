-- Each script is the text of the value, which computes.
use Rattle.std.proofs.Common.{refl, [], ◌∷◌, codes}
use Rattle.json.specs.Print.{escape_byte}
use Rattle.std.specs.Fmt.{digits}
use Rattle.std.specs.Net.Reader.{read_ipv4, read_ipv6, read_number, read_octet, read_segment, read_segments}
use Rattle.pol_addr.specs.Address.{read_addr, read_v4, read_v6}
use Rattle.pol_addr.specs.Cidr.{network}
use Rattle.pol_addr.specs.Prefix.{covers, read_len, read_prefix}
use Rattle.pol_netpol.specs.Values.{fields, items, only_item}
use Rattle.serde_json.specs.Data.{string}
use Rattle.answer_examples.proofs.Scripts.{answers_by}
use Rattle.answer_examples.proofs.refusals.rules_are_answered.Goals as goal

pub returns-clause-no_selector : goal.returns-clause-no_selector
unfolding network covers read_addr read_v4 read_v6 read_len read_prefix read_ipv4 read_ipv6 read_number read_octet read_segment read_segments digits escape_byte
returns-clause-no_selector c =
    answers_by (fields ((codes "op", string (codes "apply")) ∷ (codes "policy", fields ((codes "apiVersion", string (codes "cilium.io/v2")) ∷ (codes "kind", string (codes "CiliumNetworkPolicy")) ∷ (codes "metadata", fields ((codes "name", string (codes "p")) ∷ [])) ∷ (codes "spec", fields ((codes "ingress", only_item (fields ((codes "toPorts", only_item (fields ((codes "ports", only_item (fields ((codes "port", string (codes "65536")) ∷ []))) ∷ []))) ∷ []))) ∷ [])) ∷ [])) ∷ []) ∷ []) _ _ refl refl refl

pub returns-clause-combining : goal.returns-clause-combining
unfolding network covers read_addr read_v4 read_v6 read_len read_prefix read_ipv4 read_ipv6 read_number read_octet read_segment read_segments digits escape_byte
returns-clause-combining c =
    answers_by (fields ((codes "op", string (codes "apply")) ∷ (codes "policy", fields ((codes "apiVersion", string (codes "cilium.io/v2")) ∷ (codes "kind", string (codes "CiliumNetworkPolicy")) ∷ (codes "metadata", fields ((codes "name", string (codes "p")) ∷ [])) ∷ (codes "spec", fields ((codes "egress", only_item (fields ((codes "toEntities", only_item (string (codes "word"))) ∷ []))) ∷ (codes "endpointSelector", fields []) ∷ (codes "ingress", items (fields [] ∷ fields ((codes "fromCIDR", only_item (string (codes "10.0.0.0/33"))) ∷ (codes "fromEndpoints", only_item (fields ((codes "matchLabels", fields ((codes "app", string (codes "a")) ∷ [])) ∷ []))) ∷ []) ∷ [])) ∷ [])) ∷ [])) ∷ []) ∷ []) _ _ refl refl refl

pub returns-clause-bad_selector : goal.returns-clause-bad_selector
unfolding network covers read_addr read_v4 read_v6 read_len read_prefix read_ipv4 read_ipv6 read_number read_octet read_segment read_segments digits escape_byte
returns-clause-bad_selector c =
    answers_by (fields ((codes "op", string (codes "apply")) ∷ (codes "policy", fields ((codes "apiVersion", string (codes "cilium.io/v2")) ∷ (codes "kind", string (codes "CiliumNetworkPolicy")) ∷ (codes "metadata", fields ((codes "name", string (codes "p")) ∷ [])) ∷ (codes "spec", fields ((codes "egress", only_item (fields ((codes "toCIDR", only_item (string (codes "10.0.0.0/33"))) ∷ (codes "toEntities", only_item (string (codes "world"))) ∷ []))) ∷ (codes "endpointSelector", fields []) ∷ (codes "ingressDeny", only_item (fields ((codes "fromEndpoints", only_item (fields ((codes "matchExpressions", only_item (fields ((codes "key", string (codes "app")) ∷ (codes "operator", string (codes "Has")) ∷ []))) ∷ []))) ∷ []))) ∷ [])) ∷ [])) ∷ []) ∷ []) _ _ refl refl refl

pub returns-clause-bad_cidr : goal.returns-clause-bad_cidr
unfolding network covers read_addr read_v4 read_v6 read_len read_prefix read_ipv4 read_ipv6 read_number read_octet read_segment read_segments digits escape_byte
returns-clause-bad_cidr c =
    answers_by (fields ((codes "op", string (codes "apply")) ∷ (codes "policy", fields ((codes "apiVersion", string (codes "cilium.io/v2")) ∷ (codes "kind", string (codes "CiliumNetworkPolicy")) ∷ (codes "metadata", fields ((codes "name", string (codes "p")) ∷ [])) ∷ (codes "spec", fields ((codes "egress", only_item (fields ((codes "toCIDR", only_item (string (codes "10.0.0.0/33"))) ∷ []))) ∷ (codes "egressDeny", only_item (fields ((codes "toEndpoints", only_item (fields ((codes "matchExpressions", only_item (fields ((codes "key", string (codes "app")) ∷ (codes "operator", string (codes "In")) ∷ []))) ∷ []))) ∷ []))) ∷ (codes "endpointSelector", fields []) ∷ [])) ∷ [])) ∷ []) ∷ []) _ _ refl refl refl

pub returns-clause-except_outside : goal.returns-clause-except_outside
unfolding network covers read_addr read_v4 read_v6 read_len read_prefix read_ipv4 read_ipv6 read_number read_octet read_segment read_segments digits escape_byte
returns-clause-except_outside c =
    answers_by (fields ((codes "op", string (codes "apply")) ∷ (codes "policy", fields ((codes "apiVersion", string (codes "cilium.io/v2")) ∷ (codes "kind", string (codes "CiliumNetworkPolicy")) ∷ (codes "metadata", fields ((codes "name", string (codes "p")) ∷ [])) ∷ (codes "spec", fields ((codes "egressDeny", only_item (fields ((codes "toCIDR", only_item (string (codes "ten"))) ∷ []))) ∷ (codes "endpointSelector", fields []) ∷ (codes "ingress", only_item (fields ((codes "fromCIDRSet", only_item (fields ((codes "cidr", string (codes "10.0.0.0/8")) ∷ (codes "except", items (string (codes "10.1.0.0/16") ∷ string (codes "11.0.0.0/16") ∷ [])) ∷ []))) ∷ []))) ∷ [])) ∷ [])) ∷ []) ∷ []) _ _ refl refl refl

pub returns-clause-unknown_entity : goal.returns-clause-unknown_entity
unfolding network covers read_addr read_v4 read_v6 read_len read_prefix read_ipv4 read_ipv6 read_number read_octet read_segment read_segments digits escape_byte
returns-clause-unknown_entity c =
    answers_by (fields ((codes "op", string (codes "apply")) ∷ (codes "policy", fields ((codes "apiVersion", string (codes "cilium.io/v2")) ∷ (codes "kind", string (codes "CiliumNetworkPolicy")) ∷ (codes "metadata", fields ((codes "name", string (codes "p")) ∷ [])) ∷ (codes "spec", fields ((codes "egress", only_item (fields ((codes "toCIDRSet", only_item (fields ((codes "cidr", string (codes "10.0.0.0/8")) ∷ (codes "except", only_item (string (codes "11.0.0.0/8"))) ∷ []))) ∷ []))) ∷ (codes "egressDeny", only_item (fields ((codes "toEntities", only_item (string (codes "word"))) ∷ []))) ∷ (codes "endpointSelector", fields []) ∷ (codes "ingressDeny", only_item (fields ((codes "fromEntities", items (string (codes "world") ∷ string (codes "node") ∷ [])) ∷ []))) ∷ [])) ∷ [])) ∷ []) ∷ []) _ _ refl refl refl

pub returns-clause-bad_port : goal.returns-clause-bad_port
unfolding network covers read_addr read_v4 read_v6 read_len read_prefix read_ipv4 read_ipv6 read_number read_octet read_segment read_segments digits escape_byte
returns-clause-bad_port c =
    answers_by (fields ((codes "op", string (codes "apply")) ∷ (codes "policy", fields ((codes "apiVersion", string (codes "cilium.io/v2")) ∷ (codes "kind", string (codes "CiliumNetworkPolicy")) ∷ (codes "metadata", fields ((codes "name", string (codes "p")) ∷ [])) ∷ (codes "spec", fields ((codes "endpointSelector", fields []) ∷ (codes "ingress", only_item (fields ((codes "toPorts", only_item (fields ((codes "ports", items (fields ((codes "port", string (codes "80")) ∷ (codes "protocol", string (codes "TCP")) ∷ []) ∷ fields ((codes "port", string (codes "65536")) ∷ (codes "protocol", string (codes "HTTP")) ∷ []) ∷ [])) ∷ []))) ∷ []))) ∷ (codes "ingressDeny", only_item (fields ((codes "fromEntities", only_item (string (codes "word"))) ∷ []))) ∷ [])) ∷ [])) ∷ []) ∷ []) _ _ refl refl refl

pub returns-clause-bad_protocol : goal.returns-clause-bad_protocol
unfolding network covers read_addr read_v4 read_v6 read_len read_prefix read_ipv4 read_ipv6 read_number read_octet read_segment read_segments digits escape_byte
returns-clause-bad_protocol c =
    answers_by (fields ((codes "op", string (codes "apply")) ∷ (codes "policy", fields ((codes "apiVersion", string (codes "cilium.io/v2")) ∷ (codes "kind", string (codes "CiliumNetworkPolicy")) ∷ (codes "metadata", fields ((codes "name", string (codes "p")) ∷ [])) ∷ (codes "spec", fields ((codes "egress", only_item (fields ((codes "toPorts", only_item (fields ((codes "ports", only_item (fields ((codes "port", string (codes "65536")) ∷ []))) ∷ []))) ∷ []))) ∷ (codes "endpointSelector", fields []) ∷ (codes "ingress", only_item (fields ((codes "toPorts", only_item (fields ((codes "ports", only_item (fields ((codes "port", string (codes "80")) ∷ (codes "protocol", string (codes "HTTP")) ∷ []))) ∷ []))) ∷ []))) ∷ [])) ∷ [])) ∷ []) ∷ []) _ _ refl refl refl

pub returns-clause-too_many_ports : goal.returns-clause-too_many_ports
unfolding network covers read_addr read_v4 read_v6 read_len read_prefix read_ipv4 read_ipv6 read_number read_octet read_segment read_segments digits escape_byte
returns-clause-too_many_ports c =
    answers_by (fields ((codes "op", string (codes "apply")) ∷ (codes "policy", fields ((codes "apiVersion", string (codes "cilium.io/v2")) ∷ (codes "kind", string (codes "CiliumNetworkPolicy")) ∷ (codes "metadata", fields ((codes "name", string (codes "p")) ∷ [])) ∷ (codes "spec", fields ((codes "egress", only_item (fields ((codes "toPorts", only_item (fields ((codes "ports", only_item (fields ((codes "port", string (codes "80")) ∷ (codes "protocol", string (codes "HTTP")) ∷ []))) ∷ []))) ∷ []))) ∷ (codes "endpointSelector", fields []) ∷ (codes "ingress", only_item (fields ((codes "toPorts", only_item (fields ((codes "ports", items (fields ((codes "port", string (codes "1")) ∷ []) ∷ fields ((codes "port", string (codes "2")) ∷ []) ∷ fields ((codes "port", string (codes "3")) ∷ []) ∷ fields ((codes "port", string (codes "4")) ∷ []) ∷ fields ((codes "port", string (codes "5")) ∷ []) ∷ fields ((codes "port", string (codes "6")) ∷ []) ∷ fields ((codes "port", string (codes "7")) ∷ []) ∷ fields ((codes "port", string (codes "8")) ∷ []) ∷ fields ((codes "port", string (codes "9")) ∷ []) ∷ fields ((codes "port", string (codes "10")) ∷ []) ∷ fields ((codes "port", string (codes "11")) ∷ []) ∷ fields ((codes "port", string (codes "12")) ∷ []) ∷ fields ((codes "port", string (codes "13")) ∷ []) ∷ fields ((codes "port", string (codes "14")) ∷ []) ∷ fields ((codes "port", string (codes "15")) ∷ []) ∷ fields ((codes "port", string (codes "16")) ∷ []) ∷ fields ((codes "port", string (codes "17")) ∷ []) ∷ fields ((codes "port", string (codes "18")) ∷ []) ∷ fields ((codes "port", string (codes "19")) ∷ []) ∷ fields ((codes "port", string (codes "20")) ∷ []) ∷ fields ((codes "port", string (codes "21")) ∷ []) ∷ fields ((codes "port", string (codes "22")) ∷ []) ∷ fields ((codes "port", string (codes "23")) ∷ []) ∷ fields ((codes "port", string (codes "24")) ∷ []) ∷ fields ((codes "port", string (codes "25")) ∷ []) ∷ fields ((codes "port", string (codes "26")) ∷ []) ∷ fields ((codes "port", string (codes "27")) ∷ []) ∷ fields ((codes "port", string (codes "28")) ∷ []) ∷ fields ((codes "port", string (codes "29")) ∷ []) ∷ fields ((codes "port", string (codes "30")) ∷ []) ∷ fields ((codes "port", string (codes "31")) ∷ []) ∷ fields ((codes "port", string (codes "32")) ∷ []) ∷ fields ((codes "port", string (codes "33")) ∷ []) ∷ fields ((codes "port", string (codes "34")) ∷ []) ∷ fields ((codes "port", string (codes "35")) ∷ []) ∷ fields ((codes "port", string (codes "36")) ∷ []) ∷ fields ((codes "port", string (codes "37")) ∷ []) ∷ fields ((codes "port", string (codes "38")) ∷ []) ∷ fields ((codes "port", string (codes "39")) ∷ []) ∷ fields ((codes "port", string (codes "40")) ∷ []) ∷ fields ((codes "port", string (codes "41")) ∷ []) ∷ [])) ∷ []))) ∷ []))) ∷ [])) ∷ [])) ∷ []) ∷ []) _ _ refl refl refl

pub returns-clause-empty_ports : goal.returns-clause-empty_ports
unfolding network covers read_addr read_v4 read_v6 read_len read_prefix read_ipv4 read_ipv6 read_number read_octet read_segment read_segments digits escape_byte
returns-clause-empty_ports c =
    answers_by (fields ((codes "op", string (codes "apply")) ∷ (codes "policy", fields ((codes "apiVersion", string (codes "cilium.io/v2")) ∷ (codes "kind", string (codes "CiliumNetworkPolicy")) ∷ (codes "metadata", fields ((codes "name", string (codes "p")) ∷ [])) ∷ (codes "spec", fields ((codes "egress", only_item (fields ((codes "toPorts", only_item (fields ((codes "ports", items []) ∷ []))) ∷ []))) ∷ (codes "egressDeny", only_item (fields ((codes "toPorts", only_item (fields ((codes "ports", only_item (fields ((codes "port", string (codes "80")) ∷ (codes "protocol", string (codes "HTTP")) ∷ []))) ∷ []))) ∷ []))) ∷ (codes "endpointSelector", fields []) ∷ [])) ∷ [])) ∷ []) ∷ []) _ _ refl refl refl
