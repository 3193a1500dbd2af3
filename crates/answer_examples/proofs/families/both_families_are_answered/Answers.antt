-- Each script is the text of the values, which compute.
use Rattle.std.proofs.Common.{refl, [], ◌∷◌, List, codes}
use Rattle.json.specs.Print.{escape_byte}
use Rattle.std.specs.Fmt.{digits}
use Rattle.std.specs.Net.Reader.{read_ipv4, read_ipv6, read_number, read_octet, read_segment, read_segments}
use Rattle.pol_addr.specs.Address.{read_addr, read_v4, read_v6}
use Rattle.pol_addr.specs.Cidr.{network}
use Rattle.pol_addr.specs.Prefix.{contains, covers, read_len, read_prefix}
use Rattle.pol_model.specs.Enforced.{has_rule}
use Rattle.pol_model.specs.Verdict.{rule_covers}
use Rattle.pol_netpol.specs.Values.{fields, only_item}
use Rattle.serde_json.specs.Data.{Data, number, string, unsigned}
use Rattle.answer_examples.proofs.Scripts.{answers_by}
use Rattle.answer_examples.proofs.families.both_families_are_answered.Goals as goal

abbrev played : List Data
played =
    fields ((codes "address", string (codes "fd00::1")) ∷ (codes "labels", only_item (string (codes "k8s:io.kubernetes.pod.namespace=default"))) ∷ (codes "name", string (codes "web")) ∷ (codes "op", string (codes "endpoint")) ∷ [])
    ∷ fields ((codes "address", string (codes "FD00:0:0:0:0:0:0:1")) ∷ (codes "labels", only_item (string (codes "k8s:io.kubernetes.pod.namespace=default"))) ∷ (codes "name", string (codes "two")) ∷ (codes "op", string (codes "endpoint")) ∷ [])
    ∷ fields ((codes "op", string (codes "apply")) ∷ (codes "policy", fields ((codes "apiVersion", string (codes "cilium.io/v2")) ∷ (codes "kind", string (codes "CiliumNetworkPolicy")) ∷ (codes "metadata", fields ((codes "name", string (codes "p")) ∷ [])) ∷ (codes "spec", fields ((codes "endpointSelector", fields []) ∷ (codes "ingress", only_item (fields ((codes "fromCIDR", only_item (string (codes "2001:db8::/32"))) ∷ []))) ∷ [])) ∷ [])) ∷ [])
    ∷ fields ((codes "op", string (codes "sync")) ∷ [])
    ∷ fields ((codes "address", string (codes "2001:db8::5")) ∷ (codes "direction", string (codes "ingress")) ∷ (codes "endpoint", string (codes "web")) ∷ (codes "op", string (codes "verdict")) ∷ (codes "port", number (unsigned 80)) ∷ (codes "protocol", string (codes "TCP")) ∷ [])
    ∷ fields ((codes "address", string (codes "2001:db9::1")) ∷ (codes "direction", string (codes "ingress")) ∷ (codes "endpoint", string (codes "web")) ∷ (codes "op", string (codes "trace")) ∷ (codes "port", number (unsigned 80)) ∷ (codes "protocol", string (codes "TCP")) ∷ [])
    ∷ fields ((codes "address", string (codes "10.0.0.1")) ∷ (codes "direction", string (codes "ingress")) ∷ (codes "endpoint", string (codes "web")) ∷ (codes "op", string (codes "trace")) ∷ (codes "port", number (unsigned 80)) ∷ (codes "protocol", string (codes "TCP")) ∷ [])
    ∷ fields ((codes "op", string (codes "apply")) ∷ (codes "policy", fields ((codes "apiVersion", string (codes "cilium.io/v2")) ∷ (codes "kind", string (codes "CiliumNetworkPolicy")) ∷ (codes "metadata", fields ((codes "name", string (codes "q")) ∷ [])) ∷ (codes "spec", fields ((codes "endpointSelector", fields []) ∷ (codes "ingressDeny", only_item (fields ((codes "fromEntities", only_item (string (codes "world"))) ∷ []))) ∷ [])) ∷ [])) ∷ [])
    ∷ fields ((codes "op", string (codes "sync")) ∷ [])
    ∷ fields ((codes "address", string (codes "2001:db8::5")) ∷ (codes "direction", string (codes "ingress")) ∷ (codes "endpoint", string (codes "web")) ∷ (codes "op", string (codes "verdict")) ∷ (codes "port", number (unsigned 80)) ∷ (codes "protocol", string (codes "TCP")) ∷ [])
    ∷ []

abbrev refused : List Data
refused =
    fields ((codes "op", string (codes "apply")) ∷ (codes "policy", fields ((codes "apiVersion", string (codes "cilium.io/v2")) ∷ (codes "kind", string (codes "CiliumNetworkPolicy")) ∷ (codes "metadata", fields ((codes "name", string (codes "r")) ∷ [])) ∷ (codes "spec", fields ((codes "egress", only_item (fields ((codes "toCIDRSet", only_item (fields ((codes "cidr", string (codes "10.0.0.0/8")) ∷ (codes "except", only_item (string (codes "2001:db8::/32"))) ∷ []))) ∷ []))) ∷ (codes "endpointSelector", fields []) ∷ [])) ∷ [])) ∷ [])
    ∷ fields ((codes "address", string (codes "1::2::3")) ∷ (codes "labels", only_item (string (codes "k8s:io.kubernetes.pod.namespace=default"))) ∷ (codes "name", string (codes "x")) ∷ (codes "op", string (codes "endpoint")) ∷ [])
    ∷ []

pub returns-clause-played : goal.returns-clause-played
unfolding network contains covers read_addr read_v4 read_v6 read_len read_prefix read_ipv4 read_ipv6 read_octet read_number read_segment read_segments digits escape_byte has_rule rule_covers
returns-clause-played c = answers_by played _ _ refl refl refl

pub returns-clause-refused : goal.returns-clause-refused
unfolding network contains covers read_addr read_v4 read_v6 read_len read_prefix read_ipv4 read_ipv6 read_octet read_number read_segment read_segments digits escape_byte has_rule rule_covers
returns-clause-refused c = answers_by refused _ _ refl refl refl
