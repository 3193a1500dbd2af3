-- Each script is the text of the value, which computes.
use Rattle.std.proofs.Common.{refl, [], ◌∷◌, codes}
use Rattle.json.specs.Print.{escape_byte}
use Rattle.std.specs.Fmt.{digits}
use Rattle.std.specs.Net.Reader.{read_ipv4, read_ipv6, read_number, read_octet, read_segment, read_segments}
use Rattle.pol_addr.specs.Address.{read_addr, read_v4, read_v6}
use Rattle.pol_addr.specs.Cidr.{network}
use Rattle.pol_addr.specs.Prefix.{covers, read_len, read_prefix}
use Rattle.pol_netpol.specs.Values.{fields, items, only_item}
use Rattle.serde_json.specs.Data.{unsigned, number, string}
use Rattle.answer_examples.proofs.Scripts.{answers_by}
use Rattle.answer_examples.proofs.refusals.networks_are_answered.Goals as goal

pub returns-clause-no_spec : goal.returns-clause-no_spec
unfolding network covers read_addr read_v4 read_v6 read_len read_prefix read_ipv4 read_ipv6 read_number read_octet read_segment read_segments digits escape_byte
returns-clause-no_spec c =
    answers_by (fields ((codes "op", string (codes "apply")) ∷ (codes "policy", fields ((codes "apiVersion", string (codes "networking.k8s.io/v1")) ∷ (codes "kind", string (codes "NetworkPolicy")) ∷ (codes "metadata", fields ((codes "name", string (codes "p")) ∷ [])) ∷ (codes "specs", only_item (fields ((codes "podSelector", fields []) ∷ []))) ∷ [])) ∷ []) ∷ []) _ _ refl refl refl

pub returns-clause-bad_exception : goal.returns-clause-bad_exception
unfolding network covers read_addr read_v4 read_v6 read_len read_prefix read_ipv4 read_ipv6 read_number read_octet read_segment read_segments digits escape_byte
returns-clause-bad_exception c =
    answers_by (fields ((codes "op", string (codes "apply")) ∷ (codes "policy", fields ((codes "apiVersion", string (codes "networking.k8s.io/v1")) ∷ (codes "kind", string (codes "NetworkPolicy")) ∷ (codes "metadata", fields ((codes "name", string (codes "np")) ∷ [])) ∷ (codes "spec", fields ((codes "egress", only_item (fields ((codes "to", only_item (fields ((codes "podSelector", fields ((codes "matchExpressions", only_item (fields ((codes "key", string (codes "app")) ∷ (codes "operator", string (codes "Has")) ∷ []))) ∷ [])) ∷ []))) ∷ []))) ∷ (codes "ingress", only_item (fields ((codes "from", only_item (fields ((codes "ipBlock", fields ((codes "cidr", string (codes "10.0.0.0/8")) ∷ (codes "except", only_item (string (codes "ten"))) ∷ [])) ∷ []))) ∷ []))) ∷ (codes "podSelector", fields []) ∷ [])) ∷ [])) ∷ []) ∷ []) _ _ refl refl refl

pub returns-clause-other_family : goal.returns-clause-other_family
unfolding network covers read_addr read_v4 read_v6 read_len read_prefix read_ipv4 read_ipv6 read_number read_octet read_segment read_segments digits escape_byte
returns-clause-other_family c =
    answers_by (fields ((codes "op", string (codes "apply")) ∷ (codes "policy", fields ((codes "apiVersion", string (codes "networking.k8s.io/v1")) ∷ (codes "kind", string (codes "NetworkPolicy")) ∷ (codes "metadata", fields ((codes "name", string (codes "np")) ∷ [])) ∷ (codes "spec", fields ((codes "egress", only_item (fields ((codes "ports", only_item (fields ((codes "port", number (unsigned 0)) ∷ []))) ∷ []))) ∷ (codes "ingress", only_item (fields ((codes "from", only_item (fields ((codes "ipBlock", fields ((codes "cidr", string (codes "::/0")) ∷ (codes "except", only_item (string (codes "10.0.0.0/8"))) ∷ [])) ∷ []))) ∷ []))) ∷ (codes "podSelector", fields []) ∷ [])) ∷ [])) ∷ []) ∷ []) _ _ refl refl refl

pub returns-clause-bad_policy_type : goal.returns-clause-bad_policy_type
unfolding network covers read_addr read_v4 read_v6 read_len read_prefix read_ipv4 read_ipv6 read_number read_octet read_segment read_segments digits escape_byte
returns-clause-bad_policy_type c =
    answers_by (fields ((codes "op", string (codes "apply")) ∷ (codes "policy", fields ((codes "apiVersion", string (codes "networking.k8s.io/v1")) ∷ (codes "kind", string (codes "NetworkPolicy")) ∷ (codes "metadata", fields ((codes "name", string (codes "np")) ∷ [])) ∷ (codes "spec", fields ((codes "ingress", only_item (fields ((codes "from", only_item (fields [])) ∷ []))) ∷ (codes "podSelector", fields []) ∷ (codes "policyTypes", items (string (codes "Egress") ∷ string (codes "ingress") ∷ [])) ∷ [])) ∷ [])) ∷ []) ∷ []) _ _ refl refl refl

pub returns-clause-bad_peer : goal.returns-clause-bad_peer
unfolding network covers read_addr read_v4 read_v6 read_len read_prefix read_ipv4 read_ipv6 read_number read_octet read_segment read_segments digits escape_byte
returns-clause-bad_peer c =
    answers_by (fields ((codes "op", string (codes "apply")) ∷ (codes "policy", fields ((codes "apiVersion", string (codes "networking.k8s.io/v1")) ∷ (codes "kind", string (codes "NetworkPolicy")) ∷ (codes "metadata", fields ((codes "name", string (codes "np")) ∷ [])) ∷ (codes "spec", fields ((codes "egress", only_item (fields ((codes "ports", only_item (fields ((codes "port", number (unsigned 0)) ∷ []))) ∷ []))) ∷ (codes "ingress", only_item (fields ((codes "from", items (fields ((codes "podSelector", fields []) ∷ []) ∷ fields [] ∷ [])) ∷ (codes "ports", only_item (fields ((codes "endPort", number (unsigned 80)) ∷ (codes "port", number (unsigned 443)) ∷ []))) ∷ []))) ∷ (codes "podSelector", fields []) ∷ [])) ∷ [])) ∷ []) ∷ []) _ _ refl refl refl

pub returns-clause-bad_end_port : goal.returns-clause-bad_end_port
unfolding network covers read_addr read_v4 read_v6 read_len read_prefix read_ipv4 read_ipv6 read_number read_octet read_segment read_segments digits escape_byte
returns-clause-bad_end_port c =
    answers_by (fields ((codes "op", string (codes "apply")) ∷ (codes "policy", fields ((codes "apiVersion", string (codes "networking.k8s.io/v1")) ∷ (codes "kind", string (codes "NetworkPolicy")) ∷ (codes "metadata", fields ((codes "name", string (codes "np")) ∷ [])) ∷ (codes "spec", fields ((codes "egress", only_item (fields ((codes "to", only_item (fields ((codes "ipBlock", fields ((codes "cidr", string (codes "10.0.0.0/8")) ∷ [])) ∷ (codes "podSelector", fields []) ∷ []))) ∷ []))) ∷ (codes "ingress", items (fields [] ∷ fields ((codes "ports", only_item (fields ((codes "endPort", number (unsigned 80)) ∷ (codes "port", number (unsigned 443)) ∷ []))) ∷ []) ∷ [])) ∷ (codes "podSelector", fields []) ∷ [])) ∷ [])) ∷ []) ∷ []) _ _ refl refl refl
