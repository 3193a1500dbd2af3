-- Each script is the text of the value, which computes.
use Rattle.std.proofs.Common.{refl, [], ◌∷◌, codes}
use Rattle.json.specs.Print.{escape_byte}
use Rattle.std.specs.Fmt.{digits}
use Rattle.std.specs.Net.Reader.{read_ipv4, read_ipv6, read_number, read_octet, read_segment, read_segments}
use Rattle.pol_addr.specs.Address.{read_addr, read_v4, read_v6}
use Rattle.pol_addr.specs.Cidr.{network}
use Rattle.pol_addr.specs.Prefix.{covers, read_len, read_prefix}
use Rattle.pol_netpol.specs.Values.{fields, items, only_item}
use Rattle.serde_json.specs.Data.{unsigned, number, string}
use Rattle.answer_examples.proofs.Scripts.{answers_by}
use Rattle.answer_examples.proofs.refusals.members_are_answered.Goals as goal

pub returns-clause-unknown_member : goal.returns-clause-unknown_member
unfolding network covers read_addr read_v4 read_v6 read_len read_prefix read_ipv4 read_ipv6 read_number read_octet read_segment read_segments digits escape_byte
returns-clause-unknown_member c =
    answers_by (fields ((codes "op", string (codes "apply")) ∷ (codes "policy", fields ((codes "apiVersion", string (codes "cilium.io/v2")) ∷ (codes "kind", string (codes "CiliumNetworkPolicy")) ∷ (codes "metadata", fields ((codes "name", string (codes "p")) ∷ [])) ∷ (codes "spec", fields ((codes "egress", only_item (fields ((codes "toPort", items []) ∷ []))) ∷ (codes "endpointSelector", fields []) ∷ (codes "ingress", only_item (fields ((codes "icmps", items []) ∷ []))) ∷ [])) ∷ [])) ∷ []) ∷ []) _ _ refl refl refl

pub returns-clause-unsupported : goal.returns-clause-unsupported
unfolding network covers read_addr read_v4 read_v6 read_len read_prefix read_ipv4 read_ipv6 read_number read_octet read_segment read_segments digits escape_byte
returns-clause-unsupported c =
    answers_by (fields ((codes "op", string (codes "apply")) ∷ (codes "policy", fields ((codes "apiVersion", string (codes "cilium.io/v2")) ∷ (codes "kind", string (codes "CiliumNetworkPolicy")) ∷ (codes "metadata", fields ((codes "name", string (codes "p")) ∷ [])) ∷ (codes "spec", fields ((codes "egress", only_item (fields ((codes "toFQDNs", items []) ∷ []))) ∷ (codes "endpointSelector", fields []) ∷ (codes "ingress", only_item (fields ((codes "fromPods", items []) ∷ []))) ∷ [])) ∷ [])) ∷ []) ∷ []) _ _ refl refl refl

pub returns-clause-wrong_shape : goal.returns-clause-wrong_shape
unfolding network covers read_addr read_v4 read_v6 read_len read_prefix read_ipv4 read_ipv6 read_number read_octet read_segment read_segments digits escape_byte
returns-clause-wrong_shape c =
    answers_by (fields ((codes "op", string (codes "apply")) ∷ (codes "policy", fields ((codes "apiVersion", string (codes "cilium.io/v2")) ∷ (codes "kind", string (codes "CiliumNetworkPolicy")) ∷ (codes "metadata", fields ((codes "name", string (codes "p")) ∷ [])) ∷ (codes "spec", fields ((codes "egress", items (fields [] ∷ fields ((codes "toPorts", only_item (fields ((codes "ports", only_item (fields ((codes "port", number (unsigned 80)) ∷ []))) ∷ []))) ∷ []) ∷ [])) ∷ (codes "endpointSelector", fields []) ∷ (codes "ingress", only_item (fields ((codes "fromPods", items []) ∷ []))) ∷ [])) ∷ [])) ∷ []) ∷ []) _ _ refl refl refl
