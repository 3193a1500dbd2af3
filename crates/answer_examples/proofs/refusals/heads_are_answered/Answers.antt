-- Each script is the text of the value, which computes.
use Rattle.std.proofs.Common.{refl, [], ◌∷◌, codes}
use Rattle.json.specs.Print.{escape_byte}
use Rattle.std.specs.Fmt.{digits}
use Rattle.std.specs.Net.Reader.{read_ipv4, read_ipv6, read_number, read_octet, read_segment, read_segments}
use Rattle.pol_addr.specs.Address.{read_addr, read_v4, read_v6}
use Rattle.pol_addr.specs.Cidr.{network}
use Rattle.pol_addr.specs.Prefix.{covers, read_len, read_prefix}
use Rattle.pol_netpol.specs.Values.{fields, items}
use Rattle.serde_json.specs.Data.{string}
use Rattle.answer_examples.proofs.Scripts.{answers_by}
use Rattle.answer_examples.proofs.refusals.heads_are_answered.Goals as goal

pub returns-clause-not_policy : goal.returns-clause-not_policy
unfolding network covers read_addr read_v4 read_v6 read_len read_prefix read_ipv4 read_ipv6 read_number read_octet read_segment read_segments digits escape_byte
returns-clause-not_policy c =
    answers_by (fields ((codes "op", string (codes "apply")) ∷ (codes "policy", fields ((codes "apiVersion", string (codes "cilium.io/v1")) ∷ (codes "kind", string (codes "CiliumNetworkPolicy")) ∷ (codes "metadata", fields []) ∷ (codes "spec", fields ((codes "nodeSelector", fields []) ∷ [])) ∷ [])) ∷ []) ∷ []) _ _ refl refl refl

pub returns-clause-no_name : goal.returns-clause-no_name
unfolding network covers read_addr read_v4 read_v6 read_len read_prefix read_ipv4 read_ipv6 read_number read_octet read_segment read_segments digits escape_byte
returns-clause-no_name c =
    answers_by (fields ((codes "op", string (codes "apply")) ∷ (codes "policy", fields ((codes "apiVersion", string (codes "cilium.io/v2")) ∷ (codes "kind", string (codes "CiliumNetworkPolicy")) ∷ (codes "metadata", fields ((codes "namespace", string (codes "shop")) ∷ [])) ∷ (codes "specs", items []) ∷ [])) ∷ []) ∷ []) _ _ refl refl refl

pub returns-clause-no_spec : goal.returns-clause-no_spec
unfolding network covers read_addr read_v4 read_v6 read_len read_prefix read_ipv4 read_ipv6 read_number read_octet read_segment read_segments digits escape_byte
returns-clause-no_spec c =
    answers_by (fields ((codes "op", string (codes "apply")) ∷ (codes "policy", fields ((codes "apiVersion", string (codes "cilium.io/v2")) ∷ (codes "kind", string (codes "CiliumClusterwideNetworkPolicy")) ∷ (codes "metadata", fields ((codes "name", string (codes "p")) ∷ [])) ∷ (codes "nothing", fields []) ∷ (codes "specs", items []) ∷ [])) ∷ []) ∷ []) _ _ refl refl refl
