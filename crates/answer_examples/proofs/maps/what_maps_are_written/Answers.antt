-- Each script is the text of the values, which compute.
use Rattle.std.proofs.Common.{refl, ap, [], ◌∷◌, ◌∙◌, List, codes, is_some}
use Rattle.json.specs.Print.{escape_byte}
use Rattle.std.specs.Fmt.{digits}
use Rattle.std.specs.Net.Reader.{read_ipv4, read_ipv6, read_number, read_octet, read_segment, read_segments}
use Rattle.answer_examples.proofs.Scripts.{answers_by, script_read}
use Rattle.answer_examples.specs.Answered.{by_default}
use Rattle.pol_addr.specs.Address.{read_addr, read_v4, read_v6}
use Rattle.pol_map_dump.specs.AtEnd.{endpoint_after, map_text_after}
use Rattle.pol_model.specs.Enforced.{has_rule}
use Rattle.pol_netpol.specs.Values.{fields, items, only_item}
use Rattle.serde_json.specs.Data.{Data, string}
use Rattle.answer_examples.proofs.maps.what_maps_are_written.Goals as goal

abbrev lines : List Data
lines =
    fields ((codes "address", string (codes "10.0.0.1")) ∷ (codes "labels", items (string (codes "k8s:app=db") ∷ string (codes "k8s:io.kubernetes.pod.namespace=default") ∷ [])) ∷ (codes "name", string (codes "db")) ∷ (codes "op", string (codes "endpoint")) ∷ [])
    ∷ fields ((codes "address", string (codes "10.0.0.2")) ∷ (codes "labels", items (string (codes "k8s:app=web") ∷ string (codes "k8s:io.kubernetes.pod.namespace=default") ∷ [])) ∷ (codes "name", string (codes "web")) ∷ (codes "op", string (codes "endpoint")) ∷ [])
    ∷ fields ((codes "op", string (codes "apply")) ∷ (codes "policy", fields ((codes "apiVersion", string (codes "networking.k8s.io/v1")) ∷ (codes "kind", string (codes "NetworkPolicy")) ∷ (codes "metadata", fields ((codes "name", string (codes "np")) ∷ [])) ∷ (codes "spec", fields ((codes "ingress", only_item (fields ((codes "from", only_item (fields ((codes "podSelector", fields ((codes "matchLabels", fields ((codes "app", string (codes "web")) ∷ [])) ∷ [])) ∷ []))) ∷ []))) ∷ (codes "podSelector", fields ((codes "matchLabels", fields ((codes "app", string (codes "db")) ∷ [])) ∷ [])) ∷ [])) ∷ [])) ∷ [])
    ∷ []

pub returns-clause-answers : goal.returns-clause-answers
unfolding read_addr read_v4 read_v6 read_ipv4 read_ipv6 read_number read_octet read_segment read_segments digits escape_byte
returns-clause-answers c = answers_by lines _ _ refl refl refl

pub returns-clause-isolated : goal.returns-clause-isolated
unfolding read_addr read_v4 read_v6 read_ipv4 read_ipv6 read_number read_octet read_segment read_segments digits escape_byte has_rule
returns-clause-isolated c = ap (map_text_after by_default (codes "db")) (script_read lines _ refl refl) ∙ refl

pub returns-clause-not_isolated : goal.returns-clause-not_isolated
unfolding read_addr read_v4 read_v6 read_ipv4 read_ipv6 read_number read_octet read_segment read_segments digits escape_byte has_rule
returns-clause-not_isolated c = ap (map_text_after by_default (codes "web")) (script_read lines _ refl refl) ∙ refl

pub returns-clause-nobody : goal.returns-clause-nobody
unfolding read_addr read_v4 read_v6 read_ipv4 read_ipv6 read_number read_octet read_segment read_segments digits escape_byte has_rule
returns-clause-nobody c = ap (map_text_after by_default (codes "api")) (script_read lines _ refl refl) ∙ refl

pub returns-clause-lives : goal.returns-clause-lives
unfolding read_addr read_v4 read_v6 read_ipv4 read_ipv6 read_number read_octet read_segment read_segments digits escape_byte has_rule
returns-clause-lives c = ap (λ readings. is_some (endpoint_after by_default (codes "db") readings)) (script_read lines _ refl refl) ∙ refl

pub returns-clause-lives_not : goal.returns-clause-lives_not
unfolding read_addr read_v4 read_v6 read_ipv4 read_ipv6 read_number read_octet read_segment read_segments digits escape_byte has_rule
returns-clause-lives_not c = ap (λ readings. is_some (endpoint_after by_default (codes "api") readings)) (script_read lines _ refl refl) ∙ refl

pub returns-clause-ports : goal.returns-clause-ports
unfolding digits
returns-clause-ports c = refl
