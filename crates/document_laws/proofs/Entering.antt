-- Entries are read again, and nothing is wrong in a well-formed one.
use Rattle.std.proofs.Common.{◌≡◌, ℕ, List, [], ◌∷◌, codes, not, Option, None, Some, option_map, IfSome, IsTrue, refl}
use Rattle.std.specs.List.{list_any}
use Rattle.serde_json.specs.Data.{string}
use Rattle.document_laws.proofs.Again.{items_come_again, list_again, text_again, text_comes_again, whole_again}
use Rattle.document_laws.proofs.Named.{has}
use Rattle.document_laws.proofs.Nothing.{IsSound, all_sound, any_if_there, each_sound, passes, sound_at, sound_if_there, sound_object, sound_unless_empty}
use Rattle.document_laws.proofs.Selecting.{any_text_sound, selector_again, selector_sound, text_is_again}
use Rattle.document_laws.proofs.Shapes.{entry_is, entry_shape, member_shape, number_shape, port_is, port_item_is, port_item_shape, port_shape, port_text_shape, protocol_shape, set_is, set_shape}
use Rattle.document_laws.specs.Fields.{unless_empty}
use Rattle.document_laws.specs.WellFormed.{IsWellFormedEntry, IsWellFormedItem, IsWellFormedPort}
use Rattle.document_laws.specs.Written.{cidr_set_document, cidr_set_fields, entry_document, entry_fields, port_document, port_fields, port_item_document, port_item_fields, selector_document, whole_document}
use Rattle.pol_json.specs.Build.{cidr_set_of, entry_of, port_item_of, port_of, selector_of, text_of}
use Rattle.pol_json.specs.Places.{cause_of, is_icmp, left_out}
use Rattle.pol_json.specs.Texts.{is_letter}
use Rattle.pol_ports.specs.declared.Direction.{Direction}
use Rattle.pol_ports.specs.declared.Direction.TheVariants.{Ingress, Egress}
use Rattle.pol_rule.specs.declared.raw.RawCidrSet.{RawCidrSet}
use Rattle.pol_rule.specs.declared.raw.RawEntry.{RawEntry}
use Rattle.pol_rule.specs.declared.raw.RawPort.{RawPort}
use Rattle.pol_rule.specs.declared.raw.RawPortItem.{RawPortItem}

-- ---- they are read again

pub cidr_set_again : (s : RawCidrSet) → cidr_set_of (cidr_set_document s) ≡ s
cidr_set_again s =
    let except = items_come_again text_of string text_is_again (codes "except") (cidr_set_document s) s.except (has (codes "except") (cidr_set_fields s)) in
    λ i. record { cidr = s.cidr; except = except i }

port_again : (p : RawPort) → port_of (port_document p) ≡ p
port_again p =
    let port = text_again (codes "port") (port_document p) p.port (has (codes "port") (port_fields p)) in
    let protocol = text_comes_again (codes "protocol") (port_document p) p.protocol (has (codes "protocol") (port_fields p)) in
    let end_port = whole_again (codes "endPort") (port_document p) p.end_port (has (codes "endPort") (port_fields p)) in
    λ i. record { port = port i; protocol = protocol i; end_port = end_port i }

port_item_again : (item : RawPortItem) → port_item_of (port_item_document item) ≡ item
port_item_again item =
    let ports = items_come_again port_of port_document port_again (codes "ports") (port_item_document item) item.ports (has (codes "ports") (port_item_fields item)) in
    λ i. record { ports = ports i }

pub entry_again : (dir : Direction) (e : RawEntry) → entry_of dir (entry_document dir e) ≡ e
entry_again Ingress e =
    let d = entry_document Ingress e in
    let fields = entry_fields Ingress e in
    let endpoints = list_again selector_of selector_document selector_again (codes "fromEndpoints") d e.endpoints (has (codes "fromEndpoints") fields) in
    let cidrs = list_again text_of string text_is_again (codes "fromCIDR") d e.cidrs (has (codes "fromCIDR") fields) in
    let cidr_sets = list_again cidr_set_of cidr_set_document cidr_set_again (codes "fromCIDRSet") d e.cidr_sets (has (codes "fromCIDRSet") fields) in
    let entities = list_again text_of string text_is_again (codes "fromEntities") d e.entities (has (codes "fromEntities") fields) in
    let ports = items_come_again port_item_of port_item_document port_item_again (codes "toPorts") d e.ports (has (codes "toPorts") fields) in
    λ i. record { endpoints = endpoints i; cidrs = cidrs i; cidr_sets = cidr_sets i; entities = entities i; ports = ports i }
entry_again Egress e =
    let d = entry_document Egress e in
    let fields = entry_fields Egress e in
    let endpoints = list_again selector_of selector_document selector_again (codes "toEndpoints") d e.endpoints (has (codes "toEndpoints") fields) in
    let cidrs = list_again text_of string text_is_again (codes "toCIDR") d e.cidrs (has (codes "toCIDR") fields) in
    let cidr_sets = list_again cidr_set_of cidr_set_document cidr_set_again (codes "toCIDRSet") d e.cidr_sets (has (codes "toCIDRSet") fields) in
    let entities = list_again text_of string text_is_again (codes "toEntities") d e.entities (has (codes "toEntities") fields) in
    let ports = items_come_again port_item_of port_item_document port_item_again (codes "toPorts") d e.ports (has (codes "toPorts") fields) in
    λ i. record { endpoints = endpoints i; cidrs = cidrs i; cidr_sets = cidr_sets i; entities = entities i; ports = ports i }

-- ---- nothing is wrong

set_cause : (cidr : List ℕ) (except : List (List ℕ)) → cause_of set_shape (cidr_set_document (record { cidr = cidr; except = except })) ≡ None
set_cause cidr [] = refl
set_cause cidr (text ∷ others) = refl

set_sound : (s : RawCidrSet) → IsSound set_shape (cidr_set_document s)
set_sound s =
    let except = sound_unless_empty string (member_shape set_shape (codes "except")) s.except tt (all_sound _ any_text_sound s.except) in
    sound_object set_shape set_is (cidr_set_fields s) (set_cause s.cidr s.except) (any_text_sound s.cidr, (except, tt))

pub whole_sound : (n : Option ℕ) → IfSome (option_map whole_document n) (IsSound number_shape)
whole_sound None = tt
whole_sound (Some n) = sound_at number_shape (whole_document n) refl refl

port_text_sound : (text : List ℕ) → IsTrue (not (list_any is_letter text)) → IsSound port_text_shape (string text)
port_text_sound text well = sound_at port_text_shape (string text) (passes (not (list_any is_letter text)) (left_out (codes "named-port")) well) refl

protocol_sound : (text : List ℕ) → IsTrue (not (is_icmp text)) → IfSome (unless_empty string text) (IsSound protocol_shape)
protocol_sound [] well = tt
protocol_sound (byte ∷ rest) well =
    sound_at protocol_shape (string (byte ∷ rest)) (passes (not (is_icmp (byte ∷ rest))) (left_out (codes "icmp")) well) refl

port_cause : (port protocol : List ℕ) (end : Option ℕ)
    → cause_of port_shape (port_document (record { port = port; protocol = protocol; end_port = end })) ≡ None
port_cause port protocol None = refl
port_cause port protocol (Some n) = refl

port_sound : (p : RawPort) → IsWellFormedPort p → IsSound port_shape (port_document p)
port_sound p well =
    sound_object port_shape port_is (port_fields p) (port_cause p.port p.protocol p.end_port)
    (whole_sound p.end_port, (port_text_sound p.port well.port_text, (protocol_sound p.protocol well.protocol, tt)))

port_item_sound : (item : RawPortItem) → IsWellFormedItem item → IsSound port_item_shape (port_item_document item)
port_item_sound item well =
    let ports = sound_unless_empty port_document (member_shape port_item_shape (codes "ports")) item.ports tt (each_sound IsWellFormedPort _ port_sound item.ports well) in
    sound_object port_item_shape port_item_is (port_item_fields item) refl (ports, tt)

entry_sound_in : (e : RawEntry) → IsWellFormedEntry e → IsSound (entry_shape Ingress) (entry_document Ingress e)
entry_sound_in e well =
    let cidrs = sound_if_there string (member_shape (entry_shape Ingress) (codes "fromCIDR")) e.cidrs tt (any_if_there _ any_text_sound e.cidrs) in
    let sets = sound_if_there cidr_set_document (member_shape (entry_shape Ingress) (codes "fromCIDRSet")) e.cidr_sets tt (any_if_there _ set_sound e.cidr_sets) in
    let endpoints = sound_if_there selector_document (member_shape (entry_shape Ingress) (codes "fromEndpoints")) e.endpoints tt (any_if_there _ selector_sound e.endpoints) in
    let entities = sound_if_there string (member_shape (entry_shape Ingress) (codes "fromEntities")) e.entities tt (any_if_there _ any_text_sound e.entities) in
    let ports = sound_unless_empty port_item_document (member_shape (entry_shape Ingress) (codes "toPorts")) e.ports tt (each_sound IsWellFormedItem _ port_item_sound e.ports well) in
    sound_object (entry_shape Ingress) (entry_is Ingress) (entry_fields Ingress e) refl (cidrs, (sets, (endpoints, (entities, (ports, tt)))))

entry_sound_out : (e : RawEntry) → IsWellFormedEntry e → IsSound (entry_shape Egress) (entry_document Egress e)
entry_sound_out e well =
    let cidrs = sound_if_there string (member_shape (entry_shape Egress) (codes "toCIDR")) e.cidrs tt (any_if_there _ any_text_sound e.cidrs) in
    let sets = sound_if_there cidr_set_document (member_shape (entry_shape Egress) (codes "toCIDRSet")) e.cidr_sets tt (any_if_there _ set_sound e.cidr_sets) in
    let endpoints = sound_if_there selector_document (member_shape (entry_shape Egress) (codes "toEndpoints")) e.endpoints tt (any_if_there _ selector_sound e.endpoints) in
    let entities = sound_if_there string (member_shape (entry_shape Egress) (codes "toEntities")) e.entities tt (any_if_there _ any_text_sound e.entities) in
    let ports = sound_unless_empty port_item_document (member_shape (entry_shape Egress) (codes "toPorts")) e.ports tt (each_sound IsWellFormedItem _ port_item_sound e.ports well) in
    sound_object (entry_shape Egress) (entry_is Egress) (entry_fields Egress e) refl (cidrs, (sets, (endpoints, (entities, (ports, tt)))))

pub entry_sound : (dir : Direction) (e : RawEntry) → IsWellFormedEntry e → IsSound (entry_shape dir) (entry_document dir e)
entry_sound Ingress e well = entry_sound_in e well
entry_sound Egress e well = entry_sound_out e well
