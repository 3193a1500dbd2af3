-- The document of a generated policy says what it is to say.
use Rattle.std.proofs.Common.{◌≡◌, ℕ, ◌^◌, ◌<◌, ◌≤◌, Bool, true, false, cond, not, ◌||◌, codes, List, [], ◌∷◌, ◌++◌, length, Option, Some, None, is_none, option_map, option_and_then, Ok, refl, ap, ap₂, ◌∙◌, arith}
use Rattle.std.specs.Cmp.Derive.{both_true}
use Rattle.std.specs.Fmt.{decimal}
use Rattle.std.specs.List.{cons_option}
use Rattle.std.specs.Option.{option_or}
use Rattle.std.specs.Str.Parse.{digits_value}
use Rattle.std.proofs.lemmas.Bool.{le-leb, lt-ltb, ne_eqb}
use Rattle.std.proofs.lemmas.Fmt.{decimal_is_IsNumeral}
use Rattle.pol_json.specs.declared.fault.DocFault.TheVariants.{NoName}
use Rattle.pol_json.specs.Build.{policy_of}
use Rattle.pol_json.specs.Document.{head_fault, places_of, read_document, unless_fault}
use Rattle.pol_json.specs.Path.{fault_of}
use Rattle.pol_json.specs.Places.{Step, named, numbered, Cause, Found, first_found, left_out, wrong_shape}
use Rattle.pol_json.specs.Texts.{is_dns_name}
use Rattle.pol_labels.specs.declared.requirement.Operator.TheVariants.{OneOf}
use Rattle.pol_labels.specs.declared.requirement.Requirement.{Requirement}
use Rattle.pol_ports.specs.PortRange.{range_from}
use Rattle.pol_ports.specs.declared.PortRange.{PortRange}
use Rattle.pol_ports.specs.declared.Proto.TheVariants.{Tcp}
use Rattle.pol_rule.specs.Plain.{raw_rule_of, rule_of}
use Rattle.pol_rule.specs.declared.cause.RuleCause.TheVariants as rule
use Rattle.pol_rule.specs.declared.policy.Entry.{Entry}
use Rattle.pol_rule.specs.declared.policy.Peer.TheVariants.{Labels}
use Rattle.pol_rule.specs.declared.policy.Peers.TheVariants.{Listed}
use Rattle.pol_rule.specs.declared.policy.Policy.{Policy}
use Rattle.pol_rule.specs.declared.policy.PolicyKey.{PolicyKey}
use Rattle.pol_rule.specs.declared.policy.PortSpec.{PortSpec}
use Rattle.pol_rule.specs.declared.policy.Rule.{Rule}
use Rattle.pol_rule.specs.declared.policy.Section.{Section}
use Rattle.pol_rule.specs.declared.policy.Section.TheVariants as section
use Rattle.pol_rule.specs.declared.raw.RawEntry.{RawEntry}
use Rattle.pol_rule.specs.declared.raw.RawPolicy.{RawPolicy}
use Rattle.pol_rule.specs.declared.raw.RawPort.{RawPort}
use Rattle.pol_rule.specs.declared.raw.RawPortItem.{RawPortItem}
use Rattle.pol_rule.specs.declared.raw.RawRule.{RawRule}
use Rattle.pol_rule.specs.declared.raw.RawSelector.{RawSelector}
use Rattle.pol_sanitize.specs.Faults.{cause, entry_causes, fault_at, first_cause, of_entry}
use Rattle.pol_sanitize.specs.Ports.{is_number_text, number_to, port_max, port_of, ports_of, protocol_of, range_of, range_to}
use Rattle.pol_sanitize.specs.Sanitized.{judged, sanitized_of}
use Rattle.pol_sanitize.specs.Sanitized.{policy_of as policy_said}
use Rattle.pol_script.specs.declared.line_fault.LineFault.TheVariants as fault
use Rattle.pol_script.specs.Commands.{policy_of as policy_read}
use Rattle.pol_script.specs.Steps.{◌>>=◌, fault_as}
use Rattle.pol_generated.proofs.Digits.{IsDigits, decimal_digits, digits_of, dns_named, no_letter}
use Rattle.pol_generated.proofs.PolicyText.{Numbers, AreDigits, policy_data}

-- ---- nothing is wrong in the document

dns_name : (text : List ℕ) → IsDigits text → is_dns_name (codes "p" ++ text) ≡ true
dns_name text is =
    both_true (both_true (le-leb 1 (length (codes "p" ++ text)) (omega arith)) (le-leb (length (codes "p" ++ text)) 253 (omega (arith, is.few)))) (dns_named text is)

-- what a place would be told for
abbrev told : List Step → Option Cause → Option Found
told path cause = option_map (λ c. let found : Found = record { path = path; cause = c } in found) cause

-- of all places, the name and the port alone are judged by their text: whether the one is a name, and the other has a
-- letter
abbrev judged_by : List ℕ → Bool → Bool → Option Found
judged_by section is_named has_letter =
    option_or (told (named (codes "metadata") ∷ named (codes "name") ∷ []) (cond is_named None (Some wrong_shape)))
    (option_or (told (named (codes "spec") ∷ named section ∷ numbered 0 ∷ named (codes "toPorts") ∷ numbered 0 ∷ named (codes "ports") ∷ numbered 0 ∷ named (codes "port") ∷ []) (cond (not has_letter) None (Some (left_out (codes "named-port"))))) None)

nothing_wrong : (denies : Bool) (n : Numbers) (last : ℕ) → AreDigits n → first_found (places_of (policy_data denies n last)) ≡ None
nothing_wrong true n last is = ap₂ (judged_by (codes "ingressDeny")) (dns_name n.name is.name) (no_letter n.first is.first)
nothing_wrong false n last is = ap₂ (judged_by (codes "ingress")) (dns_name n.name is.name) (no_letter n.first is.first)

-- ---- the policy as it is written

abbrev raw_selector : List ℕ → RawSelector
raw_selector app = record { labels = record { key = codes "app"; value = codes "a" ++ app } ∷ []; expressions = [] }

abbrev raw_port : List ℕ → ℕ → RawPort
raw_port first last = record { port = first; protocol = codes "TCP"; end_port = Some last }

abbrev raw_items : List ℕ → ℕ → List RawPortItem
raw_items first last = record { ports = raw_port first last ∷ [] } ∷ []

abbrev raw_entry : Numbers → ℕ → RawEntry
raw_entry n last =
    record { endpoints = Some (raw_selector n.from ∷ []); cidrs = None; cidr_sets = None; entities = None; ports = raw_items n.first last }

abbrev raw_rule : Bool → Numbers → ℕ → RawRule
raw_rule true n last = record (raw_rule_of (Some (raw_selector n.app))) { ingress_deny = raw_entry n last ∷ [] }
raw_rule false n last = record (raw_rule_of (Some (raw_selector n.app))) { ingress = raw_entry n last ∷ [] }

abbrev key_named : List ℕ → PolicyKey
key_named name = record { cluster_wide = false; namespace = codes "default"; name = codes "p" ++ name }

abbrev raw_policy : Bool → Numbers → ℕ → RawPolicy
raw_policy denies n last = record { key = key_named n.name; rules = raw_rule denies n last ∷ [] }

built : (denies : Bool) (n : Numbers) (last : ℕ) → policy_of (policy_data denies n last) ≡ raw_policy denies n last
built true n last = refl
built false n last = refl

-- its name is no empty text
head_right : (denies : Bool) (n : Numbers) (last : ℕ) → head_fault (policy_data denies n last) ≡ None
head_right denies n last = ap (λ b. cond (not b) (Some NoName) None) (lt-ltb 0 (length (codes "p" ++ n.name)) (omega arith))

document_read : (denies : Bool) (n : Numbers) (last : ℕ) → AreDigits n → read_document (policy_data denies n last) ≡ Ok (raw_policy denies n last)
document_read denies n last is =
    let d = policy_data denies n last in
    ap₂ (λ h o. unless_fault (option_or h (option_map fault_of o)) (policy_of d)) (head_right denies n last) (nothing_wrong denies n last is)
    ∙ ap Ok (built denies n last)

-- ---- the policy as it is meant

range_read : (first last : ℕ) → 1 ≤ first → first ≤ 65535 → last ≤ 65535 → range_of (raw_port (decimal first) last) ≡ Some (range_from first last)
range_read first last some low high =
    let fits : first < 2 ^ 64 = omega (arith, low) in
    let digits = digits_of first (omega (arith, low)) in
    let text : is_number_text (decimal first) ≡ true =
    both_true (both_true (lt-ltb 0 (length (decimal first)) (omega (arith, digits.some))) (le-leb (length (decimal first)) 5 digits.few)) (decimal_digits (decimal first) digits) in
    let port : port_of (decimal first) ≡ Some first =
    ap (λ b. cond b (number_to port_max (digits_value 10 (decimal first))) None) text
    ∙ ap (number_to port_max) (decimal_is_IsNumeral first fits).1
    ∙ ap (λ b. cond b (Some first) None) (le-leb first 65535 low) in
    ap (λ b. option_and_then (λ end. option_map (range_to end) (port_of (decimal first))) (cond b (Some last) None)) (le-leb last 65535 high)
    ∙ ap (option_map (range_to last)) port
    ∙ ap (λ b. Some (cond b (range_from 0 port_max) (range_from first last))) (ne_eqb first 0 (λ e. omega (arith, some, e)))

-- the digits of a policy, whose first port is a number from 1 to 65535
pub record Written (n : Numbers) (first last : ℕ) : Type 0 where
  pub digits : AreDigits n
  pub is_first : n.first ≡ decimal first
  pub some : 1 ≤ first
  pub low : first ≤ 65535
  pub high : last ≤ 65535

range_there : (n : Numbers) (first last : ℕ) → Written n first last → range_of (raw_port n.first last) ≡ Some (range_from first last)
range_there n first last w = ap (λ t. range_of (raw_port t last)) w.is_first ∙ range_read first last w.some w.low w.high

entry_right : (n : Numbers) (first last : ℕ) → Written n first last → first_cause (entry_causes (raw_entry n last)) ≡ None
entry_right n first last w =
    ap (λ (o : Option PortRange). first_cause (cause rule.BadPort (is_none o || false) ∷ cause rule.BadProtocol false ∷ cause rule.TooManyPorts false ∷ cause rule.EmptyPorts false ∷ []))
    (range_there n first last w)

abbrev specs_of : ℕ → ℕ → List PortSpec
specs_of first last = record { proto = Some Tcp; range = range_from first last } ∷ []

ports_said : (n : Numbers) (first last : ℕ) → Written n first last → ports_of (raw_items n.first last) ≡ specs_of first last
ports_said n first last w =
    ap (λ (o : Option PortRange). cons_option
    (option_and_then (λ range. option_map (λ proto. let spec : PortSpec = record { proto = proto; range = range } in spec) (protocol_of (codes "TCP"))) o) [])
    (range_there n first last w)

abbrev pods_named : List ℕ → List Requirement
pods_named app =
    record { any_source = true; source = []; key = codes "app"; op = OneOf; values = (codes "a" ++ app) ∷ [] }
    ∷ record { any_source = false; source = codes "k8s"; key = codes "io.kubernetes.pod.namespace"; op = OneOf; values = codes "default" ∷ [] }
    ∷ []

abbrev entry_with : List ℕ → List PortSpec → Entry
entry_with from ports = record { peers = Listed (Labels (pods_named from) ∷ []); ports = ports }

abbrev pub rule_with : Bool → List ℕ → Entry → Rule
rule_with true app entry = record (rule_of (pods_named app)) { ingress_deny = entry ∷ [] }
rule_with false app entry = record (rule_of (pods_named app)) { ingress = entry ∷ [] }

abbrev pub policy_with : Bool → Numbers → List PortSpec → Policy
policy_with denies n ports = record { key = key_named n.name; rules = rule_with denies n.app (entry_with n.from ports) ∷ [] }

said : (denies : Bool) (n : Numbers) (last : ℕ) → policy_said (raw_policy denies n last) ≡ policy_with denies n (ports_of (raw_items n.first last))
said true n last = refl
said false n last = refl

right_at : (at : Section) (n : Numbers) (first last : ℕ) → Written n first last
    → option_or (option_or (option_or (option_map (fault_at (of_entry 0 at 0)) (first_cause (entry_causes (raw_entry n last)))) None) None) None ≡ None
right_at at n first last w =
    ap (λ o. option_or (option_or (option_or (option_map (fault_at (of_entry 0 at 0)) o) None) None) None) (entry_right n first last w)

accepted : (denies : Bool) (n : Numbers) (first last : ℕ) → Written n first last
    → sanitized_of (raw_policy denies n last) ≡ Ok (policy_said (raw_policy denies n last))
accepted true n first last w = ap (λ o. judged o (policy_said (raw_policy true n last))) (right_at section.IngressDeny n first last w)
accepted false n first last w = ap (λ o. judged o (policy_said (raw_policy false n last))) (right_at section.Ingress n first last w)

pub policy_is_read : (denies : Bool) (n : Numbers) (first last : ℕ) → Written n first last
    → policy_read (policy_data denies n last) ≡ Ok (policy_with denies n (specs_of first last))
policy_is_read denies n first last w =
    ap (λ r. fault_as fault.Doc r >>= λ raw. fault_as fault.Rule (sanitized_of raw)) (document_read denies n last w.digits)
    ∙ ap (fault_as fault.Rule) (accepted denies n first last w)
    ∙ ap Ok (said denies n last ∙ ap (policy_with denies n) (ports_said n first last w))
