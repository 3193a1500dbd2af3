-- What a line asks for is well formed: addresses and prefixes within their bits, and labels that are a label set.
use Rattle.std.proofs.Common.{◌≡◌, ℕ, Bool, true, false, cond, not, List, [], ◌∷◌, ◌++◌, map, filter_map, codes, Option, None, Some, ok_or, option_map, option_and_then, Result, Ok, Err, refl}
use Rattle.std.specs.List.{AllByRecursion, cons_option, flat_map}
use Rattle.serde_json.specs.Data.{Data}
use Rattle.pol_addr.specs.Address.{IsAddr, read_addr}
use Rattle.pol_addr.specs.Cidr.{IsPrefix}
use Rattle.pol_addr.specs.Prefix.{read_prefix, same_prefix}
use Rattle.pol_addr.specs.declared.address.Addr.{Addr}
use Rattle.pol_addr.specs.declared.network.Prefix.{Prefix}
use Rattle.pol_addr.proofs.HexTexts.{IsAddr-writes, read_addr_sound}
use Rattle.pol_addr.proofs.PrefixTexts.{IsPrefix-read_prefix}
use Rattle.pol_data.proofs.Every.{every-append, every-flat_map, every-kept, every-weaker}
use Rattle.pol_json.specs.Build.{policy_of as raw_policy_of}
use Rattle.pol_json.specs.Document.{first_fault as document_fault, unless_fault}
use Rattle.pol_json.specs.Members.{text_at}
use Rattle.pol_json.specs.Network.{is_network_policy, network_fault}
use Rattle.pol_json.specs.declared.fault.DocFault.{DocFault}
use Rattle.pol_labels.specs.LabelText.{read_label}
use Rattle.pol_labels.specs.Order.{IsLabelSet, label_set_of}
use Rattle.pol_labels.specs.declared.label.Label.{Label}
use Rattle.pol_labels.specs.declared.requirement.Requirement.{Requirement}
use Rattle.pol_labels.proofs.SetLaws.{label_set_of-made}
use Rattle.pol_model.specs.declared.request.Remote.{Remote}
use Rattle.pol_model.specs.declared.request.Request.TheVariants as request
use Rattle.pol_model_laws.specs.Valid.{IsValid}
use Rattle.pol_netpol.specs.Document.{of_document, of_object, raw_of}
use Rattle.pol_netpol.specs.Faults.{first_fault as network_object_fault}
use Rattle.pol_netpol.specs.Meaning.{entries_of, isolates}
use Rattle.pol_netpol.specs.Translated as translated
use Rattle.pol_netpol.specs.declared.raw.RawNetEntry.{RawNetEntry}
use Rattle.pol_netpol.specs.declared.raw.RawNetPeer.{RawNetPeer}
use Rattle.pol_netpol.specs.declared.raw.RawNetworkPolicy.{RawNetworkPolicy}
use Rattle.pol_ports.specs.declared.Direction.{Direction}
use Rattle.pol_ports.specs.declared.Direction.TheVariants.{Ingress, Egress}
use Rattle.pol_ports.specs.declared.Proto.{Proto}
use Rattle.pol_rule.specs.Listed.{listed_peers, peers_in, rule_entries, rule_peers}
use Rattle.pol_rule.specs.Prefixes.{distinct, peer_prefixes}
use Rattle.pol_rule.specs.declared.fault.RuleFault.{RuleFault}
use Rattle.pol_rule.specs.declared.policy.Entity.{Entity}
use Rattle.pol_rule.specs.declared.policy.Entry.{Entry}
use Rattle.pol_rule.specs.declared.policy.Peer.{Peer}
use Rattle.pol_rule.specs.declared.policy.Peer.TheVariants as peer
use Rattle.pol_rule.specs.declared.policy.Peers.TheVariants.{Every, Listed}
use Rattle.pol_rule.specs.declared.policy.Policy.{Policy}
use Rattle.pol_rule.specs.declared.policy.PolicyKey.{PolicyKey}
use Rattle.pol_rule.specs.declared.policy.Rule.{Rule}
use Rattle.pol_rule.specs.declared.raw.RawCidrSet.{RawCidrSet}
use Rattle.pol_rule.specs.declared.raw.RawEntry.{RawEntry}
use Rattle.pol_rule.specs.declared.raw.RawRule.{RawRule}
use Rattle.pol_rule.specs.declared.raw.RawSelector.{RawSelector}
use Rattle.pol_sanitize.specs.Faults.{first_fault}
use Rattle.pol_sanitize.specs.Peers.{cidr_peer, endpoint_peer, entity_of, entity_peer, exceptions_of, has_no_peer_member, listed, set_peer}
use Rattle.pol_sanitize.specs.Peers as peers
use Rattle.pol_sanitize.specs.Sanitized as sanitized
use Rattle.pol_sanitize.specs.Selectors.{is_bad_selector, peer_selector, subject_selector}
use Rattle.answer_laws.proofs.Words.{words_hold}
use Rattle.pol_script.proofs.Given.{AllHold, op_holds, there}
use Rattle.pol_script.specs.Commands.{address_of, asks, cilium_policy_of, commit, labels_of, make, net_fault, network_policy_of, policy_of, query_from, remote_of}
use Rattle.pol_script.specs.Reading.{object_of, read_object, read_op, reading_of}
use Rattle.pol_script.specs.Steps.{◌>>=◌, each, fault_as}
use Rattle.pol_script.specs.Table.{ops, rows}
use Rattle.pol_script.specs.declared.command.Command.{Command}
use Rattle.pol_script.specs.declared.command.Command.TheVariants as command
use Rattle.pol_script.specs.declared.line_fault.LineFault.{LineFault}
use Rattle.pol_script.specs.declared.line_fault.LineFault.TheVariants as fault

-- ---- peers

abbrev ArePrefixes : List Prefix → Type 0
ArePrefixes prefixes = AllByRecursion IsPrefix prefixes

abbrev IsValidPeer : Peer → Type 0
IsValidPeer (peer.Labels selector) = Unit {0}
IsValidPeer (peer.Cidr prefix except) = IsPrefix prefix × ArePrefixes except
IsValidPeer (peer.Entity entity) = Unit {0}

abbrev IfValid : Option Peer → Type 0
IfValid None = Unit {0}
IfValid (Some p) = IsValidPeer p

abbrev AreValidPeers : List Peer → Type 0
AreValidPeers ps = AllByRecursion IsValidPeer ps

one_more : (o : Option Peer) (others : List Peer) → IfValid o → AreValidPeers others → AreValidPeers (cons_option o others)
one_more None others own rest = rest
one_more (Some p) others own rest = (own, rest)

every_read : {X : Type 0} (f : X → Option Peer) → ((x : X) → IfValid (f x)) → (xs : List X) → AreValidPeers (filter_map f xs)
every_read f each [] = tt
every_read f each (x ∷ xs) = one_more (f x) (filter_map f xs) (each x) (every_read f each xs)

prefix_more : (text : List ℕ) (o : Option Prefix) (others : List Prefix) → read_prefix text ≡ o → ArePrefixes others → ArePrefixes (cons_option o others)
prefix_more text None others is rest = rest
prefix_more text (Some p) others is rest = (IsPrefix-read_prefix text p is, rest)

prefixes_read : (said : List (List ℕ)) → ArePrefixes (filter_map read_prefix said)
prefixes_read [] = tt
prefixes_read (text ∷ said) = prefix_more text (read_prefix text) (filter_map read_prefix said) refl (prefixes_read said)

cidr_by : (text : List ℕ) (o : Option Prefix) → read_prefix text ≡ o → IfValid (option_map (λ prefix. peer.Cidr prefix []) o)
cidr_by text None is = tt
cidr_by text (Some p) is = (IsPrefix-read_prefix text p is, tt)

cidr_valid : (text : List ℕ) → IfValid (cidr_peer text)
cidr_valid text = cidr_by text (read_prefix text) refl

set_by : (set : RawCidrSet) (o : Option Prefix) → read_prefix set.cidr ≡ o → IfValid (option_map (λ prefix. peer.Cidr prefix (exceptions_of set)) o)
set_by set None is = tt
set_by set (Some p) is = (IsPrefix-read_prefix set.cidr p is, prefixes_read set.except)

set_valid : (set : RawCidrSet) → IfValid (set_peer set)
set_valid set = set_by set (read_prefix set.cidr) refl

endpoint_by : (key : PolicyKey) (selector : RawSelector) (b : Bool) → IfValid (cond b None (Some (peer.Labels (peer_selector key selector))))
endpoint_by key selector true = tt
endpoint_by key selector false = tt

endpoint_valid : (key : PolicyKey) (selector : RawSelector) → IfValid (endpoint_peer key selector)
endpoint_valid key selector = endpoint_by key selector (is_bad_selector selector)

entity_by : (o : Option Entity) → IfValid (option_map peer.Entity o)
entity_by None = tt
entity_by (Some entity) = tt

entity_valid : (text : List ℕ) → IfValid (entity_peer text)
entity_valid text = entity_by (entity_of text)

-- ---- entries and rules

abbrev HasValidPeers : Entry → Type 0
HasValidPeers entry = AreValidPeers (peers_in entry.peers)

entry_by : (key : PolicyKey) (raw : RawEntry) (b : Bool) → AreValidPeers (peers_in (cond b Every (Listed (peers.listed_peers key raw))))
entry_by key raw true = tt
entry_by key raw false =
    let endpoints = filter_map (endpoint_peer key) (listed raw.endpoints) in
    let cidrs = filter_map cidr_peer (listed raw.cidrs) in
    let sets = filter_map set_peer (listed raw.cidr_sets) in
    let entities = filter_map entity_peer (listed raw.entities) in
    every-append IsValidPeer (endpoints ++ cidrs ++ sets) entities
    (every-append IsValidPeer (endpoints ++ cidrs) sets
    (every-append IsValidPeer endpoints cidrs (every_read (endpoint_peer key) (endpoint_valid key) (listed raw.endpoints)) (every_read cidr_peer cidr_valid (listed raw.cidrs)))
    (every_read set_peer set_valid (listed raw.cidr_sets)))
    (every_read entity_peer entity_valid (listed raw.entities))

section_valid : (key : PolicyKey) (raws : List RawEntry) → AllByRecursion HasValidPeers (sanitized.section_of key raws)
section_valid key [] = tt
section_valid key (raw ∷ raws) = (entry_by key raw (has_no_peer_member raw), section_valid key raws)

abbrev HasValidEntries : Rule → Type 0
HasValidEntries rule = AllByRecursion HasValidPeers (rule_entries rule)

four : (a b c d : List Entry) → AllByRecursion HasValidPeers a → AllByRecursion HasValidPeers b → AllByRecursion HasValidPeers c → AllByRecursion HasValidPeers d
    → AllByRecursion HasValidPeers (a ++ b ++ c ++ d)
four a b c d p q r s = every-append HasValidPeers (a ++ b ++ c) d (every-append HasValidPeers (a ++ b) c (every-append HasValidPeers a b p q) r) s

rule_valid : (key : PolicyKey) (raw : RawRule) (subject : List Requirement) → HasValidEntries (sanitized.rule_with key raw subject)
rule_valid key raw subject =
    four (sanitized.section_of key raw.ingress) (sanitized.section_of key raw.ingress_deny) (sanitized.section_of key raw.egress) (sanitized.section_of key raw.egress_deny)
    (section_valid key raw.ingress) (section_valid key raw.ingress_deny) (section_valid key raw.egress) (section_valid key raw.egress_deny)

one_rule : (key : PolicyKey) (raw : RawRule) (o : Option RawSelector) (rules : List Rule) → AllByRecursion HasValidEntries rules
    → AllByRecursion HasValidEntries (cons_option (option_map (λ selector. sanitized.rule_with key raw (subject_selector key selector)) o) rules)
one_rule key raw None rules rest = rest
one_rule key raw (Some selector) rules rest = (rule_valid key raw (subject_selector key selector), rest)

rules_valid : (key : PolicyKey) (raws : List RawRule) → AllByRecursion HasValidEntries (filter_map (sanitized.rule_of key) raws)
rules_valid key [] = tt
rules_valid key (raw ∷ raws) = one_rule key raw raw.subject (filter_map (sanitized.rule_of key) raws) (rules_valid key raws)

-- ---- of a NetworkPolicy

pods_by : (o : Option (List Requirement)) → IfValid (option_map peer.Labels o)
pods_by None = tt
pods_by (Some requirements) = tt

network_peer_by : (o : Option RawCidrSet) (own : List ℕ) (raw : RawNetPeer) → IfValid (translated.peer_by o own raw)
network_peer_by (Some block) own raw = set_valid block
network_peer_by None own raw = pods_by _

network_peers : (own : List ℕ) (raws : List RawNetPeer) → AreValidPeers (peers_in (translated.peers_of own raws))
network_peers own [] = tt
network_peers own (raw ∷ raws) = every_read (translated.peer_of own) (λ r. network_peer_by r.block own r) (raw ∷ raws)

network_entries : (own : List ℕ) (raws : List RawNetEntry) → AllByRecursion HasValidPeers (map (translated.entry_of own) raws)
network_entries own [] = tt
network_entries own (raw ∷ raws) = (network_peers own raw.peers, network_entries own raws)

network_section : (own : List ℕ) (raws : List RawNetEntry) (b : Bool) → AllByRecursion HasValidPeers (cond b (map (translated.entry_of own) raws) [])
network_section own raws true = network_entries own raws
network_section own raws false = tt

network_rule : (raw : RawNetworkPolicy) (subject : List Requirement) → HasValidEntries (translated.rule_with raw subject)
network_rule raw subject =
    four (translated.section_of raw Ingress) [] (translated.section_of raw Egress) [] (network_section raw.key.namespace (entries_of Ingress raw) (isolates raw Ingress)) tt
    (network_section raw.key.namespace (entries_of Egress raw) (isolates raw Egress)) tt

network_rules : (raw : RawNetworkPolicy) (o : Option (List Requirement)) → AllByRecursion HasValidEntries (cons_option (option_map (translated.rule_with raw) o) [])
network_rules raw None = tt
network_rules raw (Some subject) = (network_rule raw subject, tt)

-- ---- policies

prefixes_of : (p : Peer) → IsValidPeer p → ArePrefixes (peer_prefixes p)
prefixes_of (peer.Labels selector) valid = tt
prefixes_of (peer.Cidr prefix except) valid = valid
prefixes_of (peer.Entity entity) valid = tt

distinct_prefixes : (prefixes : List Prefix) → ArePrefixes prefixes → ArePrefixes (distinct prefixes)
distinct_prefixes [] valid = tt
distinct_prefixes (prefix ∷ others) valid = (valid.0, every-kept IsPrefix (λ other. not (same_prefix prefix other)) (distinct others) (distinct_prefixes others valid.1))

policy_valid : (policy : Policy) → AllByRecursion HasValidEntries policy.rules → IsValid (request.Apply policy)
policy_valid policy valid =
    let all : AreValidPeers (listed_peers policy) =
    every-flat_map IsValidPeer rule_peers policy.rules
    (every-weaker HasValidEntries (λ rule. AreValidPeers (rule_peers rule)) (λ rule own. every-flat_map IsValidPeer (λ (entry : Entry). peers_in entry.peers) (rule_entries rule) own) policy.rules
    valid) in
    distinct_prefixes (flat_map peer_prefixes (listed_peers policy))
    (every-flat_map IsPrefix peer_prefixes (listed_peers policy) (every-weaker IsValidPeer (λ p. ArePrefixes (peer_prefixes p)) prefixes_of (listed_peers policy) all))

abbrev IsValidPolicy : Result Policy LineFault → Type 0
IsValidPolicy (Ok policy) = IsValid (request.Apply policy)
IsValidPolicy (Err f) = Unit {0}

judged_valid : (o : Option RuleFault) (policy : Policy) → IsValid (request.Apply policy) → IsValidPolicy (fault_as fault.Rule (sanitized.judged o policy))
judged_valid None policy valid = valid
judged_valid (Some f) policy valid = tt

cilium_by : (d : Data) (o : Option DocFault) → IsValidPolicy (fault_as fault.Doc (unless_fault o (raw_policy_of d)) >>= λ raw. fault_as fault.Rule (sanitized.sanitized_of raw))
cilium_by d None =
    let raw = raw_policy_of d in
    judged_valid (first_fault raw) (sanitized.policy_of raw) (policy_valid (sanitized.policy_of raw) (rules_valid raw.key raw.rules))
cilium_by d (Some f) = tt

network_judged : (o : Option RuleFault) (policy : Policy) → IsValid (request.Apply policy) → IsValidPolicy (fault_as net_fault (of_object (sanitized.judged o policy)))
network_judged None policy valid = valid
network_judged (Some f) policy valid = tt

network_by : (d : Data) (o : Option DocFault) → IsValidPolicy (fault_as net_fault (of_document (unless_fault o (raw_of d))))
network_by d None =
    let raw = raw_of d in
    network_judged (network_object_fault raw) (translated.policy_of raw)
    (policy_valid (translated.policy_of raw) (network_rules raw (option_and_then (translated.subject_of raw.key.namespace) raw.subject)))
network_by d (Some f) = tt

policy_by : (d : Data) (b : Bool) → IsValidPolicy (cond b (network_policy_of d) (cilium_policy_of d))
policy_by d true = network_by d (network_fault d)
policy_by d false = cilium_by d (document_fault d)

-- ---- labels and addresses

labels_by : (o : Option (List Label)) (set : List Label) → (ok_or o fault.BadLabel >>= λ labels. ok_or (label_set_of labels) fault.DuplicateLabelKey) ≡ Ok set → IsLabelSet set
labels_by None set is = absurd cc
labels_by (Some labels) set is = (label_set_of-made labels set (there (label_set_of labels) fault.DuplicateLabelKey set is)).0

labels_valid : (said : List (List ℕ)) (set : List Label) → labels_of said ≡ Ok set → IsLabelSet set
labels_valid said set is = labels_by (each read_label said) set is

address_valid : (said : List ℕ) (at : Addr) → address_of said ≡ Ok at → IsAddr at
address_valid said at is = IsAddr-writes said at (read_addr_sound said at (there (read_addr said) fault.BadAddress at is))

-- ---- what a line asks for

abbrev Asked : Type 0
Asked = Result Command LineFault

abbrev AsksValid : Command → Type 0
AsksValid (command.Commit session asked) = IsValid asked
AsksValid other = Unit {0}

abbrev pub IsValidReading : Asked → Type 0
IsValidReading (Ok asked) = AsksValid asked
IsValidReading (Err f) = Unit {0}

refused_valid : (f : LineFault) → IsValidReading (Err f)
refused_valid f = tt

endpoint_asked : (name : List ℕ) (session : Option ℕ) (labels : Result (List Label) LineFault) (address : Result Addr LineFault)
    → ((set : List Label) → labels ≡ Ok set → IsLabelSet set) → ((at : Addr) → address ≡ Ok at → IsAddr at)
    → IsValidReading (labels >>= λ set. address >>= λ at. Ok (commit session (request.AddEndpoint name set at)))
endpoint_asked name session (Ok set) (Ok at) sets addresses = (sets set refl, addresses at refl)
endpoint_asked name session (Ok set) (Err f) sets addresses = tt
endpoint_asked name session (Err f) address sets addresses = tt

identity_asked : (name : List ℕ) (session : Option ℕ) (labels : Result (List Label) LineFault) → ((set : List Label) → labels ≡ Ok set → IsLabelSet set)
    → IsValidReading (labels >>= λ set. Ok (commit session (request.AddIdentity name set)))
identity_asked name session (Ok set) sets = sets set refl
identity_asked name session (Err f) sets = tt

apply_asked : (session : Option ℕ) (p : Result Policy LineFault) → IsValidPolicy p → IsValidReading (p >>= λ policy. Ok (commit session (request.Apply policy)))
apply_asked session (Ok policy) valid = valid
apply_asked session (Err f) valid = tt

query_asked : (is_trace : Bool) (endpoint : List ℕ) (dir : Direction) (proto : Proto) (port : ℕ) (session : Option ℕ) (other : Result Remote LineFault)
    → IsValidReading (other >>= λ remote. Ok (asks is_trace session (query_from endpoint dir proto port remote)))
query_asked true endpoint dir proto port session (Ok remote) = tt
query_asked false endpoint dir proto port session (Ok remote) = tt
query_asked is_trace endpoint dir proto port session (Err f) = tt

-- in the order of the words of the operations
ops_valid : AllByRecursion (λ word. AllHold IsValidReading (rows word.1) (make word.1)) ops
ops_valid = (
  λ name _ labels _ address _ session _. endpoint_asked name session (labels_of labels) (address_of address) (labels_valid labels) (address_valid address),
  (
    λ name _ session _. tt,
    (
      λ name _ labels _ session _. identity_asked name session (labels_of labels) (labels_valid labels),
      (
        λ name _ session _. tt,
        (
          λ document _ session _. apply_asked session (policy_of document) (policy_by document (is_network_policy document)),
          (
            λ kind _ namespace _ name _ session _. tt,
            (
              λ mode _ session _. tt,
              (
                λ endpoint _ dir _ identity _ address _ proto _ port _ session _. query_asked false endpoint dir proto port session (remote_of identity address),
                (
                  λ endpoint _ dir _ identity _ address _ proto _ port _ session _. query_asked true endpoint dir proto port session (remote_of identity address),
                  (
                    λ session _. tt,
                    (
                      tt,
                      tt,
                    ),
                  ),
                ),
              ),
            ),
          ),
        ),
      ),
    ),
  ),
)

object_valid : (d : Data) → IsValidReading (read_object d)
object_valid d =
    words_hold IsValidReading (λ o. AllHold IsValidReading (rows o) (make o)) (λ o. read_op o d) fault.NoOp tt (λ o all. op_holds IsValidReading refused_valid o d all) ops
    (text_at (codes "op") d) ops_valid

line_valid : (o : Result Data LineFault) → IsValidReading (o >>= read_object)
line_valid (Ok d) = object_valid d
line_valid (Err f) = tt

pub reading_valid : (line : List ℕ) → IsValidReading (reading_of line)
reading_valid line = line_valid (object_of line)
