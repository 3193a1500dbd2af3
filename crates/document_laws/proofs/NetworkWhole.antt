-- Where a NetworkPolicy has no fault, each part of it is read.
use Rattle.std.proofs.Common.{◌≡◌, ℕ, Bool, true, false, cond, not, ◌||◌, List, [], ◌∷◌, ◌++◌, map, filter_map, All, Option, Some, None, is_none, is_some, option_map, option_and_then, IfSome, IsSomeAnd, Ok, refl, sym, ap, ◌∙◌, subst}
use Rattle.std.proofs.lemmas.Bool.{not-false, or_parts, true≢false}
use Rattle.std.proofs.lemmas.List.Elements.{All-cons, All-head, All-nil, All-tail}
use Rattle.std.specs.Bool.{beq}
use Rattle.std.specs.List.{cons_option, list_any}
use Rattle.std.specs.Option.{option_map_or, option_or}
use Rattle.pol_addr.specs.Prefix.{read_prefix}
use Rattle.pol_addr.specs.declared.network.Prefix.{Prefix}
use Rattle.pol_labels.specs.WellFormed.{all_well_formed}
use Rattle.pol_labels.specs.declared.requirement.Operator.{Operator}
use Rattle.pol_labels.specs.declared.requirement.Requirement.{Requirement}
use Rattle.pol_netpol.proofs.Formed.{both_formed, pods_peer_formed, selector_formed}
use Rattle.pol_netpol.proofs.Porting.{all_fine, first_port, split_fine}
use Rattle.pol_netpol.specs.Faults.{asks_badly, entry_causes, entry_fault, excepts_outside, fault_at, first_fault, fits_values, has_bad_cidr, has_bad_selector, has_selector, is_bad_end, is_bad_expression, is_bad_key, is_bad_label, is_bad_peer, is_bad_port, is_bad_protocol, is_bad_selector, is_bad_type, section_fault, subject_causes, subject_fault}
use Rattle.pol_netpol.specs.Translated.{of_namespaces, of_pods, peer_of, policy_of, requirements_of, rule_of, rule_with, spec_of, subject_of, translated_of, well_formed}
use Rattle.pol_netpol.specs.declared.raw.RawNetEntry.{RawNetEntry}
use Rattle.pol_netpol.specs.declared.raw.RawNetPeer.{RawNetPeer}
use Rattle.pol_netpol.specs.declared.raw.RawNetPort.{RawNetPort}
use Rattle.pol_netpol.specs.declared.raw.RawNetworkPolicy.{RawNetworkPolicy}
use Rattle.pol_rule.specs.declared.cause.RuleCause.{RuleCause}
use Rattle.pol_rule.specs.declared.fault.RuleFault.{RuleFault}
use Rattle.pol_rule.specs.declared.policy.Peer.TheVariants.{Labels}
use Rattle.pol_rule.specs.declared.policy.Policy.{Policy}
use Rattle.pol_rule.specs.declared.policy.PortSpec.{PortSpec}
use Rattle.pol_rule.specs.declared.policy.Rule.{Rule}
use Rattle.pol_rule.specs.declared.policy.Section.{Section}
use Rattle.pol_rule.specs.declared.policy.Section.TheVariants as section
use Rattle.pol_rule.specs.declared.raw.RawCidrSet.{RawCidrSet}
use Rattle.pol_rule.specs.declared.raw.RawExpression.{RawExpression}
use Rattle.pol_rule.specs.declared.raw.RawSelector.{RawSelector}
use Rattle.pol_sanitize.proofs.Wholeness.{all_faultless, all_where, no_cause}
use Rattle.pol_sanitize.specs.Faults.{first_cause}
use Rattle.pol_sanitize.specs.Peers.{exceptions_of, has_outside_exception, is_bad_cidr, is_bad_set, leaves}
use Rattle.pol_sanitize.specs.Sanitized.{judged}
use Rattle.pol_sanitize.specs.Selectors.{is_in_namespace, operator_of}
use Rattle.pol_sanitize.specs.Whole.{AllRead}
use Rattle.document_laws.specs.NetworkWhole.{IsWholeBlock, IsWholeEntry, IsWholeNetwork, IsWholePeer, IsWholeSelector}

-- ---- lists

read_one : {X Y : Type 0} (read : X → Option Y) (xs : List X) (x : X) (o : Option Y) → read x ≡ o → is_none o ≡ false → AllRead read xs
    → map Some (cons_option o (filter_map read xs)) ≡ o ∷ map read xs
read_one read xs x None is some rest = absurd (true≢false some)
read_one read xs x (Some y) is some rest = ap (λ os. Some y ∷ os) rest

read_all : {X Y : Type 0} (read : X → Option Y) (xs : List X) → All (λ x. is_none (read x) ≡ false) xs → AllRead read xs
read_all read [] each = refl
read_all read (x ∷ xs) each =
    read_one read xs x (read x) refl (All-head (λ x. is_none (read x) ≡ false) x xs each)
    (read_all read xs (All-tail (λ x. is_none (read x) ≡ false) x xs each))

read_where : {X Y : Type 0} (read : X → Option Y) (bad : X → Bool) → ((x : X) → bad x ≡ false → is_none (read x) ≡ false) → (xs : List X)
    → list_any bad xs ≡ false → AllRead read xs
read_where read bad fine xs none = read_all read xs (all_where (λ x. is_none (read x) ≡ false) bad fine xs none)

-- ---- selectors

fitting : (values : List (List ℕ)) (test : Operator → Bool) (op : Option Operator) → option_map_or test op false ≡ true → is_none op ≡ false
fitting values test None fits = absurd (true≢false (sym fits))
fitting values test (Some op) fits = refl

expression_read : (expression : RawExpression) → is_bad_expression expression ≡ false → is_none (operator_of expression.operator) ≡ false
expression_read expression fine =
    let (key, values) = or_parts (is_bad_key expression.key) (not (fits_values expression.values expression.operator)) fine in
    fitting expression.values _ (operator_of expression.operator) (not-false _ values)

selector_whole : (selector : RawSelector) → is_bad_selector selector ≡ false → IsWholeSelector selector
selector_whole selector fine =
    let (labels, expressions) = or_parts (list_any is_bad_label selector.labels) (list_any is_bad_expression selector.expressions) fine in
    read_where _ is_bad_expression expression_read selector.expressions expressions

if_there : (selector : Option RawSelector) → has_bad_selector selector ≡ false → IfSome selector IsWholeSelector
if_there None fine = tt
if_there (Some selector) fine = selector_whole selector fine

-- ---- peers

range_there : (o : Option Prefix) → is_none o ≡ false → (range : Prefix) × (o ≡ Some range)
range_there None some = absurd (true≢false some)
range_there (Some range) some = (range, refl)

block_whole : (block : RawCidrSet) → is_bad_set block ≡ false → has_outside_exception block ≡ false → IsWholeBlock block
block_whole block fine inside =
    let (cidr, except) = or_parts (is_bad_cidr block.cidr) (list_any is_bad_cidr block.except) fine in
    let (range, is) = range_there (read_prefix block.cidr) cidr in
    record {
      range = range;
      cidr = is;
      exceptions = read_where read_prefix is_bad_cidr (λ _ here. here) block.except except;
      inside = ap (λ o. option_map_or (leaves (exceptions_of block)) o false) (sym is) ∙ inside;
    }

block_there : (block : Option RawCidrSet) → option_map_or is_bad_set block false ≡ false → option_map_or has_outside_exception block false ≡ false
    → IfSome block IsWholeBlock
block_there None fine inside = tt
block_there (Some block) fine inside = block_whole block fine inside

other_kind : (a b : Bool) → beq a b ≡ false → b ≡ not a
other_kind true true differ = absurd (true≢false differ)
other_kind true false differ = refl
other_kind false true differ = refl
other_kind false false differ = absurd (true≢false differ)

peer_whole : (peer : RawNetPeer) → asks_badly peer ≡ false → has_bad_cidr peer ≡ false → excepts_outside peer ≡ false → is_bad_peer peer ≡ false
    → IsWholePeer peer
peer_whole peer asks cidrs inside kinds =
    let (pods, namespaces) = or_parts (has_bad_selector peer.pods) (has_bad_selector peer.namespaces) asks in
    record {
      one_kind = other_kind (has_selector peer) (is_some peer.block) kinds;
      pods = if_there peer.pods pods;
      namespaces = if_there peer.namespaces namespaces;
      block = block_there peer.block cidrs inside;
    }

mapped : {X Y : Type 0} (f : X → Y) (o : Option X) → is_none o ≡ false → is_none (option_map f o) ≡ false
mapped f None some = some
mapped f (Some x) some = refl

formed_read : (requirements : List Requirement) → all_well_formed requirements ≡ true → is_none (option_map Labels (well_formed requirements)) ≡ false
formed_read requirements formed = ap (λ b. is_none (option_map Labels (cond b (Some requirements) None))) formed

peer_read_by : (own : List ℕ) (pods namespaces : Option RawSelector) (block : Option RawCidrSet)
    → (has_bad_selector pods || has_bad_selector namespaces) ≡ false → option_map_or is_bad_set block false ≡ false
    → is_none (peer_of own (record { pods = pods; namespaces = namespaces; block = block })) ≡ false
peer_read_by own pods namespaces (Some block) asks cidrs =
    mapped _ (read_prefix block.cidr) (or_parts (is_bad_cidr block.cidr) (list_any is_bad_cidr block.except) cidrs).0
peer_read_by own pods namespaces None asks cidrs =
    let (fine, fine') = or_parts (has_bad_selector pods) (has_bad_selector namespaces) asks in
    formed_read (of_pods pods ++ of_namespaces own namespaces) (pods_peer_formed own pods namespaces fine fine')

-- none of these is bad in any of these ways
record AreFine (peers : List RawNetPeer) : Type 0 where
  asks : list_any asks_badly peers ≡ false
  cidrs : list_any has_bad_cidr peers ≡ false
  inside : list_any excepts_outside peers ≡ false
  kinds : list_any is_bad_peer peers ≡ false

fine_tail : (peer : RawNetPeer) (peers : List RawNetPeer) → AreFine (peer ∷ peers) → AreFine peers
fine_tail peer peers fine = record {
  asks = (or_parts (asks_badly peer) (list_any asks_badly peers) fine.asks).1;
  cidrs = (or_parts (has_bad_cidr peer) (list_any has_bad_cidr peers) fine.cidrs).1;
  inside = (or_parts (excepts_outside peer) (list_any excepts_outside peers) fine.inside).1;
  kinds = (or_parts (is_bad_peer peer) (list_any is_bad_peer peers) fine.kinds).1;
}

peers_whole : (peers : List RawNetPeer) → AreFine peers → All IsWholePeer peers
peers_whole [] fine = All-nil IsWholePeer
peers_whole (peer ∷ peers) fine =
    All-cons IsWholePeer peer peers
    (peer_whole peer
    (or_parts (asks_badly peer) (list_any asks_badly peers) fine.asks).0
    (or_parts (has_bad_cidr peer) (list_any has_bad_cidr peers) fine.cidrs).0
    (or_parts (excepts_outside peer) (list_any excepts_outside peers) fine.inside).0
    (or_parts (is_bad_peer peer) (list_any is_bad_peer peers) fine.kinds).0)
    (peers_whole peers (fine_tail peer peers fine))

each_peer_read : (own : List ℕ) (peers : List RawNetPeer) → AreFine peers → All (λ peer. is_none (peer_of own peer) ≡ false) peers
each_peer_read own [] fine = All-nil (λ peer. is_none (peer_of own peer) ≡ false)
each_peer_read own (peer ∷ peers) fine =
    All-cons (λ peer. is_none (peer_of own peer) ≡ false) peer peers
    (peer_read_by own peer.pods peer.namespaces peer.block
    (or_parts (asks_badly peer) (list_any asks_badly peers) fine.asks).0
    (or_parts (has_bad_cidr peer) (list_any has_bad_cidr peers) fine.cidrs).0)
    (each_peer_read own peers (fine_tail peer peers fine))

-- ---- ports

one_there : (o : Option PortSpec) (spec : PortSpec) → cons_option o [] ≡ spec ∷ [] → is_none o ≡ false
one_there None spec is = cc
one_there (Some other) spec is = refl

each_port_read : (ports : List RawNetPort) → all_fine ports → All (λ port. is_none (spec_of port) ≡ false) ports
each_port_read [] fine = All-nil (λ port. is_none (spec_of port) ≡ false)
each_port_read (port ∷ ports) fine =
    let (here, rest) = split_fine port ports fine in
    let (spec, is) = first_port port [] here in
    All-cons (λ port. is_none (spec_of port) ≡ false) port ports (one_there (spec_of port) spec is) (each_port_read ports rest)

-- ---- entries

none_there : (at : Option (Section × ℕ)) (o : Option RuleCause) → option_map (fault_at at) o ≡ None → o ≡ None
none_there at None none = refl
none_there at (Some cause) none = cc

entry_whole : (own : List ℕ) (entry : RawNetEntry) → first_cause (entry_causes entry) ≡ None → IsWholeEntry own entry
entry_whole own entry none =
    let (asks, n1) = no_cause _ (list_any asks_badly entry.peers) _ none in
    let (cidrs, n2) = no_cause _ (list_any has_bad_cidr entry.peers) _ n1 in
    let (inside, n3) = no_cause _ (list_any excepts_outside entry.peers) _ n2 in
    let (ports, n4) = no_cause _ (list_any is_bad_port entry.ports) _ n3 in
    let (protocols, n5) = no_cause _ (list_any is_bad_protocol entry.ports) _ n4 in
    let (kinds, n6) = no_cause _ (list_any is_bad_peer entry.peers) _ n5 in
    let (ends, n7) = no_cause _ (list_any is_bad_end entry.ports) _ n6 in
    let fine : AreFine entry.peers = record { asks = asks; cidrs = cidrs; inside = inside; kinds = kinds } in
    record {
      peers = read_all (peer_of own) entry.peers (each_peer_read own entry.peers fine);
      whole_peers = peers_whole entry.peers fine;
      ports = read_all spec_of entry.ports (each_port_read entry.ports (ports, protocols, ends));
    }

section_whole : (own : List ℕ) (s : Section) (entries : List RawNetEntry) → section_fault s entries ≡ None → All (IsWholeEntry own) entries
section_whole own s entries none =
    all_faultless (IsWholeEntry own) (entry_fault s) (λ n entry fine. entry_whole own entry (none_there _ (first_cause (entry_causes entry)) fine)) 0 entries none

-- ---- the object

no_or : {X : Type 0} (o p : Option X) → option_or o p ≡ None → (o ≡ None) × (p ≡ None)
no_or None p none = (refl, none)
no_or (Some x) p none = cc

accepted : (raw : RawNetworkPolicy) (policy : Policy) (fault : Option RuleFault) → judged fault (policy_of raw) ≡ Ok policy
    → (fault ≡ None) × (policy_of raw ≡ policy)
accepted raw policy None is = (refl, cc)
accepted raw policy (Some fault) is = cc

abbrev Subject : RawNetworkPolicy → Type 0
Subject raw = (selector : RawSelector) × (raw.subject ≡ Some selector) × (is_bad_selector selector ≡ false)

subject_there : (raw : RawNetworkPolicy) (o : Option RawSelector) → raw.subject ≡ o → is_none o ≡ false → has_bad_selector o ≡ false → Subject raw
subject_there raw None is some fine = absurd (true≢false some)
subject_there raw (Some selector) is some fine = (selector, is, fine)

rule_there : (raw : RawNetworkPolicy) (selector : RawSelector) → raw.subject ≡ Some selector → is_bad_selector selector ≡ false
    → (rule : Rule) × (rule_of raw ≡ Some rule)
rule_there raw selector there fine =
    let own = raw.key.namespace in
    let asked = requirements_of [] selector ++ is_in_namespace own ∷ [] in
    let formed = both_formed (requirements_of [] selector) (is_in_namespace own ∷ []) (selector_formed [] selector fine) refl in (
      rule_with raw asked,
      ap (λ o. option_map (rule_with raw) (option_and_then (subject_of own) o)) there
          ∙ ap (λ b. option_map (rule_with raw) (cond b (Some asked) None)) formed,
    )

pub network_whole : (raw : RawNetworkPolicy) (policy : Policy) → translated_of raw ≡ Ok policy → IsWholeNetwork raw policy
network_whole raw policy is =
    let (none, same) = accepted raw policy (first_fault raw) is in
    let (at_subject, n1) = no_or (subject_fault raw) _ none in
    let (ingress, egress) = no_or (section_fault section.Ingress raw.ingress) _ n1 in
    let causes = none_there _ (first_cause (subject_causes raw)) at_subject in
    let (some, n2) = no_cause _ (is_none raw.subject) _ causes in
    let (asks, n3) = no_cause _ (has_bad_selector raw.subject) _ n2 in
    let (types, n4) = no_cause _ (list_any is_bad_type raw.types) _ n3 in
    let (selector, there, fine) = subject_there raw raw.subject refl some asks in
    let (rule, read) = rule_there raw selector there fine in
    record {
      key = ap (λ (p : Policy). p.key) (sym same);
      rule = rule;
      read = read;
      only = ap (λ (p : Policy). p.rules) (sym same) ∙ ap (λ o. cons_option o []) read;
      subject = subst (λ o. IsSomeAnd o IsWholeSelector) (sym there) (selector_whole selector fine);
      types = types;
      ingress = section_whole raw.key.namespace section.Ingress raw.ingress ingress;
      egress = section_whole raw.key.namespace section.Egress raw.egress egress;
    }
