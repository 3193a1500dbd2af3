-- Where a policy has no fault, each part of it is read.
use Rattle.std.proofs.Common.{◌≡◌, ℕ, ◌+◌, Bool, true, false, cond, not, ◌||◌, List, [], ◌∷◌, map, filter_map, All, Option, Some, None, is_none, option_map, option_and_then, IfSome, IsSomeAnd, Ok, refl, sym, ap, ◌∙◌}
use Rattle.std.proofs.lemmas.Bool.{not-false, or_from, or_parts, true≢false}
use Rattle.std.proofs.lemmas.List.Elements.{All-cons, All-head, All-nil, All-tail}
use Rattle.std.specs.List.{cons_option, list_any}
use Rattle.std.specs.Option.{option_or}
use Rattle.pol_addr.specs.Prefix.{read_prefix}
use Rattle.pol_labels.specs.WellFormed.{all_well_formed}
use Rattle.pol_rule.specs.declared.cause.RuleCause.{RuleCause}
use Rattle.pol_rule.specs.declared.fault.RuleFault.{RuleFault}
use Rattle.pol_rule.specs.declared.policy.Peer.TheVariants as peer
use Rattle.pol_rule.specs.declared.policy.Policy.{Policy}
use Rattle.pol_rule.specs.declared.policy.PolicyKey.{PolicyKey}
use Rattle.pol_rule.specs.declared.policy.Section.{Section}
use Rattle.pol_rule.specs.declared.policy.Section.TheVariants as section
use Rattle.pol_rule.specs.declared.raw.RawCidrSet.{RawCidrSet}
use Rattle.pol_rule.specs.declared.raw.RawEntry.{RawEntry}
use Rattle.pol_rule.specs.declared.raw.RawPolicy.{RawPolicy}
use Rattle.pol_rule.specs.declared.raw.RawPort.{RawPort}
use Rattle.pol_rule.specs.declared.raw.RawRule.{RawRule}
use Rattle.pol_rule.specs.declared.raw.RawSelector.{RawSelector}
use Rattle.pol_sanitize.specs.Faults.{entry_causes, entry_fault, first_fault, first_from, first_cause, located, rule_fault, section_fault, subject_causes, subject_fault}
use Rattle.pol_sanitize.specs.Peers.{cidr_peer, combines_kinds, endpoint_peer, entity_of, entity_peer, has_outside_exception, is_bad_cidr, is_bad_set, is_unknown_entity, listed, set_peer}
use Rattle.pol_sanitize.specs.Ports.{all_items, is_bad_port, is_bad_protocol, protocol_of, range_of, spec_of}
use Rattle.pol_sanitize.specs.Sanitized.{judged, policy_of, rule_of, rule_with, sanitized_of}
use Rattle.pol_sanitize.specs.Selectors.{has_bad_member, is_bad_expression, is_bad_label, is_bad_selector, peer_selector, requirements_of, subject_selector}
use Rattle.pol_sanitize.specs.Whole.{AllExceptionsRead, AllRead, IsWhole, IsWholeEntry, IsWholeRule, IsWholeSelector, meant_denies, written_denies}
use Rattle.pol_sanitize.specs.declared.fault.Location.{Location}

-- ---- lists

-- what holds of each item that isn't bad holds of all, where none is
pub all_where : {X : Type 0} (P : X → Type 0) (bad : X → Bool) → ((x : X) → bad x ≡ false → P x) → (xs : List X) → list_any bad xs ≡ false → All P xs
all_where P bad fine [] none = All-nil P
all_where P bad fine (x ∷ xs) none =
    let (here, rest) = or_parts (bad x) (list_any bad xs) none in
    All-cons P x xs (fine x here) (all_where P bad fine xs rest)

read_one : {X Y : Type 0} (read : X → Option Y) (x : X) (xs : List X) (o : Option Y) → read x ≡ o → is_none o ≡ false → AllRead read xs → map Some (cons_option o (filter_map read xs)) ≡ o ∷ map read xs
read_one read x xs None is some rest = absurd (true≢false some)
read_one read x xs (Some y) is some rest = ap (λ os. Some y ∷ os) rest

read_all : {X Y : Type 0} (read : X → Option Y) (xs : List X) → All (λ x. is_none (read x) ≡ false) xs → AllRead read xs
read_all read [] each = refl
read_all read (x ∷ xs) each =
    read_one read x xs (read x) refl (All-head (λ x. is_none (read x) ≡ false) x xs each) (read_all read xs (All-tail (λ x. is_none (read x) ≡ false) x xs each))

read_where : {X Y : Type 0} (read : X → Option Y) (bad : X → Bool) → ((x : X) → bad x ≡ false → is_none (read x) ≡ false) → (xs : List X) → list_any bad xs ≡ false → AllRead read xs
read_where read bad fine xs none = read_all read xs (all_where (λ x. is_none (read x) ≡ false) bad fine xs none)

none_of_either : {X : Type 0} (p q : X → Bool) (xs : List X) → list_any p xs ≡ false → list_any q xs ≡ false → list_any (λ x. p x || q x) xs ≡ false
none_of_either p q [] none none' = refl
none_of_either p q (x ∷ xs) none none' =
    let (here, rest) = or_parts (p x) (list_any p xs) none in
    let (here', rest') = or_parts (q x) (list_any q xs) none' in
    or_from (p x || q x) (list_any (λ x. p x || q x) xs) (or_from (p x) (q x) here here') (none_of_either p q xs rest rest')

all_cons_option : {Y : Type 0} (P : Y → Type 0) (o : Option Y) (ys : List Y) → IfSome o P → All P ys → All P (cons_option o ys)
all_cons_option P None ys here rest = rest
all_cons_option P (Some y) ys here rest = All-cons P y ys here rest

pub all_filter_map : {X Y : Type 0} (P : Y → Type 0) (read : X → Option Y) (xs : List X) → All (λ x. IfSome (read x) P) xs → All P (filter_map read xs)
all_filter_map P read [] each = All-nil P
all_filter_map P read (x ∷ xs) each =
    all_cons_option P (read x) (filter_map read xs) (All-head (λ x. IfSome (read x) P) x xs each) (all_filter_map P read xs (All-tail (λ x. IfSome (read x) P) x xs each))

-- ---- no fault
pub no_cause : (cause : RuleCause) (holds : Bool) (rest : Option RuleCause) → cond holds (Some cause) rest ≡ None → (holds ≡ false) × (rest ≡ None)
no_cause cause true rest none = cc
no_cause cause false rest none = (refl, none)

no_or : {X : Type 0} (o p : Option X) → option_or o p ≡ None → (o ≡ None) × (p ≡ None)
no_or None p none = (refl, none)
no_or (Some x) p none = cc

pub none_located : (location : Location) (o : Option RuleCause) → located location o ≡ None → o ≡ None
none_located location None none = refl
none_located location (Some cause) none = cc

pub all_faultless : {X : Type 0} (P : X → Type 0) (fault : ℕ → X → Option RuleFault) → ((n : ℕ) (x : X) → fault n x ≡ None → P x) → (n : ℕ) (xs : List X) → first_from fault n xs ≡ None → All P xs
all_faultless P fault fine n [] none = All-nil P
all_faultless P fault fine n (x ∷ xs) none =
    let (here, rest) = no_or (fault n x) (first_from fault (n + 1) xs) none in
    All-cons P x xs (fine n x here) (all_faultless P fault fine (n + 1) xs rest)

-- ---- selectors
selector_whole : (selector : RawSelector) → is_bad_selector selector ≡ false → IsWholeSelector selector
selector_whole selector fine =
    let (members, formed) = or_parts (has_bad_member selector) (not (all_well_formed (requirements_of selector))) fine in
    let (labels, expressions) = or_parts (list_any is_bad_label selector.labels) (list_any is_bad_expression selector.expressions) members in
    record {
      labels = read_where _ is_bad_label (λ _ here. here) selector.labels labels;
      expressions = read_where _ is_bad_expression (λ _ here. here) selector.expressions expressions;
    }

pub asked_formed : (selector : RawSelector) → is_bad_selector selector ≡ false → all_well_formed (requirements_of selector) ≡ true
asked_formed selector fine = not-false _ (or_parts (has_bad_member selector) (not (all_well_formed (requirements_of selector))) fine).1

-- ---- entries
pub endpoints_read : (key : PolicyKey) (selectors : List RawSelector) → list_any is_bad_selector selectors ≡ false
    → filter_map (endpoint_peer key) selectors ≡ map (λ (selector : RawSelector). peer.Labels (peer_selector key selector)) selectors
endpoints_read key [] none = refl
endpoints_read key (selector ∷ selectors) none =
    let (here, rest) = or_parts (is_bad_selector selector) (list_any is_bad_selector selectors) none in
    let said = peer.Labels (peer_selector key selector) in
    ap (λ b. cons_option (cond b None (Some said)) (filter_map (endpoint_peer key) selectors)) here ∙ ap (λ peers. said ∷ peers) (endpoints_read key selectors rest)

mapped : {X Y : Type 0} (f : X → Y) (o : Option X) → is_none o ≡ false → is_none (option_map f o) ≡ false
mapped f None some = some
mapped f (Some x) some = refl

exceptions_whole : (set : RawCidrSet) → is_bad_set set ≡ false → AllExceptionsRead set
exceptions_whole set fine = read_where read_prefix is_bad_cidr (λ _ here. here) set.except (or_parts (is_bad_cidr set.cidr) (list_any is_bad_cidr set.except) fine).1

-- both of two parts
both : {X Y Z : Type 0} (f : X → Y → Z) (o : Option X) (p : Option Y) → is_none o ≡ false → is_none p ≡ false → is_none (option_and_then (λ x. option_map (f x) p) o) ≡ false
both f None p some some' = some
both f (Some x) p some some' = mapped (f x) p some'

port_read : (port : RawPort) → (is_bad_port port || is_bad_protocol port) ≡ false → is_none (spec_of port) ≡ false
port_read port fine =
    let (range, protocol) = or_parts (is_bad_port port) (is_bad_protocol port) fine in
    both (λ range proto. record { proto = proto; range = range }) (range_of port) (protocol_of port.protocol) range protocol

entry_whole : (key : PolicyKey) (entry : RawEntry) → first_cause (entry_causes entry) ≡ None → IsWholeEntry key entry
entry_whole key entry none =
    let (kinds, n1) = no_cause _ (combines_kinds entry) _ none in
    let (selectors, n2) = no_cause _ (list_any is_bad_selector (listed entry.endpoints)) _ n1 in
    let (cidrs, n3) = no_cause _ (list_any is_bad_cidr (listed entry.cidrs)) _ n2 in
    let (sets, n4) = no_cause _ (list_any is_bad_set (listed entry.cidr_sets)) _ n3 in
    let (outside, n5) = no_cause _ (list_any has_outside_exception (listed entry.cidr_sets)) _ n4 in
    let (entities, n6) = no_cause _ (list_any is_unknown_entity (listed entry.entities)) _ n5 in
    let (ports, n7) = no_cause _ (list_any is_bad_port (all_items entry.ports)) _ n6 in
    let (protocols, n8) = no_cause _ (list_any is_bad_protocol (all_items entry.ports)) _ n7 in
    record {
      endpoints = endpoints_read key (listed entry.endpoints) selectors;
      selectors = all_where IsWholeSelector is_bad_selector selector_whole (listed entry.endpoints) selectors;
      cidrs = read_where cidr_peer is_bad_cidr (λ text fine. mapped _ (read_prefix text) fine) (listed entry.cidrs) cidrs;
      cidr_sets = read_where set_peer is_bad_set (λ set fine. mapped _ (read_prefix set.cidr) (or_parts (is_bad_cidr set.cidr) _ fine).0) (listed entry.cidr_sets) sets;
      exceptions = all_where AllExceptionsRead is_bad_set exceptions_whole (listed entry.cidr_sets) sets;
      entities = read_where entity_peer is_unknown_entity (λ text fine. mapped _ (entity_of text) fine) (listed entry.entities) entities;
      ports = read_where spec_of (λ port. is_bad_port port || is_bad_protocol port) port_read (all_items entry.ports) (none_of_either is_bad_port is_bad_protocol (all_items entry.ports) ports protocols);
    }

-- ---- rules
section_whole : (key : PolicyKey) (rule : ℕ) (s : Section) (entries : List RawEntry) → section_fault rule s entries ≡ None → All (IsWholeEntry key) entries
section_whole key rule s entries none =
    all_faultless (IsWholeEntry key) (entry_fault rule s) (λ n entry fine. entry_whole key entry (none_located _ (first_cause (entry_causes entry)) fine)) 0 entries none

-- what holds of each selector that isn't bad holds of the subject
pub subject_where : (P : RawSelector → Type 0) → ((selector : RawSelector) → is_bad_selector selector ≡ false → P selector) → (subject : Option RawSelector) → first_cause (subject_causes subject) ≡ None → IsSomeAnd subject P
subject_where P fine None none = cc
subject_where P fine (Some selector) none = fine selector (no_cause _ (is_bad_selector selector) None none).0

-- the parts of a rule without fault
pub record IsFaultless (rule : ℕ) (raw : RawRule) : Type 0 where
  pub subject : first_cause (subject_causes raw.subject) ≡ None
  pub ingress : section_fault rule section.Ingress raw.ingress ≡ None
  pub ingress_deny : section_fault rule section.IngressDeny raw.ingress_deny ≡ None
  pub egress : section_fault rule section.Egress raw.egress ≡ None
  pub egress_deny : section_fault rule section.EgressDeny raw.egress_deny ≡ None

pub parts_faultless : (rule : ℕ) (raw : RawRule) → rule_fault rule raw ≡ None → IsFaultless rule raw
parts_faultless rule raw none =
    let (subject, n1) = no_or (subject_fault rule raw) _ none in
    let (ingress, n2) = no_or (section_fault rule section.Ingress raw.ingress) _ n1 in
    let (ingress_deny, n3) = no_or (section_fault rule section.IngressDeny raw.ingress_deny) _ n2 in
    let (egress, egress_deny) = no_or (section_fault rule section.Egress raw.egress) _ n3 in
    record {
      subject = none_located _ (first_cause (subject_causes raw.subject)) subject;
      ingress = ingress;
      ingress_deny = ingress_deny;
      egress = egress;
      egress_deny = egress_deny;
    }

if_some : {X : Type 0} (P : X → Type 0) (o : Option X) → IsSomeAnd o P → IfSome o P
if_some P (Some x) holds = holds
if_some P None holds = absurd holds

rule_whole : (key : PolicyKey) (rule : ℕ) (raw : RawRule) → rule_fault rule raw ≡ None → IsWholeRule key raw
rule_whole key rule raw none =
    let fine = parts_faultless rule raw none in
    record {
      subject = if_some IsWholeSelector raw.subject (subject_where IsWholeSelector selector_whole raw.subject fine.subject);
      ingress = section_whole key rule section.Ingress raw.ingress fine.ingress;
      ingress_deny = section_whole key rule section.IngressDeny raw.ingress_deny fine.ingress_deny;
      egress = section_whole key rule section.Egress raw.egress fine.egress;
      egress_deny = section_whole key rule section.EgressDeny raw.egress_deny fine.egress_deny;
    }

some_mapped : {X Y : Type 0} (f : X → Y) (o : Option X) → IsSomeAnd o (λ _. Unit {0}) → is_none (option_map f o) ≡ false
some_mapped f (Some x) some = refl
some_mapped f None some = absurd some

rule_read : (key : PolicyKey) (rule : ℕ) (raw : RawRule) → rule_fault rule raw ≡ None → is_none (rule_of key raw) ≡ false
rule_read key rule raw none =
    some_mapped _ raw.subject (subject_where (λ _. Unit {0}) (λ _ _. tt) raw.subject (parts_faultless rule raw none).subject)

-- each rule that is read says what it was written to say of default deny
one_denies : (key : PolicyKey) (raw : RawRule) (subject : Option RawSelector) (rules : List RawRule) → raw.subject ≡ subject → is_none (rule_of key raw) ≡ false
    → meant_denies (filter_map (rule_of key) rules) ≡ written_denies rules
    → meant_denies (cons_option (option_map (λ selector. rule_with key raw (subject_selector key selector)) subject) (filter_map (rule_of key) rules))
    ≡ written_denies (raw ∷ rules)
one_denies key raw None rules is some rest = absurd (true≢false (ap (λ o. is_none (option_map (λ selector. rule_with key raw (subject_selector key selector)) o)) (sym is) ∙ some))
one_denies key raw (Some selector) rules is some rest = ap (λ said. raw.default_deny ∷ said) rest

denies_kept : (key : PolicyKey) (rules : List RawRule) → All (λ rule. is_none (rule_of key rule) ≡ false) rules
    → meant_denies (filter_map (rule_of key) rules) ≡ written_denies rules
denies_kept key [] each = refl
denies_kept key (raw ∷ rules) each =
    one_denies key raw raw.subject rules refl (All-head (λ rule. is_none (rule_of key rule) ≡ false) raw rules each)
    (denies_kept key rules (All-tail (λ rule. is_none (rule_of key rule) ≡ false) raw rules each))

pub accepted_faultless : (raw : RawPolicy) (policy : Policy) (fault : Option RuleFault) → judged fault (policy_of raw) ≡ Ok policy → (fault ≡ None) × (policy_of raw ≡ policy)
accepted_faultless raw policy None is = (refl, cc)
accepted_faultless raw policy (Some fault) is = cc

pub accepted_whole : (raw : RawPolicy) (policy : Policy) → sanitized_of raw ≡ Ok policy → IsWhole raw policy
accepted_whole raw policy is =
    let (none, same) = accepted_faultless raw policy (first_fault raw) is in
    let each = all_faultless (λ rule. is_none (rule_of raw.key rule) ≡ false) rule_fault (rule_read raw.key) 0 raw.rules none in
    let rules = read_all (rule_of raw.key) raw.rules each in
    record {
      key = ap (λ (p : Policy). p.key) (sym same);
      rules = ap (λ (p : Policy). map Some p.rules) (sym same) ∙ rules;
      parts = all_faultless (IsWholeRule raw.key) rule_fault (rule_whole raw.key) 0 raw.rules none;
      default_deny = ap (λ (p : Policy). meant_denies p.rules) (sym same) ∙ denies_kept raw.key raw.rules each;
    }
