-- The selectors of a policy that is accepted are well formed.
use Rattle.std.proofs.Common.{◌≡◌, ℕ, true, false, cond, List, [], get_or, filter_map, All, Option, Some, None, option_map, IfSome, IsSomeAnd, Ok, ◌∙◌, subst}
use Rattle.std.proofs.lemmas.List.Elements.{All-append, All-map, All-same}
use Rattle.std.specs.List.{list_any}
use Rattle.pol_addr.specs.Prefix.{read_prefix}
use Rattle.pol_addr.specs.declared.network.Prefix.{Prefix}
use Rattle.pol_rule.specs.declared.policy.Entry.{Entry}
use Rattle.pol_rule.specs.declared.policy.Peer.{Peer}
use Rattle.pol_rule.specs.declared.policy.Peer.TheVariants as peer
use Rattle.pol_rule.specs.declared.policy.Peers.TheVariants.{Every, Listed}
use Rattle.pol_rule.specs.declared.policy.Policy.{Policy}
use Rattle.pol_rule.specs.declared.policy.PolicyKey.{PolicyKey}
use Rattle.pol_rule.specs.declared.policy.Section.{Section}
use Rattle.pol_rule.specs.declared.policy.Section.TheVariants as section
use Rattle.pol_rule.specs.declared.raw.RawCidrSet.{RawCidrSet}
use Rattle.pol_rule.specs.declared.raw.RawEntry.{RawEntry}
use Rattle.pol_rule.specs.declared.raw.RawPolicy.{RawPolicy}
use Rattle.pol_rule.specs.declared.raw.RawRule.{RawRule}
use Rattle.pol_rule.specs.declared.raw.RawSelector.{RawSelector}
use Rattle.pol_sanitize.specs.Faults.{entry_causes, entry_fault, first_fault, first_cause, rule_fault, section_fault}
use Rattle.pol_sanitize.specs.Peers.{cidr_peer, combines_kinds, endpoint_peer, entity_of, entity_peer, exceptions_of, has_no_peer_member, listed, listed_peers, peers_of, set_peer}
use Rattle.pol_sanitize.specs.Sanitized.{entry_of, rule_of, rule_with, sanitized_of, section_of}
use Rattle.pol_sanitize.specs.Selectors.{is_bad_selector, peer_selector, subject_selector}
use Rattle.pol_sanitize.specs.Whole.{IsWellFormedEntry, IsWellFormedPeer, IsWellFormedRule}
use Rattle.pol_sanitize.proofs.Bound.{peer_formed, subject_formed}
use Rattle.pol_sanitize.proofs.Wholeness.{accepted_faultless, all_faultless, all_filter_map, all_where, asked_formed, endpoints_read, no_cause, none_located, parts_faultless, subject_where}

each_mapped : {X Y : Type 0} (P : Y → Type 0) (f : X → Y) → ((x : X) → P (f x)) → (o : Option X) → IfSome (option_map f o) P
each_mapped P f each None = tt
each_mapped P f each (Some x) = each x

endpoints_formed : (key : PolicyKey) (selectors : List RawSelector) → list_any is_bad_selector selectors ≡ false → All IsWellFormedPeer (filter_map (endpoint_peer key) selectors)
endpoints_formed key selectors fine =
    All-same IsWellFormedPeer _ _ (endpoints_read key selectors fine)
    (All-map IsWellFormedPeer (λ (selector : RawSelector). peer.Labels (peer_selector key selector)) selectors
    (all_where (λ (selector : RawSelector). IsWellFormedPeer (peer.Labels (peer_selector key selector))) is_bad_selector (λ selector good. peer_formed key selector ∙ asked_formed selector good) selectors fine))

cidr_formed : (text : List ℕ) → IfSome (cidr_peer text) IsWellFormedPeer
cidr_formed text = each_mapped IsWellFormedPeer (λ (prefix : Prefix). peer.Cidr prefix []) (λ _. tt) (read_prefix text)

set_formed : (set : RawCidrSet) → IfSome (set_peer set) IsWellFormedPeer
set_formed set = each_mapped IsWellFormedPeer (λ (prefix : Prefix). peer.Cidr prefix (exceptions_of set)) (λ _. tt) (read_prefix set.cidr)

entity_formed : (text : List ℕ) → IfSome (entity_peer text) IsWellFormedPeer
entity_formed text = each_mapped IsWellFormedPeer peer.Entity (λ _. tt) (entity_of text)

peers_formed : (key : PolicyKey) (entry : RawEntry) → list_any is_bad_selector (listed entry.endpoints) ≡ false → All IsWellFormedPeer (listed_peers key entry)
peers_formed key entry fine =
    let P : Peer → Type 0 = IsWellFormedPeer in
    All-append P _ _
    (All-append P _ _
    (All-append P _ _
    (endpoints_formed key (listed entry.endpoints) fine)
    (all_filter_map P cidr_peer (listed entry.cidrs) (λ k d within. cidr_formed (get_or (listed entry.cidrs) k d))))
    (all_filter_map P set_peer (listed entry.cidr_sets) (λ k d within. set_formed (get_or (listed entry.cidr_sets) k d))))
    (all_filter_map P entity_peer (listed entry.entities) (λ k d within. entity_formed (get_or (listed entry.entities) k d)))

entry_formed : (key : PolicyKey) (entry : RawEntry) → first_cause (entry_causes entry) ≡ None → IsWellFormedEntry (peers_of key entry)
entry_formed key entry none =
    let (kinds, n1) = no_cause _ (combines_kinds entry) _ none in
    let (selectors, n2) = no_cause _ (list_any is_bad_selector (listed entry.endpoints)) _ n1 in
    elim (has_no_peer_member entry) as (λ b. IsWellFormedEntry (cond b Every (Listed (listed_peers key entry)))) [
      | true ↦ tt
      | false ↦ peers_formed key entry selectors
    ]

section_formed : (key : PolicyKey) (rule : ℕ) (s : Section) (entries : List RawEntry) → section_fault rule s entries ≡ None → All (λ (entry : Entry). IsWellFormedEntry entry.peers) (section_of key entries)
section_formed key rule s entries none =
    All-map (λ (entry : Entry). IsWellFormedEntry entry.peers) (entry_of key) entries
    (all_faultless (λ entry. IsWellFormedEntry (peers_of key entry)) (entry_fault rule s) (λ n entry fine. entry_formed key entry (none_located _ (first_cause (entry_causes entry)) fine)) 0 entries none)

some_mapped_so : {X Y : Type 0} (P : Y → Type 0) (f : X → Y) (o : Option X) → IsSomeAnd o (λ x. P (f x)) → IfSome (option_map f o) P
some_mapped_so P f None some = tt
some_mapped_so P f (Some x) some = some

rule_formed : (key : PolicyKey) (rule : ℕ) (raw : RawRule) → rule_fault rule raw ≡ None → IfSome (rule_of key raw) IsWellFormedRule
rule_formed key rule raw none =
    let fine = parts_faultless rule raw none in
    let P : Entry → Type 0 = λ entry. IsWellFormedEntry entry.peers in
    some_mapped_so IsWellFormedRule (λ (selector : RawSelector). rule_with key raw (subject_selector key selector)) raw.subject
    (subject_where (λ selector. IsWellFormedRule (rule_with key raw (subject_selector key selector)))
    (λ selector good. record {
      subject = subject_formed key selector ∙ asked_formed selector good;
      entries = All-append P _ _
          (All-append P _ _
          (All-append P _ _
          (section_formed key rule section.Ingress raw.ingress fine.ingress)
          (section_formed key rule section.IngressDeny raw.ingress_deny fine.ingress_deny))
          (section_formed key rule section.Egress raw.egress fine.egress))
          (section_formed key rule section.EgressDeny raw.egress_deny fine.egress_deny);
    }) raw.subject fine.subject)

pub accepted_formed : (raw : RawPolicy) (policy : Policy) → sanitized_of raw ≡ Ok policy → All IsWellFormedRule policy.rules
accepted_formed raw policy is =
    let (none, same) = accepted_faultless raw policy (first_fault raw) is in
    subst (λ (p : Policy). All IsWellFormedRule p.rules) same
    (all_filter_map IsWellFormedRule (rule_of raw.key) raw.rules
    (all_faultless (λ rule. IfSome (rule_of raw.key rule) IsWellFormedRule) rule_fault (rule_formed raw.key) 0 raw.rules none))
