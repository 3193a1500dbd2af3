-- Nothing of a policy that is accepted is left out, and its selectors are well formed.
use Rattle.std.specs.Prelude.{◌≡◌, List, map, filter_map, All, Option, Some, IfSome, IsTrue}
use Rattle.pol_addr.specs.Prefix.{read_prefix}
use Rattle.pol_labels.specs.WellFormed.{all_well_formed}
use Rattle.pol_rule.specs.Listed.{rule_entries}
use Rattle.pol_rule.specs.declared.policy.DefaultDeny.{DefaultDeny}
use Rattle.pol_rule.specs.declared.policy.Entry.{Entry}
use Rattle.pol_rule.specs.declared.policy.Peer.{Peer}
use Rattle.pol_rule.specs.declared.policy.Peer.TheVariants as peer
use Rattle.pol_rule.specs.declared.policy.Peers.{Peers}
use Rattle.pol_rule.specs.declared.policy.Peers.TheVariants.{Every, Listed}
use Rattle.pol_rule.specs.declared.policy.Policy.{Policy}
use Rattle.pol_rule.specs.declared.policy.PolicyKey.{PolicyKey}
use Rattle.pol_rule.specs.declared.policy.Rule.{Rule}
use Rattle.pol_rule.specs.declared.raw.RawCidrSet.{RawCidrSet}
use Rattle.pol_rule.specs.declared.raw.RawEntry.{RawEntry}
use Rattle.pol_rule.specs.declared.raw.RawPolicy.{RawPolicy}
use Rattle.pol_rule.specs.declared.raw.RawRule.{RawRule}
use Rattle.pol_rule.specs.declared.raw.RawSelector.{RawSelector}
use Rattle.pol_sanitize.specs.Peers.{cidr_peer, endpoint_peer, entity_peer, listed, set_peer}
use Rattle.pol_sanitize.specs.Ports.{all_items, spec_of}
use Rattle.pol_sanitize.specs.Sanitized.{rule_of}
use Rattle.pol_sanitize.specs.Selectors.{expression_requirement, label_requirement, peer_selector}

-- each item gives something
abbrev pub AllRead : {X Y : Type 0} → (X → Option Y) → List X → Type 0
AllRead read items = map Some (filter_map read items) ≡ map read items

pub record IsWholeSelector (selector : RawSelector) : Type 0 where
  pub labels : AllRead label_requirement selector.labels
  pub expressions : AllRead expression_requirement selector.expressions

abbrev pub AllExceptionsRead : RawCidrSet → Type 0
AllExceptionsRead set = AllRead read_prefix set.except

-- each selector of endpoints gives one peer, of the selector that it is in a policy of this key
pub record IsWholeEntry (key : PolicyKey) (entry : RawEntry) : Type 0 where
  pub endpoints : filter_map (endpoint_peer key) (listed entry.endpoints)
      ≡ map (λ (selector : RawSelector). peer.Labels (peer_selector key selector)) (listed entry.endpoints)
  pub selectors : All IsWholeSelector (listed entry.endpoints)
  pub cidrs : AllRead cidr_peer (listed entry.cidrs)
  pub cidr_sets : AllRead set_peer (listed entry.cidr_sets)
  pub exceptions : All AllExceptionsRead (listed entry.cidr_sets)
  pub entities : AllRead entity_peer (listed entry.entities)
  pub ports : AllRead spec_of (all_items entry.ports)

pub record IsWholeRule (key : PolicyKey) (rule : RawRule) : Type 0 where
  pub subject : IfSome rule.subject IsWholeSelector
  pub ingress : All (IsWholeEntry key) rule.ingress
  pub ingress_deny : All (IsWholeEntry key) rule.ingress_deny
  pub egress : All (IsWholeEntry key) rule.egress
  pub egress_deny : All (IsWholeEntry key) rule.egress_deny

-- what the rules say of default deny, as it was written and as it is meant
abbrev pub written_denies : List RawRule → List DefaultDeny
written_denies rules = map (λ (rule : RawRule). rule.default_deny) rules

abbrev pub meant_denies : List Rule → List DefaultDeny
meant_denies rules = map (λ (rule : Rule). rule.default_deny) rules

-- the policy has the key, and a rule for each rule, with a subject and all its parts, which says the same of default deny
pub record IsWhole (raw : RawPolicy) (policy : Policy) : Type 0 where
  pub key : policy.key ≡ raw.key
  pub rules : map Some policy.rules ≡ map (rule_of raw.key) raw.rules
  pub parts : All (IsWholeRule raw.key) raw.rules
  pub default_deny : meant_denies policy.rules ≡ written_denies raw.rules

-- ---- well formed

abbrev pub IsWellFormedPeer : Peer → Type 0
IsWellFormedPeer (peer.Labels selector) = IsTrue (all_well_formed selector)
IsWellFormedPeer (peer.Cidr prefix except) = Unit {0}
IsWellFormedPeer (peer.Entity entity) = Unit {0}

abbrev pub IsWellFormedEntry : Peers → Type 0
IsWellFormedEntry Every = Unit {0}
IsWellFormedEntry (Listed peers) = All IsWellFormedPeer peers

pub record IsWellFormedRule (rule : Rule) : Type 0 where
  pub subject : IsTrue (all_well_formed rule.subject)
  pub entries : All (λ (entry : Entry). IsWellFormedEntry entry.peers) (rule_entries rule)
