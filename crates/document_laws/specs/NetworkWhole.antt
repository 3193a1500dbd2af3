-- Nothing of a NetworkPolicy that is accepted is left out.
use Rattle.std.specs.Prelude.{◌≡◌, not, false, List, ℕ, [], ◌∷◌, All, Some, is_some, IfSome, IsSomeAnd}
use Rattle.std.specs.List.{list_any}
use Rattle.pol_addr.specs.Prefix.{read_prefix}
use Rattle.pol_addr.specs.declared.network.Prefix.{Prefix}
use Rattle.pol_rule.specs.declared.policy.Policy.{Policy}
use Rattle.pol_rule.specs.declared.policy.Rule.{Rule}
use Rattle.pol_rule.specs.declared.raw.RawCidrSet.{RawCidrSet}
use Rattle.pol_rule.specs.declared.raw.RawExpression.{RawExpression}
use Rattle.pol_rule.specs.declared.raw.RawSelector.{RawSelector}
use Rattle.pol_sanitize.specs.Peers.{exceptions_of, leaves}
use Rattle.pol_sanitize.specs.Selectors.{operator_of}
use Rattle.pol_sanitize.specs.Whole.{AllExceptionsRead, AllRead}
use Rattle.pol_netpol.specs.Faults.{has_selector, is_bad_type}
use Rattle.pol_netpol.specs.Translated.{peer_of, rule_of, spec_of}
use Rattle.pol_netpol.specs.declared.raw.RawNetEntry.{RawNetEntry}
use Rattle.pol_netpol.specs.declared.raw.RawNetPeer.{RawNetPeer}
use Rattle.pol_netpol.specs.declared.raw.RawNetworkPolicy.{RawNetworkPolicy}

-- each expression has an operator
abbrev pub IsWholeSelector : RawSelector → Type 0
IsWholeSelector selector = AllRead (λ (expression : RawExpression). operator_of expression.operator) selector.expressions

-- the range is read, and each exception, which lies in it
pub record IsWholeBlock (block : RawCidrSet) : Type 0 where
  pub range : Prefix
  pub cidr : read_prefix block.cidr ≡ Some range
  pub exceptions : AllExceptionsRead block
  pub inside : leaves (exceptions_of block) range ≡ false

-- it selects pods or addresses, and not both
pub record IsWholePeer (peer : RawNetPeer) : Type 0 where
  pub one_kind : is_some peer.block ≡ not (has_selector peer)
  pub pods : IfSome peer.pods IsWholeSelector
  pub namespaces : IfSome peer.namespaces IsWholeSelector
  pub block : IfSome peer.block IsWholeBlock

-- each peer of an object of this namespace gives one, and each port
pub record IsWholeEntry (own : List ℕ) (entry : RawNetEntry) : Type 0 where
  pub peers : AllRead (peer_of own) entry.peers
  pub whole_peers : All IsWholePeer entry.peers
  pub ports : AllRead spec_of entry.ports

-- the policy has the object's key and is the one rule of the object, of which each part is read
pub record IsWholeNetwork (raw : RawNetworkPolicy) (policy : Policy) : Type 0 where
  pub key : policy.key ≡ raw.key
  pub rule : Rule
  pub read : rule_of raw ≡ Some rule
  pub only : policy.rules ≡ rule ∷ []
  pub subject : IsSomeAnd raw.subject IsWholeSelector
  pub types : list_any is_bad_type raw.types ≡ false
  pub ingress : All (IsWholeEntry raw.key.namespace) raw.ingress
  pub egress : All (IsWholeEntry raw.key.namespace) raw.egress
