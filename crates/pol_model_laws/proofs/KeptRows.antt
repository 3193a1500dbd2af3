-- The rows of a state fit together and count their holders, whatever requests commit.
use Rattle.std.proofs.Common.{◌≡◌, ℕ, ◌+◌, ◌==◌, ◌&&◌, false, not, cond, List, [], ◌∷◌, ◌++◌, map, count_by, nat_lt, Option, None, Some, option_map, refl, sym, ap, ◌∙◌, arith}
use Rattle.std.specs.Cmp.Lexicographic.{bytes_decides}
use Rattle.std.specs.List.{IsDistinct}
use Rattle.std.specs.Str.{bytes_eq}
use Rattle.std.proofs.lemmas.Bool.{and_left}
use Rattle.std.proofs.lemmas.List.Sums.{sum_by-cons, sum_by-insert, sum_by_push}
use Rattle.pol_addr.specs.declared.address.Addr.{Addr}
use Rattle.pol_addr.specs.declared.network.Prefix.{Prefix}
use Rattle.pol_labels.specs.declared.label.Label.{Label}
use Rattle.pol_labels.specs.Order.{IsLabelSet}
use Rattle.pol_rule.specs.declared.policy.Policy.{Policy}
use Rattle.pol_rule.specs.declared.policy.PolicyKey.{PolicyKey}
use Rattle.pol_rule.specs.Keys.{same_key}
use Rattle.pol_rule.specs.Prefixes.{policy_prefixes}
use Rattle.pol_model.specs.declared.limits.TheConstants.{CLUSTER_FIRST}
use Rattle.pol_model.specs.declared.request.Request.{Request}
use Rattle.pol_model.specs.declared.request.Request.TheVariants.{AddEndpoint, RemoveEndpoint, AddIdentity, RemoveIdentity, Apply, Remove, SetMode}
use Rattle.pol_model.specs.declared.row.Endpoint.{Endpoint}
use Rattle.pol_model.specs.declared.row.NamedIdentity.{NamedIdentity}
use Rattle.pol_model.specs.declared.row.Stamped.{Stamped}
use Rattle.pol_model.specs.After.{after, new_endpoint}
use Rattle.pol_model.specs.Endpoints.{endpoint_of, named_of, without_endpoint, without_named}
use Rattle.pol_model.specs.Fault.{has_reserved, is_exhausted, is_init}
use Rattle.pol_model.specs.Identities.{free_number, labels_held, number_for, number_of_labels, number_released}
use Rattle.pol_model_laws.specs.Keeps.{names_prefix}
use Rattle.pol_model.specs.Numbers.{placed_by}
use Rattle.pol_model.specs.Policies.{applied, policy_at, prefixes_of, removed}
use Rattle.pol_model.specs.Prefixes.{prefixes_held}
use Rattle.pol_model.specs.State.{State}
use Rattle.pol_model_laws.specs.WithoutFaults.{MayCommit}
use Rattle.pol_model_laws.proofs.Distinct.{removed_sum}
use Rattle.pol_model_laws.proofs.Holders.{one_of, labels_row, hold_labels}
use Rattle.pol_model_laws.proofs.Ledger.{Ledger, AllHeld}
use Rattle.pol_model_laws.proofs.NoFault.{add_endpoint, add_identity, apply, remove, remove_endpoint, remove_identity}
use Rattle.pol_model_laws.proofs.PolicyHolders.{applied_sum, one_policy, same_key-Decides, sum_at, times_at, times_once}
use Rattle.pol_model_laws.proofs.PrefixHolders.{hold_prefixes, same_ledger}
use Rattle.pol_model_laws.proofs.Releases.{held_or_new-held, number_released-held, prefixes_held-held, prefixes_released-held, release_holder, release_prefixes}

-- how many hold a number, and how many name a prefix
abbrev pub number_holders : List Endpoint → List NamedIdentity → ℕ → ℕ
number_holders endpoints named number =
    count_by (λ endpoint. endpoint.identity == number) endpoints + count_by (λ identity. identity.number == number) named

abbrev pub prefix_holders : List Stamped → Option Prefix → ℕ
prefix_holders policies own = count_by (names_prefix own) policies

pub record KeptRows (s : State) : Type 0 where
  pub ledger : Ledger (number_holders s.endpoints s.named) (prefix_holders s.policies) s.identities
  pub held : AllHeld s.identities

-- names and keys are each once
pub record NamesDiffer (s : State) : Type 0 where
  pub endpoints : IsDistinct bytes_eq (map (λ endpoint. endpoint.name) s.endpoints)
  pub named : IsDistinct bytes_eq (map (λ identity. identity.name) s.named)
  pub policies : IsDistinct same_key (map (λ stamped. stamped.policy.key) s.policies)

prefix_holders-none : (policies : List Stamped) → prefix_holders policies None ≡ 0
prefix_holders-none [] = refl
prefix_holders-none (stamped ∷ others) = sum_by-cons (λ stamped. cond (names_prefix None stamped) 1 0) stamped others ∙ omega (arith, prefix_holders-none others)

-- one holder more of the labels
labels_kept : (s : State) (labels : List Label) (endpoints : List Endpoint) (named : List NamedIdentity) → KeptRows s → IsLabelSet labels
    → (has_reserved labels && not (is_init labels)) ≡ false → is_exhausted labels s.identities ≡ false
    → ((n : ℕ) → number_holders s.endpoints s.named n + one_of (number_for labels s.identities) n ≡ number_holders endpoints named n)
    → Ledger (number_holders endpoints named) (prefix_holders s.policies) (labels_held labels s.identities) × AllHeld (labels_held labels s.identities)
labels_kept s labels endpoints named kept set allowed room more = (
  same_ledger more (λ own. refl) (hold_labels kept.ledger labels set allowed (prefix_holders-none s.policies) room),
  held_or_new-held (number_of_labels labels s.identities) (labels_row (free_number CLUSTER_FIRST s.identities) labels) s.identities (omega arith) kept.held,
)

endpoint_added : (s : State) (name : List ℕ) (labels : List Label) (address : Addr) → MayCommit s (AddEndpoint name labels address) → KeptRows s → KeptRows (after s (AddEndpoint name labels address))
endpoint_added s name labels address may kept =
    let can = add_endpoint s name labels address may.no_fault in
    let new = new_endpoint s name labels address in
    let place = count_by (λ endpoint. nat_lt endpoint.slot new.slot) s.endpoints in
    let rows = labels_kept s labels (placed_by (λ endpoint. endpoint.slot) new s.endpoints) s.named kept may.valid.0 can.allowed can.number_left
    (λ n. omega (arith, sum_by-insert (λ endpoint. cond (endpoint.identity == n) 1 0) s.endpoints place new)) in
    record { ledger = rows.0; held = rows.1 }

identity_added : (s : State) (name : List ℕ) (labels : List Label) → MayCommit s (AddIdentity name labels) → KeptRows s → KeptRows (after s (AddIdentity name labels))
identity_added s name labels may kept =
    let can = add_identity s name labels may.no_fault in
    let new : NamedIdentity = record { name = name; number = number_for labels s.identities } in
    let rows = labels_kept s labels s.endpoints (s.named ++ new ∷ []) kept may.valid (and_left (has_reserved labels) _ can.unreserved) can.number_left
    (λ n. omega (arith, sum_by_push (λ identity. cond (identity.number == n) 1 0) s.named new)) in
    record { ledger = rows.0; held = rows.1 }

-- one holder less of a number
number_kept : (s : State) (o : Option ℕ) (number : ℕ) (endpoints : List Endpoint) (named : List NamedIdentity) → KeptRows s → o ≡ Some number
    → ((n : ℕ) → number_holders endpoints named n + one_of number n ≡ number_holders s.endpoints s.named n)
    → Ledger (number_holders endpoints named) (prefix_holders s.policies) (number_released o s.identities) × AllHeld (number_released o s.identities)
number_kept s o number endpoints named kept is less = (
  rw is (release_holder number (same_ledger (λ n. sym (less n)) (λ own. refl) kept.ledger)),
  number_released-held o s.identities kept.held,
)

endpoint_removed : (s : State) (name : List ℕ) → MayCommit s (RemoveEndpoint name) → KeptRows s → NamesDiffer s → KeptRows (after s (RemoveEndpoint name))
endpoint_removed s name may kept differ =
    let one = remove_endpoint s name may.no_fault in
    let rows = number_kept s (option_map (λ endpoint. endpoint.identity) (endpoint_of name s.endpoints)) one.0.identity (without_endpoint name s.endpoints) s.named kept
    (ap (option_map (λ endpoint. endpoint.identity)) one.1)
    (λ n. omega (arith, removed_sum (λ endpoint. endpoint.name) bytes_decides (λ endpoint. cond (endpoint.identity == n) 1 0) name one.0 s.endpoints differ.endpoints one.1)) in
    record { ledger = rows.0; held = rows.1 }

identity_removed : (s : State) (name : List ℕ) → MayCommit s (RemoveIdentity name) → KeptRows s → NamesDiffer s → KeptRows (after s (RemoveIdentity name))
identity_removed s name may kept differ =
    let one = remove_identity s name may.no_fault in
    let rows = number_kept s (option_map (λ identity. identity.number) (named_of name s.named)) one.0.number s.endpoints (without_named name s.named) kept
    (ap (option_map (λ identity. identity.number)) one.1)
    (λ n. omega (arith, removed_sum (λ identity. identity.name) bytes_decides (λ identity. cond (identity.number == n) 1 0) name one.0 s.named differ.named one.1)) in
    record { ledger = rows.0; held = rows.1 }

-- a policy's prefixes are held, and those of the one that it replaces are released
policy_applied : (s : State) (policy : Policy) → MayCommit s (Apply policy) → KeptRows s → KeptRows (after s (Apply policy))
policy_applied s policy may kept =
    let new : Stamped = record { policy = policy; stamp = s.revision + 1 } in
    let old = policy_at policy.key s.policies in
    let mid = prefixes_held (policy_prefixes policy) s.identities in
    let more = hold_prefixes (policy_prefixes policy) s.identities _ _ kept.ledger may.valid (apply s policy may.no_fault) in
    record {
      ledger =
          release_prefixes (prefixes_of old) mid _ (prefix_holders (applied new s.policies))
          (same_ledger (λ n. refl) (λ own. omega (arith, times_once own new, times_at own old, applied_sum (one_policy own) new s.policies)) more);
      held = prefixes_released-held (prefixes_of old) mid (prefixes_held-held (policy_prefixes policy) s.identities kept.held);
    }

policy_removed : (s : State) (key : PolicyKey) → MayCommit s (Remove key) → KeptRows s → NamesDiffer s → KeptRows (after s (Remove key))
policy_removed s key may kept differ =
    let old = policy_at key s.policies in
    let one = remove s key may.no_fault in
    record {
      ledger =
          release_prefixes (prefixes_of old) s.identities _ (prefix_holders (removed key s.policies))
          (same_ledger (λ n. refl) (λ own. omega (arith, times_at own old, ap {B = ℕ} (sum_at (one_policy own)) one.1, removed_sum (λ stamped. stamped.policy.key) same_key-Decides (one_policy own) key one.0 s.policies differ.policies one.1)) kept.ledger);
      held = prefixes_released-held (prefixes_of old) s.identities kept.held;
    }

pub kept_rows : (s : State) (request : Request) → MayCommit s request → KeptRows s → NamesDiffer s → KeptRows (after s request)
kept_rows s (AddEndpoint name labels address) may kept differ = endpoint_added s name labels address may kept
kept_rows s (RemoveEndpoint name) may kept differ = endpoint_removed s name may kept differ
kept_rows s (AddIdentity name labels) may kept differ = identity_added s name labels may kept
kept_rows s (RemoveIdentity name) may kept differ = identity_removed s name may kept differ
kept_rows s (Apply policy) may kept differ = policy_applied s policy may kept
kept_rows s (Remove key) may kept differ = policy_removed s key may kept differ
kept_rows s (SetMode mode) may kept differ = record { ledger = kept.ledger; held = kept.held }
