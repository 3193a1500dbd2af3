-- What it tells of a request that it has no fault.
use Rattle.std.proofs.Common.{◌≡◌, ℕ, ◌<◌, ◌&&◌, Bool, true, false, not, List, length, nat_le, find, Option, None, Some, is_none, is_some, refl}
use Rattle.std.specs.List.{list_any}
use Rattle.std.specs.Str.{bytes_eq}
use Rattle.std.proofs.lemmas.Bool.{leb-false, ltb-false}
use Rattle.pol_addr.specs.declared.address.Addr.{Addr}
use Rattle.pol_labels.specs.declared.label.Label.{Label}
use Rattle.pol_rule.specs.declared.policy.Policy.{Policy}
use Rattle.pol_rule.specs.declared.policy.PolicyKey.{PolicyKey}
use Rattle.pol_rule.specs.Prefixes.{policy_prefixes}
use Rattle.pol_model.specs.declared.answer.Fault.{Fault}
use Rattle.pol_model.specs.declared.limits.TheConstants.{ENDPOINTS_MAX, LOCAL_IDENTITIES}
use Rattle.pol_model.specs.declared.request.Request.TheVariants.{AddEndpoint, RemoveEndpoint, AddIdentity, RemoveIdentity, Apply, Remove}
use Rattle.pol_model.specs.declared.row.Endpoint.{Endpoint}
use Rattle.pol_model.specs.declared.row.NamedIdentity.{NamedIdentity}
use Rattle.pol_model.specs.declared.row.Stamped.{Stamped}
use Rattle.pol_model.specs.Endpoints.{endpoint_of, named_of}
use Rattle.pol_model.specs.Fault.{fault_if, fault_of, has_reserved, is_exhausted, is_init, is_taken}
use Rattle.pol_model.specs.Policies.{policy_at}
use Rattle.pol_model.specs.State.{State}
use Rattle.pol_model_laws.proofs.Membership.{find-none}
use Rattle.pol_model_laws.proofs.PrefixHolders.{HasRoom}

no_fault : (b : Bool) (fault : Fault) (others : Option Fault) → fault_if b fault others ≡ None → (b ≡ false) × (others ≡ None)
no_fault true fault others none = absurd cc
no_fault false fault others none = (refl, none)

nothing_found : {X : Type 0} (p : X → Bool) (xs : List X) → is_some (find p xs) ≡ false → list_any p xs ≡ false
nothing_found p xs none = find-none p xs (told (find p xs) none)
  where
    told : {X : Type 0} (o : Option X) → is_some o ≡ false → o ≡ None
    told None none = refl
    told (Some x) none = absurd cc

something_found : {X : Type 0} (o : Option X) → is_none o ≡ false → (x : X) × (o ≡ Some x)
something_found None there = absurd cc
something_found (Some x) there = (x, refl)

pub record CanAddEndpoint (s : State) (name : List ℕ) (labels : List Label) (address : Addr) : Type 0 where
  pub allowed : (has_reserved labels && not (is_init labels)) ≡ false
  pub name_free : list_any (λ endpoint. bytes_eq endpoint.name name) s.endpoints ≡ false
  pub room : length s.endpoints < ENDPOINTS_MAX
  pub address_free : is_taken s.endpoints address ≡ false
  pub number_left : is_exhausted labels s.identities ≡ false

pub add_endpoint : (s : State) (name : List ℕ) (labels : List Label) (address : Addr) → fault_of s (AddEndpoint name labels address) ≡ None → CanAddEndpoint s name labels address
add_endpoint s name labels address none =
    let reserved = no_fault (has_reserved labels && not (is_init labels)) _ _ none in
    let duplicate = no_fault (is_some (endpoint_of name s.endpoints)) _ _ reserved.1 in
    let full = no_fault (nat_le ENDPOINTS_MAX (length s.endpoints)) _ _ duplicate.1 in
    let taken = no_fault (is_taken s.endpoints address) _ _ full.1 in
    let exhausted = no_fault (is_exhausted labels s.identities) _ _ taken.1 in
    record {
      allowed = reserved.0;
      name_free = nothing_found (λ endpoint. bytes_eq endpoint.name name) s.endpoints duplicate.0;
      room = leb-false ENDPOINTS_MAX (length s.endpoints) full.0;
      address_free = taken.0;
      number_left = exhausted.0;
    }

pub record CanAddIdentity (s : State) (name : List ℕ) (labels : List Label) : Type 0 where
  pub unreserved : has_reserved labels ≡ false
  pub name_free : list_any (λ identity. bytes_eq identity.name name) s.named ≡ false
  pub number_left : is_exhausted labels s.identities ≡ false

pub add_identity : (s : State) (name : List ℕ) (labels : List Label) → fault_of s (AddIdentity name labels) ≡ None → CanAddIdentity s name labels
add_identity s name labels none =
    let reserved = no_fault (has_reserved labels) _ _ none in
    let duplicate = no_fault (is_some (named_of name s.named)) _ _ reserved.1 in
    let exhausted = no_fault (is_exhausted labels s.identities) _ _ duplicate.1 in
    record {
      unreserved = reserved.0;
      name_free = nothing_found (λ identity. bytes_eq identity.name name) s.named duplicate.0;
      number_left = exhausted.0;
    }

pub remove_endpoint : (s : State) (name : List ℕ) → fault_of s (RemoveEndpoint name) ≡ None → (endpoint : Endpoint) × (endpoint_of name s.endpoints ≡ Some endpoint)
remove_endpoint s name none = something_found (endpoint_of name s.endpoints) (no_fault (is_none (endpoint_of name s.endpoints)) _ _ none).0

pub remove_identity : (s : State) (name : List ℕ) → fault_of s (RemoveIdentity name) ≡ None → (identity : NamedIdentity) × (named_of name s.named ≡ Some identity)
remove_identity s name none = something_found (named_of name s.named) (no_fault (is_none (named_of name s.named)) _ _ none).0

pub apply : (s : State) (policy : Policy) → fault_of s (Apply policy) ≡ None → HasRoom s.identities (policy_prefixes policy)
apply s policy none = ltb-false LOCAL_IDENTITIES _ (no_fault _ _ _ none).0

pub remove : (s : State) (key : PolicyKey) → fault_of s (Remove key) ≡ None → (stamped : Stamped) × (policy_at key s.policies ≡ Some stamped)
remove s key none = something_found (policy_at key s.policies) (no_fault (is_none (policy_at key s.policies)) _ _ none).0
