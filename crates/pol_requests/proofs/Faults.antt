-- Faults of a chain of tests: the first that holds, and what none means.
use Rattle.std.proofs.Common.{◌≡◌, ℕ, ◌&&◌, Bool, true, false, not, nat_le, if◌then◌else◌, ◌||◌, Bor, List, [], ◌∷◌, length, find, Option, None, Some, is_some, is_none, option_map, refl, ap, ◌∙◌}
use Rattle.std.specs.List.{list_any}
use Rattle.std.specs.Option.{option_copied}
use Rattle.pol_addr.specs.declared.address.Addr.{Addr}
use Rattle.pol_labels.specs.declared.label.Label.{Label}
use Rattle.pol_model.specs.declared.answer.Fault.{Fault}
use Rattle.pol_model.specs.declared.answer.Fault.TheVariants as fault
use Rattle.pol_model.specs.declared.limits.TheConstants.{ENDPOINTS_MAX}
use Rattle.pol_model.specs.declared.request.Request.TheVariants.{AddEndpoint, RemoveEndpoint, AddIdentity, RemoveIdentity}
use Rattle.pol_model.specs.declared.row.Endpoint.{Endpoint}
use Rattle.pol_model.specs.declared.row.NamedIdentity.{NamedIdentity}
use Rattle.pol_model.specs.State.{State}
use Rattle.pol_model.specs.Endpoints.{endpoint_of, named_of}
use Rattle.pol_model.specs.Fault.{fault_if, fault_of, has_reserved, is_exhausted, is_init, is_taken}
use Rattle.pol_model.specs.Remote.{endpoint_at}
use Rattle.pol_requests.specs.Causes.{endpoint_fault}

pub no_fault_if : (b : Bool) (this : Fault) (others : Option Fault) → fault_if b this others ≡ None → (b ≡ false) × (others ≡ None)
no_fault_if true this others is = absurd cc
no_fault_if false this others is = (refl, is)

first_of_four : (a b c d : Bool) (last : Option Fault) (this : Fault)
    → fault_if a fault.ReservedLabel (fault_if b fault.DuplicateEndpoint (fault_if c fault.EndpointsFull (fault_if d fault.AddressTaken None))) ≡ Some this
    → fault_if a fault.ReservedLabel (fault_if b fault.DuplicateEndpoint (fault_if c fault.EndpointsFull (fault_if d fault.AddressTaken last))) ≡ Some this
first_of_four true b c d last this is = is
first_of_four false true c d last this is = is
first_of_four false false true d last this is = is
first_of_four false false false true last this is = is
first_of_four false false false false last this is = absurd cc

none_of_four : (a b c d : Bool) (last : Option Fault)
    → fault_if a fault.ReservedLabel (fault_if b fault.DuplicateEndpoint (fault_if c fault.EndpointsFull (fault_if d fault.AddressTaken None))) ≡ None
    → fault_if a fault.ReservedLabel (fault_if b fault.DuplicateEndpoint (fault_if c fault.EndpointsFull (fault_if d fault.AddressTaken last))) ≡ last
none_of_four true b c d last is = absurd cc
none_of_four false true c d last is = absurd cc
none_of_four false false true d last is = absurd cc
none_of_four false false false true last is = absurd cc
none_of_four false false false false last is = refl

module _ (s : State) (name : List ℕ) (labels : List Label) (address : Addr) where
  pub endpoint_first : (this : Fault) → endpoint_fault s name labels address ≡ Some this → fault_of s (AddEndpoint name labels address) ≡ Some this
  endpoint_first this is =
      first_of_four (has_reserved labels && not (is_init labels)) (is_some (endpoint_of name s.endpoints)) (nat_le ENDPOINTS_MAX (length s.endpoints)) (is_taken s.endpoints address)
      (fault_if (is_exhausted labels s.identities) fault.IdentitiesExhausted None) this is

  pub endpoint_last : endpoint_fault s name labels address ≡ None
      → fault_of s (AddEndpoint name labels address) ≡ fault_if (is_exhausted labels s.identities) fault.IdentitiesExhausted None
  endpoint_last is =
      none_of_four (has_reserved labels && not (is_init labels)) (is_some (endpoint_of name s.endpoints)) (nat_le ENDPOINTS_MAX (length s.endpoints)) (is_taken s.endpoints address)
      (fault_if (is_exhausted labels s.identities) fault.IdentitiesExhausted None) is

  pub endpoint_exhausted : endpoint_fault s name labels address ≡ None → is_exhausted labels s.identities ≡ true → fault_of s (AddEndpoint name labels address) ≡ Some fault.IdentitiesExhausted
  endpoint_exhausted none full = endpoint_last none ∙ ap (λ b. fault_if b fault.IdentitiesExhausted None) full

-- what isn't there
pub not_some : {X : Type 0} (o : Option X) → is_some o ≡ false → o ≡ None
not_some None is = refl
not_some (Some x) is = absurd cc

pub not_none : {X : Type 0} (o : Option X) → is_none o ≡ false → (x : X) × (o ≡ Some x)
not_none None is = absurd cc
not_none (Some x) is = (x, refl)

-- whether some element passes
pub is_there : {X : Type 0} (p : X → Bool) (xs : List X) → is_some (find p xs) ≡ list_any p xs
is_there p [] = refl
is_there p (x ∷ xs) = elim (p x) as (λ b. is_some (if b then Some x else find p xs) ≡ (b || list_any p xs)) [ true ↦ refl | false ↦ is_there p xs ]

pub some_there : {X : Type 0} (p : X → Bool) (xs : List X) (found : Option (Bor X)) → option_copied found ≡ find p xs → is_some found ≡ list_any p xs
some_there p xs None is = ap is_some is ∙ is_there p xs
some_there p xs (Some x) is = ap is_some is ∙ is_there p xs

pub none_passes : {X : Type 0} (p : X → Bool) (xs : List X) → list_any p xs ≡ false → find p xs ≡ None
none_passes p xs none = not_some (find p xs) (is_there p xs ∙ none)

-- what it means that a new endpoint has no fault
pub record MayBeAdded (s : State) (name : List ℕ) (labels : List Label) (address : Addr) : Type 0 where
  pub allowed : (has_reserved labels && not (is_init labels)) ≡ false
  pub new_name : endpoint_of name s.endpoints ≡ None
  pub new_address : endpoint_at address s.endpoints ≡ None
  pub room : is_exhausted labels s.identities ≡ false

pub may_be_added : (s : State) (name : List ℕ) (labels : List Label) (address : Addr) → fault_of s (AddEndpoint name labels address) ≡ None → MayBeAdded s name labels address
may_be_added s name labels address none =
    let first = no_fault_if (has_reserved labels && not (is_init labels)) fault.ReservedLabel _ none in
    let second = no_fault_if (is_some (endpoint_of name s.endpoints)) fault.DuplicateEndpoint _ first.1 in
    let third = no_fault_if (nat_le ENDPOINTS_MAX (length s.endpoints)) fault.EndpointsFull _ second.1 in
    let fourth = no_fault_if (is_taken s.endpoints address) fault.AddressTaken _ third.1 in
    let fifth = no_fault_if (is_exhausted labels s.identities) fault.IdentitiesExhausted None fourth.1 in
    record {
      allowed = first.0;
      new_name = not_some (endpoint_of name s.endpoints) second.0;
      new_address = none_passes _ s.endpoints fourth.0;
      room = fifth.0;
    }

-- and a new named identity
pub record MayBeNamed (s : State) (name : List ℕ) (labels : List Label) : Type 0 where
  pub allowed : has_reserved labels ≡ false
  pub new_name : named_of name s.named ≡ None
  pub room : is_exhausted labels s.identities ≡ false

pub may_be_named : (s : State) (name : List ℕ) (labels : List Label) → fault_of s (AddIdentity name labels) ≡ None → MayBeNamed s name labels
may_be_named s name labels none =
    let first = no_fault_if (has_reserved labels) fault.ReservedLabel _ none in
    let second = no_fault_if (is_some (named_of name s.named)) fault.DuplicateIdentityName _ first.1 in
    let third = no_fault_if (is_exhausted labels s.identities) fault.IdentitiesExhausted None second.1 in
    record { allowed = first.0; new_name = not_some (named_of name s.named) second.0; room = third.0 }

-- whether a name holds a number
pub some_number : (o : Option NamedIdentity) → is_some (option_map (λ identity. identity.number) o) ≡ is_some o
some_number None = refl
some_number (Some identity) = refl

-- a name that is taken, and numbers that ran out
module _ (s : State) (name : List ℕ) (labels : List Label) (allowed : has_reserved labels ≡ false) where
  pub name_taken : is_some (named_of name s.named) ≡ true → fault_of s (AddIdentity name labels) ≡ Some fault.DuplicateIdentityName
  name_taken taken =
      ap (λ b. fault_if b fault.ReservedLabel (fault_if (is_some (named_of name s.named)) fault.DuplicateIdentityName (fault_if (is_exhausted labels s.identities) fault.IdentitiesExhausted None))) allowed
      ∙ ap (λ b. fault_if b fault.DuplicateIdentityName (fault_if (is_exhausted labels s.identities) fault.IdentitiesExhausted None)) taken

  pub name_exhausted : is_some (named_of name s.named) ≡ false → is_exhausted labels s.identities ≡ true → fault_of s (AddIdentity name labels) ≡ Some fault.IdentitiesExhausted
  name_exhausted fresh full =
      ap (λ b. fault_if b fault.ReservedLabel (fault_if (is_some (named_of name s.named)) fault.DuplicateIdentityName (fault_if (is_exhausted labels s.identities) fault.IdentitiesExhausted None))) allowed
      ∙ ap (λ b. fault_if b fault.DuplicateIdentityName (fault_if (is_exhausted labels s.identities) fault.IdentitiesExhausted None)) fresh
      ∙ ap (λ b. fault_if b fault.IdentitiesExhausted None) full

-- what goes is there
pub endpoint_there : (s : State) (name : List ℕ) → fault_of s (RemoveEndpoint name) ≡ None → (endpoint : Endpoint) × (endpoint_of name s.endpoints ≡ Some endpoint)
endpoint_there s name none = not_none (endpoint_of name s.endpoints) (no_fault_if (is_none (endpoint_of name s.endpoints)) fault.UnknownEndpoint None none).0

pub name_there : (s : State) (name : List ℕ) → fault_of s (RemoveIdentity name) ≡ None → (identity : NamedIdentity) × (named_of name s.named ≡ Some identity)
name_there s name none = not_none (named_of name s.named) (no_fault_if (is_none (named_of name s.named)) fault.UnknownIdentityName None none).0
