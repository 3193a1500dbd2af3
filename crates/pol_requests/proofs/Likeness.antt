-- Rows that are like a state give the same faults, the same changes and the same rows of identities.
use Rattle.std.proofs.Common.{◌≡◌, Option, None, Some, option_map, is_some, is_none, refl, ap, ◌∙◌}
use Rattle.pol_model.specs.declared.answer.Fault.TheVariants as fault
use Rattle.pol_model.specs.declared.request.Request.{Request}
use Rattle.pol_model.specs.declared.request.Request.TheVariants.{AddEndpoint, RemoveEndpoint, AddIdentity, RemoveIdentity, Apply, Remove, SetMode}
use Rattle.pol_model.specs.declared.row.NamedIdentity.{NamedIdentity}
use Rattle.pol_model.specs.State.{State}
use Rattle.pol_model.specs.After.{after}
use Rattle.pol_model.specs.Endpoints.{named_of}
use Rattle.pol_model.specs.Fault.{fault_if, fault_of, has_reserved, is_exhausted}
use Rattle.pol_model.specs.Identities.{number_released}
use Rattle.pol_model_laws.specs.Holding.{rows_taken}
use Rattle.pol_requests.specs.declared.prepared.TableChange.TheVariants as change
use Rattle.pol_store.specs.Store.{IsLike}
use Rattle.pol_requests.specs.Prepared.{change_for, or_none}

-- a number is there for both, or for neither
some_by_number : (a b : Option NamedIdentity) → option_map (λ identity. identity.number) a ≡ option_map (λ identity. identity.number) b → is_some a ≡ is_some b
some_by_number None None same = refl
some_by_number None (Some y) same = absurd cc
some_by_number (Some x) None same = absurd cc
some_by_number (Some x) (Some y) same = refl

none_by_number : (a b : Option NamedIdentity) → option_map (λ identity. identity.number) a ≡ option_map (λ identity. identity.number) b → is_none a ≡ is_none b
none_by_number None None same = refl
none_by_number None (Some y) same = absurd cc
none_by_number (Some x) None same = absurd cc
none_by_number (Some x) (Some y) same = refl

module _ (s rows : State) (like : IsLike s rows) where
  -- but for the order of the names they are the state
  pub but_names : rows ≡ record s { named = rows.named }
  but_names = λ i. record {
    revision = like.revision i;
    mode = like.mode i;
    identities = like.identities i;
    named = rows.named;
    policies = like.policies i;
    endpoints = like.endpoints i;
  }

  pub like_fault : (request : Request) → fault_of rows request ≡ fault_of s request
  like_fault (AddEndpoint name labels address) = ap (λ (t : State). fault_of t (AddEndpoint name labels address)) but_names
  like_fault (RemoveEndpoint name) = ap (λ (t : State). fault_of t (RemoveEndpoint name)) but_names
  like_fault (AddIdentity name labels) =
      ap (λ (t : State). fault_of t (AddIdentity name labels)) but_names
      ∙ ap (λ b. fault_if (has_reserved labels) fault.ReservedLabel (fault_if b fault.DuplicateIdentityName (fault_if (is_exhausted labels s.identities) fault.IdentitiesExhausted None)))
      (some_by_number (named_of name rows.named) (named_of name s.named) (like.named name))
  like_fault (RemoveIdentity name) =
      ap (λ b. fault_if b fault.UnknownIdentityName None) (none_by_number (named_of name rows.named) (named_of name s.named) (like.named name))
  like_fault (Apply policy) = ap (λ (t : State). fault_of t (Apply policy)) but_names
  like_fault (Remove key) = ap (λ (t : State). fault_of t (Remove key)) but_names
  like_fault (SetMode mode) = refl

  pub like_change : (request : Request) → change_for rows request ≡ change_for s request
  like_change (AddEndpoint name labels address) = ap (λ (t : State). change_for t (AddEndpoint name labels address)) but_names
  like_change (RemoveEndpoint name) = ap (λ (t : State). change_for t (RemoveEndpoint name)) but_names
  like_change (AddIdentity name labels) = ap (λ (t : State). change_for t (AddIdentity name labels)) but_names
  like_change (RemoveIdentity name) = ap (λ number. change.NotNamed name (or_none number)) (like.named name)
  like_change (Apply policy) = ap (λ (t : State). change_for t (Apply policy)) but_names
  like_change (Remove key) = ap (λ (t : State). change_for t (Remove key)) but_names
  like_change (SetMode mode) = refl

  pub like_taken : (request : Request) → rows_taken rows request ≡ rows_taken s request
  like_taken (AddEndpoint name labels address) = ap (λ (t : State). rows_taken t (AddEndpoint name labels address)) but_names
  like_taken (RemoveEndpoint name) = like.identities
  like_taken (AddIdentity name labels) = ap (λ (t : State). rows_taken t (AddIdentity name labels)) but_names
  like_taken (RemoveIdentity name) = like.identities
  like_taken (Apply policy) = ap (λ (t : State). rows_taken t (Apply policy)) but_names
  like_taken (Remove key) = like.identities
  like_taken (SetMode mode) = like.identities

  pub like_after : (request : Request) → (after rows request).identities ≡ (after s request).identities
  like_after (AddEndpoint name labels address) = ap (λ (t : State). (after t (AddEndpoint name labels address)).identities) but_names
  like_after (RemoveEndpoint name) = ap (λ (t : State). (after t (RemoveEndpoint name)).identities) but_names
  like_after (AddIdentity name labels) = ap (λ (t : State). (after t (AddIdentity name labels)).identities) but_names
  like_after (RemoveIdentity name) = λ i. number_released (like.named name i) (like.identities i)
  like_after (Apply policy) = ap (λ (t : State). (after t (Apply policy)).identities) but_names
  like_after (Remove key) = ap (λ (t : State). (after t (Remove key)).identities) but_names
  like_after (SetMode mode) = like.identities
