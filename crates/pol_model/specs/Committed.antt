-- What an accepted request is answered, from the state that it made.
use Rattle.std.specs.Prelude.{ℕ, ◌+◌, max, List, [], ◌∷◌, Option, None, option_map}
use Rattle.pol_model.specs.declared.answer.Committed.{Committed}
use Rattle.pol_model.specs.declared.request.Request.{Request}
use Rattle.pol_model.specs.declared.request.Request.TheVariants.{AddEndpoint, RemoveEndpoint, AddIdentity, RemoveIdentity, Apply, Remove, SetMode}
use Rattle.pol_model.specs.declared.row.Endpoint.{Endpoint}
use Rattle.pol_model.specs.State.{State}
use Rattle.pol_model.specs.Endpoints.{endpoint_of, named_of}

-- the identity that the state gives to what the request added
abbrev pub identity_given : State → Request → Option ℕ
identity_given s (AddEndpoint name labels address) = option_map (λ endpoint. endpoint.identity) (endpoint_of name s.endpoints)
identity_given s (RemoveEndpoint name) = None
identity_given s (AddIdentity name labels) = option_map (λ identity. identity.number) (named_of name s.named)
identity_given s (RemoveIdentity name) = None
identity_given s (Apply policy) = None
identity_given s (Remove key) = None
identity_given s (SetMode mode) = None

-- one more than the greatest slot, 0 where no endpoint is live
abbrev pub slots_of : List Endpoint → ℕ
slots_of [] = 0
slots_of (endpoint ∷ others) = max (endpoint.slot + 1) (slots_of others)

-- the answer to a request that made this state
abbrev pub committed_of : State → Request → Committed
committed_of s request = record {
  revision = s.revision;
  identity = identity_given s request;
  slots = slots_of s.endpoints;
}
