-- The state after a list of requests: one fold. A request that has a fault is never in such a list.
use Rattle.std.specs.Prelude.{ℕ, ◌+◌, List, [], ◌∷◌, ◌++◌, option_map}
use Rattle.pol_addr.specs.declared.address.Addr.{Addr}
use Rattle.pol_labels.specs.declared.label.Label.{Label}
use Rattle.pol_model.specs.declared.options.Options.{Options}
use Rattle.pol_model.specs.declared.request.Request.{Request}
use Rattle.pol_model.specs.declared.request.Request.TheVariants.{AddEndpoint, RemoveEndpoint, AddIdentity, RemoveIdentity, Apply, Remove, SetMode}
use Rattle.pol_model.specs.declared.row.Endpoint.{Endpoint}
use Rattle.pol_model.specs.State.{State}
use Rattle.pol_model.specs.Numbers.{placed_by}
use Rattle.pol_model.specs.Identities.{reserved_identities, number_for, labels_held, number_released}
use Rattle.pol_model.specs.Policies.{applied, removed, identities_with, identities_without}
use Rattle.pol_model.specs.Endpoints.{endpoint_of, without_endpoint, free_slot, named_of, without_named}

-- before the first request
abbrev pub start : Options → State
start options = record {
  revision = 0;
  mode = options.mode;
  identities = reserved_identities;
  named = [];
  policies = [];
  endpoints = [];
}

-- a new endpoint holds the number of its labels, and takes the least free slot
abbrev pub new_endpoint : State → List ℕ → List Label → Addr → Endpoint
new_endpoint s name labels address = record {
  name = name;
  slot = free_slot s.endpoints;
  added = s.revision + 1;
  labels = labels;
  identity = number_for labels s.identities;
  address = address;
}

-- what a request changes, the revision aside
abbrev pub changed : State → Request → State
changed s (AddEndpoint name labels address) = record s {
  identities = labels_held labels s.identities;
  endpoints = placed_by (λ endpoint. endpoint.slot) (new_endpoint s name labels address) s.endpoints;
}
changed s (RemoveEndpoint name) = record s {
  identities = number_released (option_map (λ endpoint. endpoint.identity) (endpoint_of name s.endpoints)) s.identities;
  endpoints = without_endpoint name s.endpoints;
}
changed s (AddIdentity name labels) = record s {
  identities = labels_held labels s.identities;
  named = s.named ++ record { name = name; number = number_for labels s.identities } ∷ [];
}
changed s (RemoveIdentity name) = record s {
  identities = number_released (option_map (λ identity. identity.number) (named_of name s.named)) s.identities;
  named = without_named name s.named;
}
changed s (Apply policy) = record s {
  identities = identities_with (record { policy = policy; stamp = s.revision + 1 }) s.policies s.identities;
  policies = applied (record { policy = policy; stamp = s.revision + 1 }) s.policies;
}
changed s (Remove key) = record s {
  identities = identities_without key s.policies s.identities;
  policies = removed key s.policies;
}
changed s (SetMode mode) = record s { mode = mode }

-- the state after one request more
abbrev pub after : State → Request → State
after s request = record (changed s request) { revision = s.revision + 1 }

-- the state after the requests, from this one on
abbrev pub after_all : State → List Request → State
after_all s [] = s
after_all s (request ∷ requests) = after_all (after s request) requests

-- the state after the requests
abbrev pub state_of : Options → List Request → State
state_of options requests = after_all (start options) requests
