-- What a change makes of the slots, and the identity that it gives.
use Rattle.std.specs.Prelude.{ℕ, ◌+◌, ◌<◌, max, List, Option, Some, None}
use Rattle.pol_model.specs.declared.limits.TheConstants.{ENDPOINTS_MAX}
use Rattle.pol_model.specs.declared.row.Endpoint.{Endpoint}
use Rattle.pol_model.specs.Committed.{slots_of}
use Rattle.pol_model.specs.Endpoints.{without_endpoint}
use Rattle.pol_requests.specs.declared.prepared.TableChange.{TableChange}
use Rattle.pol_requests.specs.declared.prepared.TableChange.TheVariants as change

-- the identity of what the change adds
abbrev pub identity_in : TableChange → Option ℕ
identity_in (change.Endpoint endpoint name) = Some endpoint.identity
identity_in (change.Named name number) = Some number
identity_in _ = None

-- one more than the greatest slot once the change is done
abbrev pub slots_with : TableChange → List Endpoint → ℕ
slots_with (change.Endpoint endpoint name) endpoints = max (slots_of endpoints) (endpoint.slot + 1)
slots_with (change.NoEndpoint name number) endpoints = slots_of (without_endpoint name endpoints)
slots_with _ endpoints = slots_of endpoints

-- the slot of an endpoint that comes is one that there is
abbrev pub FitsSlots : TableChange → Type 0
FitsSlots (change.Endpoint endpoint name) = endpoint.slot < ENDPOINTS_MAX
FitsSlots _ = Unit {0}
