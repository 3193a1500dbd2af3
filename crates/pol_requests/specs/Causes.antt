-- Why a request isn't prepared, where one call tells it.
use Rattle.std.specs.Prelude.{ℕ, List, [], Option}
use Rattle.pol_addr.specs.declared.address.Addr.{Addr}
use Rattle.pol_labels.specs.declared.label.Label.{Label}
use Rattle.pol_model.specs.declared.answer.Fault.{Fault}
use Rattle.pol_model.specs.declared.answer.Fault.TheVariants.{LocalExhausted}
use Rattle.pol_model.specs.declared.request.Request.TheVariants.{AddEndpoint}
use Rattle.pol_model.specs.Fault.{fault_of}
use Rattle.pol_model.specs.State.{State}
use Rattle.pol_ident.specs.declared.error.IdentError.{IdentError}
use Rattle.pol_ident.specs.declared.error.IdentError.TheVariants as ident
use Rattle.pol_requests.specs.declared.error.PrepareError.{PrepareError}
use Rattle.pol_requests.specs.declared.error.PrepareError.TheVariants as ready

-- the fault of a new endpoint, but for numbers that ran out: the one where no number is held
abbrev pub endpoint_fault : State → List ℕ → List Label → Addr → Option Fault
endpoint_fault s name labels address = fault_of (record s { identities = [] }) (AddEndpoint name labels address)

-- why a policy isn't prepared, where its prefixes aren't held
abbrev pub policy_error : IdentError → PrepareError
policy_error ident.Exhausted = ready.Fault LocalExhausted
policy_error ident.Memory = ready.Memory
