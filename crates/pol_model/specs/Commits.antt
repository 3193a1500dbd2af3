-- What one request does to the state: it commits, or it is refused. Each way of keeping the state has this form.
use Rattle.std.specs.Prelude.{◌≡◌, None, Some}
use Rattle.pol_model.specs.declared.answer.Committed.{Committed}
use Rattle.pol_model.specs.declared.answer.Refused.{Refused}
use Rattle.pol_model.specs.declared.request.Request.{Request}
use Rattle.pol_model.specs.State.{State}
use Rattle.pol_model.specs.After.{after}
use Rattle.pol_model.specs.Committed.{committed_of}
use Rattle.pol_model.specs.Fault.{fault_of}

-- the request has no fault, the new state is the one after it, and this is its answer
pub record Commits (old new : State) (request : Request) (done : Committed) : Type 0 where
  pub no_fault : fault_of old request ≡ None
  pub state : new ≡ after old request
  pub answer : done ≡ committed_of new request

-- the request has this fault in the state, at the state's revision
pub record IsRefusedIn (s : State) (request : Request) (refused : Refused) : Type 0 where
  pub fault : fault_of s request ≡ Some refused.fault
  pub revision : refused.revision ≡ s.revision
