-- Lists of requests that all commit: each is valid, and has no fault in the state that those before it made.
use Rattle.std.specs.Prelude.{◌≡◌, List, [], ◌∷◌, None}
use Rattle.pol_model.specs.declared.options.Options.{Options}
use Rattle.pol_model.specs.declared.request.Request.{Request}
use Rattle.pol_model.specs.State.{State}
use Rattle.pol_model.specs.After.{start, after}
use Rattle.pol_model.specs.Fault.{fault_of}
use Rattle.pol_model_laws.specs.Valid.{IsValid}

-- the request may commit in the state
pub record MayCommit (s : State) (request : Request) : Type 0 where
  pub valid : IsValid request
  pub no_fault : fault_of s request ≡ None

-- the requests commit one after another, from this state on
abbrev pub CommitFrom : State → List Request → Type 0
CommitFrom s [] = Unit {0}
CommitFrom s (request ∷ others) = MayCommit s request × CommitFrom (after s request) others

-- the requests commit one after another
abbrev pub WithoutFaults : Options → List Request → Type 0
WithoutFaults options requests = CommitFrom (start options) requests
