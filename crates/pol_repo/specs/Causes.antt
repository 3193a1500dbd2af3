-- Why a request isn't prepared.
use Rattle.pol_model.specs.declared.answer.CommitError.{CommitError}
use Rattle.pol_model.specs.declared.answer.CommitError.TheVariants.{Refused, Memory}
use Rattle.pol_model.specs.declared.request.Request.{Request}
use Rattle.pol_model.specs.Commits.{IsRefusedIn}
use Rattle.pol_model.specs.State.{State}

-- its fault, at the present revision, or want of memory
abbrev pub IsCause : State → Request → CommitError → Type 0
IsCause s request (Refused refused) = IsRefusedIn s request refused
IsCause s request Memory = Unit {0}
