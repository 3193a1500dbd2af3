-- What a repository is seen as.
use Rattle.std.specs.Prelude.{List, Option}
use Rattle.pol_model.specs.declared.options.Options.{Options}
use Rattle.pol_model.specs.declared.request.Request.{Request}
use Rattle.pol_model.specs.After.{state_of}
use Rattle.pol_model.specs.State.{State}

-- the options, the requests so far, and the request that is prepared, if there is one
pub record Repository : Type 0 where
  pub options : Options
  pub journal : List Request
  pub prepared : Option Request

-- the present state: the one after the requests so far
abbrev pub state_in : Repository → State
state_in repo = state_of repo.options repo.journal
