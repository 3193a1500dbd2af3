-- How what a pass has seen grows in a call.
use Rattle.std.specs.Prelude.{◌≡◌, ℕ, List, [], ◌++◌}
use mathlib.Core.List.{IsPrefix}
use Rattle.pol_model.specs.declared.options.Options.{Options}
use Rattle.pol_model.specs.declared.request.Request.{Request}
use Rattle.pol_history.specs.declared.event.HistoryEvent.{HistoryEvent}
use Rattle.pol_history.specs.Commits.{commits_by}
use Rattle.pol_history.specs.Legal.{IsLegal}

-- what a pass has: the events that it has seen, and the requests that it committed
pub record PassView : Type 0 where
  pub history : List HistoryEvent
  pub mine : List Request

-- what a new pass has
abbrev pub nothing_yet : PassView
nothing_yet = record { history = []; mine = [] }

-- the history goes on and is legal, and the pass committed these requests
pub record Grows (options : Options) (old new : PassView) (own : List Request) : Type 0 where
  pub goes_on : IsPrefix old.history new.history
  pub legal : IsLegal options new.history
  pub mine : new.mine ≡ old.mine ++ own

-- Such a call of this pass, which then has seen all its own commits: they are the requests that it committed, no more and
-- no fewer. So in each call that may wait and has memory, but where a pass learns, and where a session is played.
pub record GrowsWhole (options : Options) (pass : ℕ) (old new : PassView) (own : List Request) : Type 0 where
  pub grows : Grows options old new own
  pub commits : commits_by pass new.history ≡ new.mine

-- a pass: its number, and what it has
pub record PassState : Type 0 where
  pub number : ℕ
  pub has : PassView

-- a call of the pass, which keeps its number, and the same of a call after which it has seen all its own commits
pub record PassGrows (options : Options) (old new : PassState) (own : List Request) : Type 0 where
  pub number : new.number ≡ old.number
  pub grows : Grows options old.has new.has own

pub record PassGrowsWhole (options : Options) (old new : PassState) (own : List Request) : Type 0 where
  pub number : new.number ≡ old.number
  pub whole : GrowsWhole options old.number old.has new.has own
