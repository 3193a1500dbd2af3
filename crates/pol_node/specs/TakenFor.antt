-- What a take for a slot answers.
use Rattle.std.specs.Prelude.{◌≡◌, ℕ, List, Option, None, Result, Ok, Err, option_map}
use Rattle.pol_model.specs.declared.options.Options.{Options}
use Rattle.pol_history.specs.declared.event.HistoryEvent.{HistoryEvent}
use Rattle.pol_history.specs.Commits.{state_now}
use Rattle.pol_history.specs.Machine.{endpoint_in}
use Rattle.pol_taken.specs.declared.error.TakeError.{TakeError}
use Rattle.pol_taken.specs.declared.error.TakeError.TheVariants as no_take
use Rattle.pol_taken.specs.declared.taken.Taken.{Taken}
use Rattle.pol_node.specs.declared.kept.KeptEndpoint.{KeptEndpoint}
use Rattle.pol_node.specs.declared.kept.NotTaken.{NotTaken}
use Rattle.pol_node.specs.declared.kept.NotTaken.TheVariants as not_taken
use Rattle.pol_node.specs.Kept.{IsOvertaken, StaysAt, report_in, since_of}
use Rattle.pol_node.specs.Slot.{IsTakenAt, TellsMovesFrom}

-- it was taken for the slot, and nothing else than was kept is reported of the slot's endpoint
pub record IsTakenFor (options : Options) (history : List HistoryEvent) (slot : ℕ) (old new : Option KeptEndpoint) (taken : Taken) : Type 0 where
  pub is : IsTakenAt options history slot taken
  pub moves : TellsMovesFrom options history (since_of new) taken
  pub stays : StaysAt options history slot old new

-- what was taken, or why nothing was
abbrev pub TakesFor : Options → List HistoryEvent → ℕ → Option KeptEndpoint → Option KeptEndpoint → Result Taken NotTaken → Type 0
TakesFor options history slot old new (Ok taken) = IsTakenFor options history slot old new taken
TakesFor options history slot old new (Err not_taken.Gone) = endpoint_in slot (state_now options history).endpoints ≡ None
TakesFor options history slot old new (Err not_taken.Memory) = StaysAt options history slot old new
TakesFor options history slot old new (Err not_taken.Overtaken) = IsOvertaken options history slot (option_map report_in old)

-- a take of the repository, as one for a slot
abbrev pub told_of : Result Taken TakeError → Result Taken NotTaken
told_of (Ok taken) = Ok taken
told_of (Err no_take.Gone) = Err not_taken.Gone
told_of (Err no_take.Memory) = Err not_taken.Memory
