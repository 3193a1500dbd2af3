-- What a slot does with what was taken at a history, and what it tells of how that was finished.
use Rattle.std.specs.Prelude.{◌≡◌, ℕ, ◌≤◌, true, false, List, Option, None}
use Rattle.std.specs.Arc.{arc_value}
use Rattle.pol_set_moves.specs.Moves.{TellsMovesSince}
use Rattle.pol_distill.specs.Distilled.{distilled}
use Rattle.pol_slot_map.specs.declared.follow.Followed.{Followed}
use Rattle.pol_slot_map.specs.Followed.{id_in}
use Rattle.pol_history.specs.declared.event.HistoryEvent.{HistoryEvent}
use Rattle.pol_history.specs.declared.turn.SlotTurn.{SlotTurn}
use Rattle.pol_history.specs.declared.turn.SlotTurn.TheVariants as turn
use Rattle.pol_history.specs.Commits.{commits_in, revision_of, state_now}
use Rattle.pol_history.specs.Grows.{PassState}
use Rattle.pol_history.specs.Legal.{IsLegal}
use Rattle.pol_history.specs.Machine.{endpoint_id}
use Rattle.pol_history.specs.SlotTurns.{TellsTurn}
use Rattle.pol_model.specs.declared.answer.FullSlot.{FullSlot}
use Rattle.pol_model.specs.declared.options.Options.{Options}
use Rattle.pol_model.specs.PolicyMap.{policy_map}
use Rattle.pol_taken.specs.declared.taken.Taken.{Taken}
use Rattle.pol_taken.specs.OfState.{IsTakenOf}
use Rattle.pol_node.specs.declared.report.Finished.{Finished}
use Rattle.pol_node.specs.declared.report.Finished.TheVariants as done
use Rattle.pol_node.specs.declared.report.Regen.{Regen}
use Rattle.pol_node.specs.declared.report.Regen.TheVariants as regen
use Rattle.pol_node.specs.Kept.{KeptReport}

-- a slot: what its pass has, and what is kept of its endpoint's reports
pub record SlotState : Type 0 where
  pub pass : PassState
  pub kept : Option KeptReport

-- It was taken for the slot of the state after all commits of the history, which is legal; its filters and sets make the
-- endpoint's canonical map.
pub record IsTakenAt (options : Options) (history : List HistoryEvent) (slot : ℕ) (taken : Taken) : Type 0 where
  pub legal : IsLegal options history
  pub revision : taken.revision ≡ revision_of history
  pub is : IsTakenOf options (state_now options history) slot taken
  pub made : distilled (arc_value taken.filters) taken.sets ≡ policy_map options (state_now options history) taken.endpoint

-- its moves are those since that revision
abbrev pub TellsMovesFrom : Options → List HistoryEvent → Option ℕ → Taken → Type 0
TellsMovesFrom options history since taken = TellsMovesSince options (commits_in history) since taken.sets taken.moves

-- the map of what was taken is made, and all changes since the map that was published last are joined
pub record IsMade (taken : Taken) (f : Followed) : Type 0 where
  pub id : id_in f ≡ endpoint_id taken.endpoint
  pub kept : f.kept ≡ taken.revision
  pub joined : f.behind ≡ None

-- what a regeneration answers, where the map at the revision has so many entries
abbrev pub regen_of : ℕ → ℕ → Finished → Regen
regen_of revision count done.Published = regen.Published revision
regen_of revision count (done.Already published) = regen.Already revision
regen_of revision count done.Full = regen.Full revision count
regen_of revision count done.Gone = regen.Gone

-- what a sync learns, where the row is that of the map
abbrev pub turn_of : FullSlot → Finished → SlotTurn
turn_of row done.Published = turn.Shown
turn_of row (done.Already true) = turn.Shown
turn_of row (done.Already false) = turn.Full row
turn_of row done.Full = turn.Full row
turn_of row done.Gone = turn.Gone

-- it tells what a sync learns, whatever the sync's revision is, if that is at most what had been seen
abbrev pub TellsAnyTurn : Options → ℕ → List HistoryEvent → List HistoryEvent → SlotTurn → Type 0
TellsAnyTurn options slot old new told = (synced : ℕ) → synced ≤ revision_of old → TellsTurn options slot old new synced told
