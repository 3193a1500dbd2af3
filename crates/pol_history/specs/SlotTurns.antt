-- What a sync learns of the slots, where `old` is what had been seen before a slot's regeneration, and `new` what has been
-- seen after it.
use Rattle.std.specs.Prelude.{⊤, ℕ, ◌+◌, List, [], ◌∷◌, Option, None, Some}
use Rattle.std.specs.List.{filter_map}
use Rattle.pol_model.specs.declared.answer.FullSlot.{FullSlot}
use Rattle.pol_model.specs.declared.options.Options.{Options}
use Rattle.pol_history.specs.declared.event.EndpointId.{EndpointId}
use Rattle.pol_history.specs.declared.event.HistoryEvent.{HistoryEvent}
use Rattle.pol_history.specs.declared.turn.SlotTurn.{SlotTurn}
use Rattle.pol_history.specs.declared.turn.SlotTurn.TheVariants.{Full, Gone, Shown}
use Rattle.pol_history.specs.Calls.{HasPublish, IsRowOf}
use Rattle.pol_history.specs.Regenerate.{IsGone, WasTaken}

-- the slot's endpoint was taken, and a map of it that counts for the sync was published
pub record HasShown (options : Options) (slot : ℕ) (old new : List HistoryEvent) (synced : ℕ) : Type 0 where
  pub endpoint : EndpointId
  pub revision : ℕ
  pub taken : WasTaken options slot old new endpoint revision
  pub publish : HasPublish old new synced endpoint

-- the slot's endpoint was taken, and the row is a map of it that was blocked, and counts for the sync
pub record HasRowOf (options : Options) (slot : ℕ) (old new : List HistoryEvent) (synced : ℕ) (row : FullSlot) : Type 0 where
  pub endpoint : EndpointId
  pub revision : ℕ
  pub taken : WasTaken options slot old new endpoint revision
  pub is : IsRowOf old new synced endpoint row

abbrev pub TellsTurn : Options → ℕ → List HistoryEvent → List HistoryEvent → ℕ → SlotTurn → Type 0
TellsTurn options slot old new synced Shown = HasShown options slot old new synced
TellsTurn options slot old new synced (Full row) = HasRowOf options slot old new synced row
TellsTurn options slot old new synced Gone = IsGone options slot old new

-- the turns of the slots from this one on
abbrev pub EachTells : Options → List HistoryEvent → List HistoryEvent → ℕ → ℕ → List SlotTurn → Type 0
EachTells options old new synced slot [] = ⊤
EachTells options old new synced slot (turn ∷ turns) = TellsTurn options slot old new synced turn × EachTells options old new synced (slot + 1) turns

abbrev pub row_in : SlotTurn → Option FullSlot
row_in Shown = None
row_in (Full row) = Some row
row_in Gone = None

-- the rows that they tell
abbrev pub rows_of : List SlotTurn → List FullSlot
rows_of turns = filter_map row_in turns
