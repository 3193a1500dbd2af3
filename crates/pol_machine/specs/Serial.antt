-- The serial run: what one session asks, one after another, and what the machine answers to it.
use Rattle.std.specs.Prelude.{◌≡◌, ⊤, ℕ, List, [], ◌∷◌, map, Option, None, Some, Result, Ok, Err}
use Rattle.std.specs.List.{filter_map, flat_map}
use Rattle.std.specs.List.Sorted.{IsPermutation}
use mathlib.Core.List.{IsPrefix}
use Rattle.pol_history.specs.declared.event.EndpointId.{EndpointId}
use Rattle.pol_history.specs.declared.event.HistoryEvent.{HistoryEvent}
use Rattle.pol_history.specs.declared.event.LastReport.{LastReport}
use Rattle.pol_history.specs.declared.machine.Event.{Event}
use Rattle.pol_history.specs.declared.machine.Event.TheVariants as step
use Rattle.pol_history.specs.declared.machine.Reply.TheVariants as reply
use Rattle.pol_history.specs.Commits.{revision_of, state_now}
use Rattle.pol_history.specs.Machine.{Machine, endpoint_id, machine_after, machine_from, step_of}
use Rattle.pol_history.specs.Reports.{last_report, size_at}
use Rattle.pol_model.specs.Explain.{explain_of}
use Rattle.pol_model.specs.declared.answer.FullSlot.{FullSlot}
use Rattle.pol_model.specs.declared.answer.Trace.{Trace}
use Rattle.pol_model.specs.declared.options.Options.{Options}
use Rattle.pol_model.specs.declared.request.Query.{Query}
use Rattle.pol_model.specs.declared.request.Request.{Request}
use Rattle.pol_model.specs.declared.row.Endpoint.{Endpoint}
use Rattle.pol_model.specs.FullRows.{FullRowsAscend}
use Rattle.pol_machine.specs.Full.{row_told}
use Rattle.pol_machine.specs.Stands.{Stands, Stored, over_limit}
use Rattle.pol_machine.specs.declared.asked.Asked.{Asked}
use Rattle.pol_machine.specs.declared.asked.Asked.TheVariants.{Commit, Sync, Look, Explain}
use Rattle.pol_machine.specs.declared.asked.SerialAnswer.{SerialAnswer}
use Rattle.pol_machine.specs.declared.asked.SerialAnswer.TheVariants.{Replied, Synced, Traced}

-- ---- a sync

-- the take and the finish of a slot
abbrev pub turn_of : ℕ → List Event
turn_of slot = step.Take slot ∷ step.Finish slot ∷ []

abbrev pub turns_at : List ℕ → List Event
turns_at slots = flat_map turn_of slots

-- those of the slot of each live endpoint, in the order of the slots
abbrev pub turns_in : Options → List HistoryEvent → List Event
turns_in options history = flat_map (λ e. turn_of e.slot) (state_now options history).endpoints

-- the row of an endpoint whose map, where it was reported last, is too large
abbrev pub row_reported : Options → List HistoryEvent → EndpointId → Option LastReport → Option FullSlot
row_reported options history endpoint None = None
row_reported options history endpoint (Some report) =
    row_told endpoint.name report (over_limit options.map_max (size_at options history endpoint report.revision))

abbrev pub row_of : Options → List HistoryEvent → Endpoint → Option FullSlot
row_of options history e = row_reported options history (endpoint_id e) (last_report (endpoint_id e) history)

-- those of the live endpoints
abbrev pub rows_in : Options → List HistoryEvent → List FullSlot
rows_in options history = filter_map (row_of options history) (state_now options history).endpoints

-- ---- one question

-- what the machine does
abbrev pub events_of : Options → Machine → Asked → List Event
events_of options m (Commit request) = step.Commit request ∷ []
events_of options m Sync = turns_in options m.history
events_of options m (Look query) = step.Look query ∷ []
events_of options m (Explain query) = []

-- and the machine afterwards
abbrev pub machine_asked : Options → Machine → Asked → Machine
machine_asked options m asked = machine_from options m (events_of options m asked)

-- the rows are those of a history, by name and then revision
pub record ListsRows (options : Options) (history : List HistoryEvent) (full : List FullSlot) : Type 0 where
  pub those : IsPermutation (rows_in options history) full
  pub sorted : FullRowsAscend full

-- what is said of a query's reasons, at the revision of the history: no endpoint of its name is live, or they are these
abbrev pub IsExplained : Options → List HistoryEvent → Query → Option Trace → SerialAnswer → Type 0
IsExplained options history query None said = said ≡ Replied (reply.NoEndpoint (revision_of history))
IsExplained options history query (Some trace) said = said ≡ Traced (revision_of history) trace

-- The answer: the machine's reply, the rows after a sync with its revision, or the reasons.
abbrev pub SyncSaid : Options → Machine → SerialAnswer → Type 0
SyncSaid options m (Replied now) = ⊥
SyncSaid options m (Synced revision full) =
    (revision ≡ revision_of m.history) × ListsRows options (machine_asked options m Sync).history full
SyncSaid options m (Traced revision trace) = ⊥

abbrev pub IsSaid : Options → Machine → Asked → SerialAnswer → Type 0
IsSaid options m (Commit request) said = said ≡ Replied (step_of options m (step.Commit request)).0
IsSaid options m Sync said = SyncSaid options m said
IsSaid options m (Look query) said = said ≡ Replied (step_of options m (step.Look query)).0
IsSaid options m (Explain query) said = IsExplained options m.history query (explain_of options (state_now options m.history) query) said

-- nothing is said after want of memory
abbrev pub SaidTo : {E : Type 0} → Options → Machine → Asked → Result SerialAnswer E → Type 0
SaidTo options m asked (Ok said) = IsSaid options m asked said
SaidTo options m asked (Err error) = ⊤

-- ---- after requests

-- the machine that committed these requests, one after another, and did nothing else
abbrev pub machine_of : Options → List Request → Machine
machine_of options requests = machine_after options (map step.Commit requests)

-- ---- what is left after want of memory

-- the machine after a beginning of these events
pub record StandsWithin (options : Options) (m : Machine) (events : List Event) (new : Stored) : Type 0 where
  pub done : List Event
  pub begins : IsPrefix done events
  pub stands : Stands new (machine_from options m done)

-- the machine after all events, and after want of memory after a beginning of them
abbrev pub LedTo : {A : Type 0} {E : Type 0} → Options → Machine → List Event → Stored → Result A E → Type 0
LedTo options m events new (Ok done) = Stands new (machine_from options m events)
LedTo options m events new (Err error) = StandsWithin options m events new
