-- The pure machine: a history, and for each slot at most one endpoint that was taken with a revision.
use Rattle.std.specs.Prelude.{◌≡◌, ℕ, ◌==◌, Bool, true, false, if◌then◌else◌, List, [], ◌∷◌, ◌++◌, length, find, slice_get, Option, None, Some}
use Rattle.pol_mapkey.specs.Entries.{Entry as MapEntry}
use Rattle.pol_model.specs.After.{after}
use Rattle.pol_model.specs.Committed.{committed_of}
use Rattle.pol_model.specs.Fault.{fault_of}
use Rattle.pol_model.specs.PolicyMap.{policy_map}
use Rattle.pol_model.specs.declared.answer.Fault.{Fault}
use Rattle.pol_model.specs.declared.options.Options.{Options}
use Rattle.pol_model.specs.declared.request.Request.{Request}
use Rattle.pol_model.specs.declared.row.Endpoint.{Endpoint}
use Rattle.pol_model.specs.FullRows.{fits_limit}
use Rattle.pol_history.specs.declared.event.EndpointId.{EndpointId}
use Rattle.pol_history.specs.declared.event.HistoryEvent.{HistoryEvent}
use Rattle.pol_history.specs.declared.event.HistoryEvent.TheVariants as event
use Rattle.pol_history.specs.declared.event.LastReport.{LastReport}
use Rattle.pol_history.specs.declared.machine.Event.{Event}
use Rattle.pol_history.specs.declared.machine.Event.TheVariants as step
use Rattle.pol_history.specs.declared.machine.Reply.{Reply}
use Rattle.pol_history.specs.declared.machine.Reply.TheVariants as reply
use Rattle.pol_history.specs.Commits.{commits_by, live_endpoint, revision_of, state_after, state_now}
use Rattle.pol_history.specs.Look.{Looked, NoEndpoint, NotYet, Found, look}
use Rattle.pol_history.specs.Reports.{last_report}

-- an endpoint that was taken, at a revision
pub record Taken : Type 0 where
  pub endpoint : EndpointId
  pub revision : ℕ

pub record Machine : Type 0 where
  pub history : List HistoryEvent
  -- by slot
  pub taken : ℕ → Option Taken

-- before the first step
abbrev pub machine_start : Machine
machine_start = record { history = []; taken = λ slot. None }

-- what the slot has taken is now this
abbrev pub with_taken : ℕ → Option Taken → Machine → Machine
with_taken slot now m = record m { taken = λ other. if other == slot then now else m.taken other }

abbrev pub with_event : HistoryEvent → Machine → Machine
with_event new m = record m { history = m.history ++ new ∷ [] }

-- a reply, and the machine after it
abbrev pub Stepped : Type 0
Stepped = Reply × Machine

-- ---- commit

-- all commits of the machine are of pass 0
abbrev pub commit_of : Machine → Request → HistoryEvent
commit_of m request = event.Commit 0 (length (commits_by 0 m.history)) request

abbrev pub step_commit : Options → Machine → Request → Option Fault → Stepped
step_commit options m request (Some fault) = (reply.Refused (record { revision = revision_of m.history; fault = fault }), m)
step_commit options m request None =
    (reply.Committed (committed_of (after (state_now options m.history) request) request), with_event (commit_of m request) m)

-- ---- take

-- the live endpoint of the slot
abbrev pub endpoint_in : ℕ → List Endpoint → Option Endpoint
endpoint_in slot endpoints = find (λ row. row.slot == slot) endpoints

abbrev pub endpoint_id : Endpoint → EndpointId
endpoint_id row = record { name = row.name; added = row.added }

-- the endpoint is taken at the present revision
abbrev pub taken_now : List HistoryEvent → Endpoint → Taken
taken_now history row = record { endpoint = endpoint_id row; revision = revision_of history }

-- A take replaces what was taken for the slot; one that finds no endpoint changes nothing.
abbrev pub step_take : Machine → ℕ → Option Endpoint → Stepped
step_take m slot None = (reply.Gone, m)
step_take m slot (Some row) = (reply.Took (revision_of m.history), with_taken slot (Some (taken_now m.history row)) m)

-- ---- finish

-- the last report is of this revision
abbrev pub is_reported : ℕ → Option LastReport → Bool
is_reported revision None = false
is_reported revision (Some last) = last.revision == revision

-- the map at the taken revision is published where it fits the limit, and else reported as too large
abbrev pub report_table : Options → Machine → Taken → List MapEntry → Bool → Stepped
report_table options m taken table true = (reply.Published taken.revision, with_event (event.Publish taken.endpoint taken.revision table) m)
report_table options m taken table false =
    (reply.Full taken.revision (length table), with_event (event.Blocked taken.endpoint taken.revision (length table)) m)

-- nothing is reported where the last report is of the taken revision
abbrev pub report_unless : Options → Machine → Taken → List MapEntry → Bool → Stepped
report_unless options m taken table true = (reply.Already taken.revision, m)
report_unless options m taken table false = report_table options m taken table (fits_limit options.map_max (length table))

-- what is done with what was taken, where the endpoint's live row is this
abbrev pub report_taken : Options → Machine → Taken → Option Endpoint → Stepped
report_taken options m taken None = (reply.Gone, m)
report_taken options m taken (Some row) =
    report_unless options m taken (policy_map options (state_after options m.history taken.revision) row)
    (is_reported taken.revision (last_report taken.endpoint m.history))

-- A finish spends what was taken for the slot.
abbrev pub step_finish : Options → Machine → ℕ → Option Taken → Stepped
step_finish options m slot None = (reply.Idle, m)
step_finish options m slot (Some taken) =
    report_taken options (with_taken slot None m) taken (live_endpoint taken.endpoint (state_now options m.history))

-- ---- look

abbrev pub reply_found : Looked → Reply
reply_found (NoEndpoint revision) = reply.NoEndpoint revision
reply_found (NotYet revision) = reply.NotYet revision
reply_found (Found revision word) = reply.Verdict revision word

-- ---- histories of the machine

-- all commits of the history are of pass 0
pub record AreOfPassZero (history : List HistoryEvent) : Type 0 where
  pub each : (i pass number : ℕ) (request : Request) → slice_get history i ≡ Some (event.Commit pass number request) → pass ≡ 0

-- ---- steps

abbrev pub step_of : Options → Machine → Event → Stepped
step_of options m (step.Commit request) = step_commit options m request (fault_of (state_now options m.history) request)
step_of options m (step.Take slot) = step_take m slot (endpoint_in slot (state_now options m.history).endpoints)
step_of options m (step.Finish slot) = step_finish options m slot (m.taken slot)
step_of options m (step.Look query) = (reply_found (look options m.history query), m)

-- the machine after steps
abbrev pub machine_from : Options → Machine → List Event → Machine
machine_from options m [] = m
machine_from options m (next ∷ later) = machine_from options (step_of options m next).1 later

abbrev pub machine_after : Options → List Event → Machine
machine_after options steps = machine_from options machine_start steps

-- the replies to steps
abbrev pub replies_from : Options → Machine → List Event → List Reply
replies_from options m [] = []
replies_from options m (next ∷ later) = (step_of options m next).0 ∷ replies_from options (step_of options m next).1 later

abbrev pub replies_to : Options → List Event → List Reply
replies_to options steps = replies_from options machine_start steps

-- the history that steps give
abbrev pub history_of_steps : Options → List Event → List HistoryEvent
history_of_steps options steps = (machine_after options steps).history

-- some steps give the history
pub record HasSteps (options : Options) (history : List HistoryEvent) : Type 0 where
  pub steps : List Event
  pub give : history_of_steps options steps ≡ history
