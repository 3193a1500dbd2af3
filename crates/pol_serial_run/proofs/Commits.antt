-- The commits of a machine's history, step by step.
use Rattle.std.proofs.Common.{◌≡◌, ℕ, ◌+◌, Bool, true, false, List, [], ◌∷◌, ◌++◌, length, Option, None, Some, refl, sym, ap, ◌∙◌, arith, append-nil}
use Rattle.std.specs.List.{flat_map}
use Rattle.pol_history.specs.declared.event.HistoryEvent.{HistoryEvent}
use Rattle.pol_history.specs.declared.event.HistoryEvent.TheVariants as event
use Rattle.pol_history.specs.declared.machine.Event.{Event}
use Rattle.pol_history.specs.declared.machine.Event.TheVariants as step
use Rattle.pol_history.specs.Commits.{commits_in, live_endpoint, revision_of, state_after, state_now}
use Rattle.pol_history.specs.Machine.{Machine, Taken, endpoint_in, is_reported, machine_from, report_table, report_taken, report_unless, step_finish, step_of, step_take, with_taken}
use Rattle.pol_history.specs.Reports.{last_report}
use Rattle.pol_history.proofs.Cuts.{commits-append}
use Rattle.pol_mapkey.specs.Entries.{Entry as MapEntry}
use Rattle.pol_model.specs.After.{after, after_all, start}
use Rattle.pol_model.specs.FullRows.{fits_limit}
use Rattle.pol_model.specs.PolicyMap.{policy_map}
use Rattle.pol_model.specs.State.{State}
use Rattle.pol_model.specs.declared.options.Options.{Options}
use Rattle.pol_model.specs.declared.request.Request.{Request}
use Rattle.pol_model.specs.declared.row.Endpoint.{Endpoint}
use Rattle.pol_machine.specs.Serial.{turn_of, turns_in}

-- ---- the revision counts the requests

counted : (s : State) (requests : List Request) → (after_all s requests).revision ≡ s.revision + length requests
counted s [] = omega arith
counted s (request ∷ requests) = counted (after s request) requests ∙ omega arith

pub revision_now : (options : Options) (history : List HistoryEvent) → (state_now options history).revision ≡ revision_of history
revision_now options history = counted (start options) (commits_in history) ∙ omega arith

-- ---- takes and finishes commit nothing

taken_same : (m : Machine) (slot : ℕ) (row : Option Endpoint) → commits_in (step_take m slot row).1.history ≡ commits_in m.history
taken_same m slot None = refl
taken_same m slot (Some row) = refl

table_same : (options : Options) (m : Machine) (taken : Taken) (table : List MapEntry) (fits : Bool)
    → commits_in (report_table options m taken table fits).1.history ≡ commits_in m.history
table_same options m taken table true =
    commits-append m.history (event.Publish taken.endpoint taken.revision table ∷ []) ∙ append-nil (commits_in m.history)
table_same options m taken table false =
    commits-append m.history (event.Blocked taken.endpoint taken.revision (length table) ∷ []) ∙ append-nil (commits_in m.history)

unless_same : (options : Options) (m : Machine) (taken : Taken) (table : List MapEntry) (reported : Bool)
    → commits_in (report_unless options m taken table reported).1.history ≡ commits_in m.history
unless_same options m taken table true = refl
unless_same options m taken table false = table_same options m taken table (fits_limit options.map_max (length table))

reported_same : (options : Options) (m : Machine) (taken : Taken) (row : Option Endpoint)
    → commits_in (report_taken options m taken row).1.history ≡ commits_in m.history
reported_same options m taken None = refl
reported_same options m taken (Some row) =
    unless_same options m taken (policy_map options (state_after options m.history taken.revision) row)
    (is_reported taken.revision (last_report taken.endpoint m.history))

finished_same : (options : Options) (m : Machine) (slot : ℕ) (taken : Option Taken) → commits_in (step_finish options m slot taken).1.history ≡ commits_in m.history
finished_same options m slot None = refl
finished_same options m slot (Some taken) =
    reported_same options (with_taken slot None m) taken (live_endpoint taken.endpoint (state_now options m.history))

pub turn_same : (options : Options) (m : Machine) (slot : ℕ) → commits_in (machine_from options m (turn_of slot)).history ≡ commits_in m.history
turn_same options m slot =
    let taken = (step_of options m (step.Take slot)).1 in
    finished_same options taken slot (taken.taken slot) ∙ taken_same m slot (endpoint_in slot (state_now options m.history).endpoints)

pub turns_same : (options : Options) (m : Machine) (endpoints : List Endpoint)
    → commits_in (machine_from options m (flat_map (λ (e : Endpoint). turn_of e.slot) endpoints)).history ≡ commits_in m.history
turns_same options m [] = refl
turns_same options m (e ∷ es) = turns_same options (machine_from options m (turn_of e.slot)) es ∙ turn_same options m e.slot
