-- An event that commits nothing leaves the requests as they are.
use Rattle.std.proofs.Common.{◌≡◌, ℕ, Bool, true, false, List, [], ◌∷◌, ◌++◌, length, Option, None, Some, Result, Ok, Err, refl, sym, ap, ◌∙◌, append-nil}
use Rattle.pol_history.specs.declared.event.HistoryEvent.{HistoryEvent}
use Rattle.pol_history.specs.declared.event.HistoryEvent.TheVariants as event
use Rattle.pol_history.specs.declared.machine.Event.{Event}
use Rattle.pol_history.specs.declared.machine.Event.TheVariants as step
use Rattle.pol_history.specs.declared.machine.Reply.{Reply}
use Rattle.pol_history.specs.Commits.{commits_in, live_endpoint, state_after, state_now}
use Rattle.pol_history.specs.Machine.{Machine, Taken, endpoint_in, is_reported, report_table, report_taken, report_unless, step_finish, step_of, step_take, with_taken}
use Rattle.pol_history.specs.Reports.{last_report}
use Rattle.pol_history.proofs.Cuts.{commits-append}
use Rattle.pol_kept.specs.Keeps.{is_other, requests_in}
use Rattle.pol_machine.specs.Stands.{Stands, StandsForSome, StepsTo, Stored, kept_of}
use Rattle.pol_mapkey.specs.Entries.{Entry as MapEntry}
use Rattle.pol_model.specs.FullRows.{fits_limit}
use Rattle.pol_model.specs.PolicyMap.{policy_map}
use Rattle.pol_model.specs.declared.options.Options.{Options}
use Rattle.pol_model.specs.declared.request.Request.{Request}
use Rattle.pol_model.specs.declared.row.Endpoint.{Endpoint}

-- a report is no commit
report_same : (history : List HistoryEvent) (new : HistoryEvent) → commits_in (new ∷ []) ≡ [] → commits_in (history ++ new ∷ []) ≡ commits_in history
report_same history new none =
    commits-append history (new ∷ []) ∙ ap (λ (rs : List Request). commits_in history ++ rs) none ∙ append-nil (commits_in history)

module _ (options : Options) (m : Machine) where
  take_same : (slot : ℕ) (found : Option Endpoint) → commits_in (step_take m slot found).1.history ≡ commits_in m.history
  take_same slot None = refl
  take_same slot (Some row) = refl

  table_same : (taken : Taken) (table : List MapEntry) (fits : Bool) → commits_in (report_table options m taken table fits).1.history ≡ commits_in m.history
  table_same taken table true = report_same m.history (event.Publish taken.endpoint taken.revision table) refl
  table_same taken table false = report_same m.history (event.Blocked taken.endpoint taken.revision (length table)) refl

  unless_same : (taken : Taken) (table : List MapEntry) (reported : Bool) → commits_in (report_unless options m taken table reported).1.history ≡ commits_in m.history
  unless_same taken table true = refl
  unless_same taken table false = table_same taken table (fits_limit options.map_max (length table))

  taken_same : (taken : Taken) (live : Option Endpoint) → commits_in (report_taken options m taken live).1.history ≡ commits_in m.history
  taken_same taken None = refl
  taken_same taken (Some row) =
      unless_same taken (policy_map options (state_after options m.history taken.revision) row) (is_reported taken.revision (last_report taken.endpoint m.history))

finish_same : (options : Options) (m : Machine) (slot : ℕ) (taken : Option Taken) → commits_in (step_finish options m slot taken).1.history ≡ commits_in m.history
finish_same options m slot None = refl
finish_same options m slot (Some taken) = taken_same options (with_taken slot None m) taken (live_endpoint taken.endpoint (state_now options m.history))

pub commits_same : (options : Options) (m : Machine) (e : Event) → is_other e ≡ true → commits_in (step_of options m e).1.history ≡ commits_in m.history
commits_same options m (step.Commit request) other = absurd (let no : false ≡ true = other in cc)
commits_same options m (step.Take slot) other = take_same options m slot (endpoint_in slot (state_now options m.history).endpoints)
commits_same options m (step.Finish slot) other = finish_same options m slot (m.taken slot)
commits_same options m (step.Look query) other = refl

-- the requests after it, and that the machine stands for some machine
pub other_same : {E : Type 0} (options : Options) (m : Machine) (e : Event) (old new : Stored) (result : Result Reply E) → is_other e ≡ true → Stands old m
    → StepsTo options m e new result → (requests_in new ≡ requests_in old) × StandsForSome (kept_of new)
other_same options m e old new (Ok reply) other stands steps =
    (steps.1.at.journal ∙ commits_same options m e other ∙ sym stands.at.journal, record { machine = (step_of options m e).1; stands = steps.1 })
other_same options m e old new (Err error) other stands steps = (steps.at.journal ∙ sym stands.at.journal, record { machine = m; stands = steps })
