-- What the machine keeps, whatever steps it makes.
use Rattle.std.specs.Prelude.{◌≡◌, ℕ, ◌≤◌, List, IfSome, Some}
use Rattle.pol_model.specs.declared.options.Options.{Options}
use Rattle.pol_model.specs.declared.row.Endpoint.{Endpoint}
use Rattle.pol_history.specs.declared.event.HistoryEvent.{HistoryEvent}
use Rattle.pol_history.specs.Commits.{live_endpoint, revision_of, state_after}
use Rattle.pol_history.specs.Legal.{IsLegal}
use Rattle.pol_history.specs.Machine.{AreOfPassZero, Machine, Taken}
use Rattle.pol_history.specs.Reports.{last_report}

-- What a slot has taken: the endpoint was live in the slot at the revision, which has all commits before its last report.
pub record IsTaken (options : Options) (history : List HistoryEvent) (slot : ℕ) (taken : Taken) : Type 0 where
  pub committed : taken.revision ≤ revision_of history
  pub row : Endpoint
  pub live : live_endpoint taken.endpoint (state_after options history taken.revision) ≡ Some row
  pub in_slot : row.slot ≡ slot
  pub newer : IfSome (last_report taken.endpoint history) (λ last. last.commits ≤ taken.revision)

-- its history is legal, with all commits by pass 0
pub record IsSound (options : Options) (m : Machine) : Type 0 where
  pub legal : IsLegal options m.history
  pub by_zero : AreOfPassZero m.history
  pub taken : (slot : ℕ) (taken : Taken) → m.taken slot ≡ Some taken → IsTaken options m.history slot taken
