-- What a slot keeps after a regeneration, where this is the history that its pass has seen.
use Rattle.std.specs.Prelude.{◌≡◌, ℕ, Bool, true, false, List, Option, None, Some, IfSome, option_map}
use Rattle.pol_history.specs.declared.event.HistoryEvent.{HistoryEvent}
use Rattle.pol_history.specs.Commits.{state_now}
use Rattle.pol_history.specs.Machine.{endpoint_id, endpoint_in}
use Rattle.pol_history.specs.Reports.{last_report}
use Rattle.pol_model.specs.declared.options.Options.{Options}
use Rattle.pol_model.specs.declared.row.Endpoint.{Endpoint}
use Rattle.pol_node.specs.declared.kept.KeptEndpoint.{KeptEndpoint}
use Rattle.pol_node.specs.declared.report.RegenError.{RegenError}
use Rattle.pol_node.specs.declared.report.RegenError.TheVariants as error
use Rattle.pol_node.specs.Kept.{IsStill, Keeps, KeptReport, report_in}

-- ---- what contracts see

-- what is kept is the slot's live endpoint, with its last report
pub record KeepsEndpoint (options : Options) (history : List HistoryEvent) (slot : ℕ) (kept : Option KeptReport) : Type 0 where
  pub row : Endpoint
  pub there : endpoint_in slot (state_now options history).endpoints ≡ Some row
  pub is : kept ≡ Some (record { endpoint = endpoint_id row; last = last_report (endpoint_id row) history })

-- it is, unless the answer is that the endpoint is gone: then nothing is kept
abbrev pub KeepsUnlessGone : Options → List HistoryEvent → ℕ → Option KeptReport → Bool → Type 0
KeepsUnlessGone options history slot kept true = kept ≡ None
KeepsUnlessGone options history slot kept false = KeepsEndpoint options history slot kept

-- Where nothing was reported. At want of memory what is kept is still the last report of the slot's endpoint; where another has
-- reported it, nothing is kept.
abbrev pub KeepsAfterError : Options → List HistoryEvent → ℕ → Option KeptReport → RegenError → Type 0
KeepsAfterError options history slot kept error.Memory = IsStill options history slot kept
KeepsAfterError options history slot kept error.Overtaken = kept ≡ None

-- ---- what lies behind it

-- what is kept is of the slot's live endpoint
pub record KeepsAt (options : Options) (history : List HistoryEvent) (slot : ℕ) (kept : KeptEndpoint) : Type 0 where
  pub keeps : Keeps options history kept
  pub in_slot : keeps.row.slot ≡ slot

-- what is kept, if anything is, goes on, and still is the last report of the slot's endpoint
pub record KeepsStill (options : Options) (history : List HistoryEvent) (slot : ℕ) (kept : Option KeptEndpoint) : Type 0 where
  pub keeps : IfSome kept (Keeps options history)
  pub still : IsStill options history slot (option_map report_in kept)
